use Rattle.std.proofs.Common.{◌⊎◌, ◌++◌, Bool, true, false, Err, List, Option, [], ℕ, inr, refl, subst, sym, ◌∙◌}
use Rattle.std.proofs.KnownBytes.{Appends-nil, Consumes-nil}
use Rattle.can_record_text.specs.RecordFaults.{Reads}
use Rattle.can_replay.specs.declared.wanted.Wanted.{Wanted}
use Rattle.can_replay.specs.declared.text_audit.Phase.{Phase}
use Rattle.can_replay.specs.declared.text_audit.TextAudit.{TextAudit}
use Rattle.can_replay.specs.EventTexts.{HasWritten, has_events}
use Rattle.can_replay.specs.TextAudits.{AreTaken, IsLine, MayFollow, bus_taken}
use Rattle.canbusd_io.specs.Files.{IsOfReading}
use Rattle.canbusd_audit.specs.Audited.{BecomesOf, FaultsLine, FitsBus, IsInputTaken, IsNextLine, IsOfOtherBus, Leaves, Puts, StopsEvents, output_of}
use Rattle.canbusd_audit.specs.declared.buffered.Buffered.{Buffered}
use Rattle.canbusd_audit.proofs.Fronts.{fits_at_start, known_left, known_told, leaves_line, leaves_stopped, leaves_unread}
use Rattle.canbusd_io.specs.declared.report.Report.{Report}
use Rattle.canbusd_audit.proofs.Telling.{passed_on}
use Rattle.canbusd_audit.proofs.Underway.{ends, ends_torn, fails_held, fails_so, goes_on, goes_text, put_more, put_on, stops}
use Rattle.canbusd_audit.proofs.line_taking.take_lines.Goals as goal

puts_none : {W : Type 0} (has : Bool) (contents : W → Option (List ℕ)) (a : W) → Puts has contents a a []
puts_none false contents a = refl
puts_none true contents a = Appends-nil (contents a)

pub loop-init : goal.loop-init
loop-init g c = record {
  put = λ w start. record {
    events = [];
    underway = record { text = []; consumed = Consumes-nil (g.R.Read.remaining c.args.input.now); written = start };
    put = puts_none (has_events c.args.audit.now.events) g.W.Write.contents c.args.output.now;
  };
  none = c.requires.none;
  fits = fits_at_start c.args.ifaces c.args.audit.now.phase c.requires.written.1.taken;
  asked = refl;
}

pub returns-in-Ok-End-clause-taken : goal.returns-in-Ok-End-clause-taken
returns-in-Ok-End-clause-taken g c = λ w start.
    let now = g.R.Read.remaining c.loop.input in
    let ended = subst (λ (h : Buffered). BecomesOf h now (g.R.Read.remaining c.take_held.new.input) c.loop.audit c.take_held.new.audit) c.in-Ok-End.field-0-is c.in-Ok-End.ensures.became in
    let first = g.R.Read.remaining c.args.input.now in
    let all = ends w first now c.loop.audit g.W.Write.contents c.args.output.now c.loop.output c.loop.invariant.none (c.loop.invariant.put w start) ended.0 in
    subst (λ (l : List ℕ). IsInputTaken w first c.take_held.new.audit l g.W.Write.contents c.args.output.now c.loop.output) (sym {A = List ℕ} c.clear.ensures.items)
    (subst (λ (a : TextAudit). IsInputTaken w first a [] g.W.Write.contents c.args.output.now c.loop.output) (sym ended.1) all)

pub returns-in-Ok-End-clause-fits : goal.returns-in-Ok-End-clause-fits
returns-in-Ok-End-clause-fits g c =
    let ended = subst (λ (h : Buffered). BecomesOf h (g.R.Read.remaining c.loop.input) (g.R.Read.remaining c.take_held.new.input) c.loop.audit c.take_held.new.audit) c.in-Ok-End.field-0-is c.in-Ok-End.ensures.became in
    subst (λ (a : TextAudit). FitsBus c.args.ifaces (bus_taken a.phase)) (sym ended.1) c.loop.invariant.fits

pub returns-in-Ok-Wrong-clause-fault : goal.returns-in-Ok-Wrong-clause-fault
returns-in-Ok-Wrong-clause-fault g c =
    let now = g.R.Read.remaining c.loop.input in
    let became = subst (λ (h : Buffered). BecomesOf h now (g.R.Read.remaining c.take_held.new.input) c.loop.audit c.take_held.new.audit) c.in-Ok-Wrong.field-0-is c.in-Ok-Wrong.ensures.became in
    let v = c.requires.written.0 in
    let put = c.loop.invariant.put v c.requires.written.1 in
    inr (inr (fails_held v (g.R.Read.remaining c.args.input.now) now c.loop.audit put.events c.in-Ok-Wrong.fault c.held_failure.result.error c.held_failure.ensures put.underway became.0))

pub returns-in-Ok-Wrong-clause-written : goal.returns-in-Ok-Wrong-clause-written
returns-in-Ok-Wrong-clause-written g c = λ w start.
    let now = g.R.Read.remaining c.loop.input in
    let after = g.R.Read.remaining c.take_held.new.input in
    let became = subst (λ (h : Buffered). BecomesOf h now after c.loop.audit c.take_held.new.audit) c.in-Ok-Wrong.field-0-is c.in-Ok-Wrong.ensures.became in
    inr (leaves_stopped w c.args.ifaces (g.R.Read.remaining c.args.input.now) now after c.args.audit.now.events c.loop.audit c.take_held.new.audit c.in-Ok-Wrong.fault c.held_failure.result.error g.W.Write.contents c.args.output.now c.loop.output c.put_events.new.output
    c.loop.invariant.asked c.take_held.ensures.asked c.loop.invariant.fits (c.loop.invariant.put w start) became.1 c.in_ok-put_events-in-Ok-Wrong.ensures.put c.held_failure.ensures)

pub returns-in-Err-clause-fault : goal.returns-in-Err-clause-fault
returns-in-Err-clause-fault g c = inr (inr (stops (g.R.Read.remaining c.args.input.now) c.read_failure.result.error c.read_failure.ensures))

pub returns-in-Err-clause-written : goal.returns-in-Err-clause-written
returns-in-Err-clause-written g c = λ w start.
    inr (leaves_unread w c.args.ifaces (g.R.Read.remaining c.args.input.now) (g.R.Read.remaining c.loop.input) c.args.audit.now.events c.loop.audit c.read_failure.result.error g.W.Write.contents c.args.output.now c.loop.output (sym c.loop.invariant.asked)
    c.loop.invariant.none c.loop.invariant.fits (c.loop.invariant.put w start) c.read_failure.ensures)

-- the buffered lines were taken and their events had to be written, but the bus is not the wanted one or writing failed
pub returns-in_err-put_known-in-Ok-Lines-clause-fault : goal.returns-in_err-put_known-in-Ok-Lines-clause-fault
returns-in_err-put_known-in-Ok-Lines-clause-fault g c =
    let w = c.requires.written.0 in
    let start = c.requires.written.1 in
    let first = g.R.Read.remaining c.args.input.now in
    let now = g.R.Read.remaining c.loop.input in
    let held = g.R.Read.remaining c.take_held.new.input in
    let contents = g.W.Write.contents in
    let became = subst (λ (h : Buffered). BecomesOf h now held c.loop.audit c.take_held.new.audit) c.in-Ok-Lines.field-0-is c.in-Ok-Lines.ensures.became in
    let failure = c.in_err-put_known-in-Ok-Lines.field-0.0 in
    let p = c.loop.invariant.put w start in
    passed_on (λ (x : Report). StopsEvents (has_events c.args.audit.now.events) x.error ⊎ (IsOfOtherBus c.args.ifaces first x.error ⊎ FaultsLine first x.error)) failure c.from_residual.result c.from_residual.ensures.1
    (known_told w (has_events c.take_held.new.audit.events) (has_events c.args.audit.now.events) c.args.ifaces first held c.take_held.new.audit p.events failure.error c.loop.output c.put_known.new.output (c.take_held.ensures.asked ∙ c.loop.invariant.asked)
    (became w first p.events p.underway).0 c.in_err-put_known-in-Ok-Lines.ensures.fault)

pub returns-in_err-put_known-in-Ok-Lines-clause-written : goal.returns-in_err-put_known-in-Ok-Lines-clause-written
returns-in_err-put_known-in-Ok-Lines-clause-written g c =
    let first = g.R.Read.remaining c.args.input.now in
    let now = g.R.Read.remaining c.loop.input in
    let held = g.R.Read.remaining c.take_held.new.input in
    let contents = g.W.Write.contents in
    let became = subst (λ (h : Buffered). BecomesOf h now held c.loop.audit c.take_held.new.audit) c.in-Ok-Lines.field-0-is c.in-Ok-Lines.ensures.became in
    let failure = c.in_err-put_known-in-Ok-Lines.field-0.0 in
    passed_on (λ (x : Report). (w : Wanted) → HasWritten w [] [] c.args.audit.now → Leaves (output_of w c.args.audit.now.events) c.args.ifaces first x.error contents c.args.output.now c.put_known.new.output) failure c.from_residual.result c.from_residual.ensures.1
    (λ w start.
    let p = c.loop.invariant.put w start in
    let on = became w first p.events p.underway in
    known_left w c.args.ifaces first now held c.args.audit.now.events c.loop.audit c.take_held.new.audit failure.error contents c.args.output.now c.loop.output c.put_known.new.output (sym c.loop.invariant.asked) c.loop.invariant.none p on.0 on.1 on.2
    c.loop.invariant.fits c.in_err-put_known-in-Ok-Lines.ensures.fault)

pub returns-in-Ok-false-clause-taken : goal.returns-in-Ok-false-clause-taken
returns-in-Ok-false-clause-taken g c = λ w start.
    let first = g.R.Read.remaining c.args.input.now in
    let now = g.R.Read.remaining c.loop.input in
    let held = g.R.Read.remaining c.take_held.new.input in
    let after = g.R.Read.remaining c.next_line.new.input in
    let line = c.next_line.new.line.items in
    let contents = g.W.Write.contents in
    let became = subst (λ (h : Buffered). BecomesOf h now held c.loop.audit c.take_held.new.audit) c.in-Ok-Lines.field-0-is c.in-Ok-Lines.ensures.became in
    let on = put_on w first now held c.loop.audit c.take_held.new.audit contents c.args.output.now c.loop.output c.take_held.ensures.asked (λ events u. (became w first events u).0) (c.loop.invariant.put w start) in
    let put = put_more w first held c.take_held.new.audit c.put_known.new.audit contents c.args.output.now c.loop.output c.put_known.new.output c.put_known.ensures.asked c.in_ok-put_known-in-Ok-Lines.ensures.written c.in_ok-put_known-in-Ok-Lines.ensures.put on in
    let rest = subst (λ (b : Bool). IsNextLine b held after line) c.in-Ok-false.field-0-test c.in-Ok-false.ensures.read in
    ends_torn w first held c.put_known.new.audit contents c.args.output.now c.put_known.new.output line c.in_ok-put_known-in-Ok-Lines.ensures.none put rest.0 rest.1

pub returns-in-Err-next_line-clause-fault : goal.returns-in-Err-next_line-clause-fault
returns-in-Err-next_line-clause-fault g c = inr (inr (stops (g.R.Read.remaining c.args.input.now) c.in-Err-next_line.failure.error c.in-Err-next_line.ensures.fault))

pub returns-in-Err-next_line-clause-written : goal.returns-in-Err-next_line-clause-written
returns-in-Err-next_line-clause-written g c = λ w start.
    let first = g.R.Read.remaining c.args.input.now in
    let now = g.R.Read.remaining c.loop.input in
    let held = g.R.Read.remaining c.take_held.new.input in
    let contents = g.W.Write.contents in
    let became = subst (λ (h : Buffered). BecomesOf h now held c.loop.audit c.take_held.new.audit) c.in-Ok-Lines.field-0-is c.in-Ok-Lines.ensures.became in
    let on = put_on w first now held c.loop.audit c.take_held.new.audit contents c.args.output.now c.loop.output c.take_held.ensures.asked (λ events u. (became w first events u).0) (c.loop.invariant.put w start) in
    let put = put_more w first held c.take_held.new.audit c.put_known.new.audit contents c.args.output.now c.loop.output c.put_known.new.output c.put_known.ensures.asked c.in_ok-put_known-in-Ok-Lines.ensures.written c.in_ok-put_known-in-Ok-Lines.ensures.put on in
    let kind = sym (c.put_known.ensures.asked ∙ (c.take_held.ensures.asked ∙ c.loop.invariant.asked)) in
    let fits = subst (λ (p : Phase). FitsBus c.args.ifaces (bus_taken p)) (sym c.put_known.ensures.phase) c.in_ok-put_known-in-Ok-Lines.ensures.fits in
    inr (leaves_unread w c.args.ifaces first held c.args.audit.now.events c.put_known.new.audit c.in-Err-next_line.failure.error contents c.args.output.now c.put_known.new.output kind c.in_ok-put_known-in-Ok-Lines.ensures.none fits put
    c.in-Err-next_line.ensures.fault)

pub returns-in-Err-carry-clause-fault : goal.returns-in-Err-carry-clause-fault
returns-in-Err-carry-clause-fault g c =
    let w = c.requires.written.0 in
    let start = c.requires.written.1 in
    let first = g.R.Read.remaining c.args.input.now in
    let now = g.R.Read.remaining c.loop.input in
    let held = g.R.Read.remaining c.take_held.new.input in
    let after = g.R.Read.remaining c.next_line.new.input in
    let line = c.next_line.new.line.items in
    let contents = g.W.Write.contents in
    let became = subst (λ (h : Buffered). BecomesOf h now held c.loop.audit c.take_held.new.audit) c.in-Ok-Lines.field-0-is c.in-Ok-Lines.ensures.became in
    let on = put_on w first now held c.loop.audit c.take_held.new.audit contents c.args.output.now c.loop.output c.take_held.ensures.asked (λ events u. (became w first events u).0) (c.loop.invariant.put w start) in
    let put = put_more w first held c.take_held.new.audit c.put_known.new.audit contents c.args.output.now c.loop.output c.put_known.new.output c.put_known.ensures.asked c.in_ok-put_known-in-Ok-Lines.ensures.written c.in_ok-put_known-in-Ok-Lines.ensures.put on in
    inr (inr (fails_so w first held after line put.events c.put_known.new.audit c.in-Err-carry.fault c.line_failure.result.error c.line_failure.ensures put.underway
    (subst (λ (b : Bool). IsNextLine b held after line) c.in-Ok-true.field-0-test c.in-Ok-true.ensures.read)
    (subst (λ (l : List ℕ). (text rest : List ℕ) → AreTaken text c.put_known.new.audit → IsLine l → MayFollow l rest → Reads (text ++ (l ++ rest)) (Err c.in-Err-carry.fault)) c.deref.ensures.value c.in-Err-carry.ensures.fault)))

pub returns-in-Err-carry-clause-written : goal.returns-in-Err-carry-clause-written
returns-in-Err-carry-clause-written g c = λ w start.
    let first = g.R.Read.remaining c.args.input.now in
    let now = g.R.Read.remaining c.loop.input in
    let held = g.R.Read.remaining c.take_held.new.input in
    let after = g.R.Read.remaining c.next_line.new.input in
    let line = c.next_line.new.line.items in
    let contents = g.W.Write.contents in
    let became = subst (λ (h : Buffered). BecomesOf h now held c.loop.audit c.take_held.new.audit) c.in-Ok-Lines.field-0-is c.in-Ok-Lines.ensures.became in
    let on = put_on w first now held c.loop.audit c.take_held.new.audit contents c.args.output.now c.loop.output c.take_held.ensures.asked (λ events u. (became w first events u).0) (c.loop.invariant.put w start) in
    let put = put_more w first held c.take_held.new.audit c.put_known.new.audit contents c.args.output.now c.loop.output c.put_known.new.output c.put_known.ensures.asked c.in_ok-put_known-in-Ok-Lines.ensures.written c.in_ok-put_known-in-Ok-Lines.ensures.put on in
    let kind = sym (c.put_known.ensures.asked ∙ (c.take_held.ensures.asked ∙ c.loop.invariant.asked)) in
    let fits = subst (λ (p : Phase). FitsBus c.args.ifaces (bus_taken p)) (sym c.put_known.ensures.phase) c.in_ok-put_known-in-Ok-Lines.ensures.fits in
    inr (leaves_line w c.args.ifaces first held after line c.args.audit.now.events c.put_known.new.audit c.in-Err-carry.fault c.line_failure.result.error contents c.args.output.now c.put_known.new.output kind c.in_ok-put_known-in-Ok-Lines.ensures.none fits put
    (subst (λ (b : Bool). IsNextLine b held after line) c.in-Ok-true.field-0-test c.in-Ok-true.ensures.read)
    (subst (λ (l : List ℕ). (text rest : List ℕ) → AreTaken text c.put_known.new.audit → IsLine l → MayFollow l rest → Reads (text ++ (l ++ rest)) (Err c.in-Err-carry.fault)) c.deref.ensures.value c.in-Err-carry.ensures.fault) c.line_failure.ensures)

pub returns-in_err-put_known-in-Ok-clause-fault : goal.returns-in_err-put_known-in-Ok-clause-fault
returns-in_err-put_known-in-Ok-clause-fault g c =
    let w = c.requires.written.0 in
    let start = c.requires.written.1 in
    let first = g.R.Read.remaining c.args.input.now in
    let now = g.R.Read.remaining c.loop.input in
    let held = g.R.Read.remaining c.take_held.new.input in
    let after = g.R.Read.remaining c.next_line.new.input in
    let line = c.next_line.new.line.items in
    let contents = g.W.Write.contents in
    let became = subst (λ (h : Buffered). BecomesOf h now held c.loop.audit c.take_held.new.audit) c.in-Ok-Lines.field-0-is c.in-Ok-Lines.ensures.became in
    let read = subst (λ (b : Bool). IsNextLine b held after line) c.in-Ok-true.field-0-test c.in-Ok-true.ensures.read in
    let step = subst (λ (l : List ℕ). (w : Wanted) (events text : List ℕ) → HasWritten w text events c.put_known.new.audit → IsLine l → HasWritten w (text ++ l) events c.carry.new.self) c.deref.ensures.value c.in-Ok.ensures.written in
    let on = put_on w first now held c.loop.audit c.take_held.new.audit contents c.args.output.now c.loop.output c.take_held.ensures.asked (λ events u. (became w first events u).0) (c.loop.invariant.put w start) in
    let put = put_more w first held c.take_held.new.audit c.put_known.new.audit contents c.args.output.now c.loop.output c.put_known.new.output c.put_known.ensures.asked c.in_ok-put_known-in-Ok-Lines.ensures.written c.in_ok-put_known-in-Ok-Lines.ensures.put on in
    let failure = c.in_err-put_known-in-Ok.field-0.0 in
    let kind = c.carry.ensures.events ∙ (c.put_known.ensures.asked ∙ (c.take_held.ensures.asked ∙ c.loop.invariant.asked)) in
    passed_on (λ (x : Report). StopsEvents (has_events c.args.audit.now.events) x.error ⊎ (IsOfOtherBus c.args.ifaces first x.error ⊎ FaultsLine first x.error)) failure c.from_residual-in_err-put_known-in-Ok.result c.from_residual-in_err-put_known-in-Ok.ensures.1
    (known_told w (has_events c.carry.new.self.events) (has_events c.args.audit.now.events) c.args.ifaces first after c.carry.new.self put.events failure.error c.put_known.new.output c.put_known-in-Ok.new.output kind
    (goes_on w first held after line put.events c.put_known.new.audit c.carry.new.self put.underway read (step w)) c.in_err-put_known-in-Ok.ensures.fault)

pub returns-in_err-put_known-in-Ok-clause-written : goal.returns-in_err-put_known-in-Ok-clause-written
returns-in_err-put_known-in-Ok-clause-written g c =
    let first = g.R.Read.remaining c.args.input.now in
    let now = g.R.Read.remaining c.loop.input in
    let held = g.R.Read.remaining c.take_held.new.input in
    let after = g.R.Read.remaining c.next_line.new.input in
    let line = c.next_line.new.line.items in
    let contents = g.W.Write.contents in
    let became = subst (λ (h : Buffered). BecomesOf h now held c.loop.audit c.take_held.new.audit) c.in-Ok-Lines.field-0-is c.in-Ok-Lines.ensures.became in
    let read = subst (λ (b : Bool). IsNextLine b held after line) c.in-Ok-true.field-0-test c.in-Ok-true.ensures.read in
    let step = subst (λ (l : List ℕ). (w : Wanted) (events text : List ℕ) → HasWritten w text events c.put_known.new.audit → IsLine l → HasWritten w (text ++ l) events c.carry.new.self) c.deref.ensures.value c.in-Ok.ensures.written in
    let failure = c.in_err-put_known-in-Ok.field-0.0 in
    let kind = sym (c.put_known.ensures.asked ∙ (c.take_held.ensures.asked ∙ c.loop.invariant.asked)) in
    let fits = subst (λ (p : Phase). FitsBus c.args.ifaces (bus_taken p)) (sym c.put_known.ensures.phase) c.in_ok-put_known-in-Ok-Lines.ensures.fits in
    passed_on (λ (x : Report). (w : Wanted) → HasWritten w [] [] c.args.audit.now → Leaves (output_of w c.args.audit.now.events) c.args.ifaces first x.error contents c.args.output.now c.put_known-in-Ok.new.output) failure c.from_residual-in_err-put_known-in-Ok.result c.from_residual-in_err-put_known-in-Ok.ensures.1
    (λ w start.
    let on = put_on w first now held c.loop.audit c.take_held.new.audit contents c.args.output.now c.loop.output c.take_held.ensures.asked (λ events u. (became w first events u).0) (c.loop.invariant.put w start) in
    let put = put_more w first held c.take_held.new.audit c.put_known.new.audit contents c.args.output.now c.loop.output c.put_known.new.output c.put_known.ensures.asked c.in_ok-put_known-in-Ok-Lines.ensures.written c.in_ok-put_known-in-Ok-Lines.ensures.put on in
    known_left w c.args.ifaces first held after c.args.audit.now.events c.put_known.new.audit c.carry.new.self failure.error contents c.args.output.now c.put_known.new.output c.put_known-in-Ok.new.output kind c.in_ok-put_known-in-Ok-Lines.ensures.none put
    (goes_on w first held after line put.events c.put_known.new.audit c.carry.new.self put.underway read (step w)) line
    (goes_text w first held after line put.events c.put_known.new.audit c.carry.new.self put.underway read (step w)) fits c.in_err-put_known-in-Ok.ensures.fault)

pub loop-preserved : goal.loop-preserved
loop-preserved g c = record {
  put = λ w start.
      let first = g.R.Read.remaining c.args.input.now in
      let now = g.R.Read.remaining c.loop.input in
      let held = g.R.Read.remaining c.take_held.new.input in
      let after = g.R.Read.remaining c.next_line.new.input in
      let line = c.next_line.new.line.items in
      let contents = g.W.Write.contents in
      let became = subst (λ (h : Buffered). BecomesOf h now held c.loop.audit c.take_held.new.audit) c.in-Ok-Lines.field-0-is c.in-Ok-Lines.ensures.became in
      let on = put_on w first now held c.loop.audit c.take_held.new.audit contents c.args.output.now c.loop.output c.take_held.ensures.asked (λ events u. (became w first events u).0) (c.loop.invariant.put w start) in
      let put = put_more w first held c.take_held.new.audit c.put_known.new.audit contents c.args.output.now c.loop.output c.put_known.new.output c.put_known.ensures.asked c.in_ok-put_known-in-Ok-Lines.ensures.written c.in_ok-put_known-in-Ok-Lines.ensures.put on in
      let read = subst (λ (b : Bool). IsNextLine b held after line) c.in-Ok-true.field-0-test c.in-Ok-true.ensures.read in
      let step = subst (λ (l : List ℕ). (w : Wanted) (events text : List ℕ) → HasWritten w text events c.put_known.new.audit → IsLine l → HasWritten w (text ++ l) events c.carry.new.self) c.deref.ensures.value c.in-Ok.ensures.written in
      let taken = put_on w first held after c.put_known.new.audit c.carry.new.self contents c.args.output.now c.put_known.new.output c.carry.ensures.events (λ events u. goes_on w first held after line events c.put_known.new.audit c.carry.new.self u read (step w)) put in
      put_more w first after c.carry.new.self c.put_known-in-Ok.new.audit contents c.args.output.now c.put_known.new.output c.put_known-in-Ok.new.output c.put_known-in-Ok.ensures.asked c.in_ok-put_known-in-Ok.ensures.written c.in_ok-put_known-in-Ok.ensures.put taken;
  none = c.in_ok-put_known-in-Ok.ensures.none;
  fits = subst (λ (p : Phase). FitsBus c.args.ifaces (bus_taken p)) (sym c.put_known-in-Ok.ensures.phase) c.in_ok-put_known-in-Ok.ensures.fits;
  asked = c.put_known-in-Ok.ensures.asked ∙ (c.carry.ensures.events ∙ (c.put_known.ensures.asked ∙ (c.take_held.ensures.asked ∙ c.loop.invariant.asked)));
}

pub returns-clause-fault : goal.returns-clause-fault
returns-clause-fault g c = inr (inr (stops (g.R.Read.remaining c.args.input.now) c.new.result.error (subst IsOfReading (sym c.new.ensures) tt)))

pub returns-clause-written : goal.returns-clause-written
returns-clause-written g c = λ w start.
    inr (leaves_unread w c.args.ifaces (g.R.Read.remaining c.args.input.now) (g.R.Read.remaining c.loop.input) c.args.audit.now.events c.loop.audit c.new.result.error g.W.Write.contents c.args.output.now c.loop.output (sym c.loop.invariant.asked)
    c.loop.invariant.none c.loop.invariant.fits (c.loop.invariant.put w start) (subst IsOfReading (sym c.new.ensures) tt))
