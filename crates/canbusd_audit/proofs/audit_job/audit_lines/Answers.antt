use Rattle.std.proofs.Common.{◌≡◌, ◌≢◌, Bool, Err, IfOk, List, [], ◌++◌, Option, Some, ℕ, append-nil, subst, sym, inr, ◌∙◌}
use Rattle.std.proofs.lemmas.List.Elements.{All-nil}
use Rattle.can_replay.specs.declared.wanted.Wanted.{Wanted}
use Rattle.can_replay.specs.declared.text_audit.Phase.{Phase}
use Rattle.can_replay.specs.declared.events_text.EventsText.{EventsText}
use Rattle.can_replay.specs.declared.text_fault.WrongLine.{WrongLine}
use Rattle.can_replay.specs.declared.text_fault.TextFault.TheVariants as found
use Rattle.can_replay.specs.EventTexts.{AreWritten, EndsEvents, wrong_so_far}
use Rattle.can_replay.specs.TextAudits.{HasCome, Reports, bus_taken}
use Rattle.canbusd_audit.specs.Audited.{FaultsInput, FaultsLast, FaultsLine, FitsBus, IsTextIn, IsUnread, Leaves, TakesLast, asks_events, wanted_of}
use Rattle.canbusd_audit.proofs.Underway.{asked_so}
use Rattle.canbusd_io.specs.declared.report.Report.{Report}
use Rattle.canbusd_audit.proofs.Telling.{Either, Or, all_told, all_written, known_left_last, known_or, last_left, last_told, left_whole, line_or, memory_left, memory_told, noted, nothing_left, or_text, passed_on, ready_last}
use Rattle.canbusd_audit.proofs.audit_job.audit_lines.Goals as goal

pub tell_end-requires : goal.tell_end-requires
tell_end-requires g c =
    let last = subst (λ (l : List ℕ). TakesLast c.take_lines.new.audit l c.take_last.new.audit) c.deref.ensures.value c.in_ok-take_last.ensures.taken in
    let t = ready_last (wanted_of c.args.asked) _ c.take_lines.new.audit c.take_last.new.audit c.put_known.new.audit c.take_lines.new.torn.items g.W.Write.contents c.args.output.now c.take_lines.new.output c.put_known.new.output (c.in_ok-lines.ensures.taken (wanted_of c.args.asked) c.in_ok-audit.ensures.written) last c.take_last.ensures.asked
    c.put_known.ensures.asked c.in_ok-put_known.ensures.written c.in_ok-put_known.ensures.none c.in_ok-put_known.ensures.put in
    let told = subst (λ (p : Phase). (text : List ℕ) → HasCome text p → Reports text c.finish.result) c.last_rules.ensures.phase c.finish.ensures.told in
    noted _ c.finish.result (told _ t.written.taken)

pub returns-in_err-audit-clause-fault : goal.returns-in_err-audit-clause-fault
returns-in_err-audit-clause-fault g c =
    let first = g.R.Read.remaining c.args.input.now in
    let failure = c.in_err-audit.field-0.0 in
    passed_on (Either (asks_events c.args.asked) (Or c.args.ifaces first (FaultsInput first))) failure c.from_residual.result c.from_residual.ensures.1 (inr (inr (memory_told first failure.error c.in_err-audit.ensures.fault)))

pub returns-in_err-audit-clause-written : goal.returns-in_err-audit-clause-written
returns-in_err-audit-clause-written g c =
    let first = g.R.Read.remaining c.args.input.now in
    let failure = c.in_err-audit.field-0.0 in
    passed_on (λ (x : Report). Leaves c.args.asked c.args.ifaces first x.error g.W.Write.contents c.args.output.now c.args.output.now) failure c.from_residual.result c.from_residual.ensures.1
    (nothing_left c.args.asked c.args.ifaces first failure.error g.W.Write.contents c.args.output.now (subst IsUnread (sym c.in_err-audit.ensures.fault) tt))

pub returns-in_err-lines-clause-fault : goal.returns-in_err-lines-clause-fault
returns-in_err-lines-clause-fault g c =
    let first = g.R.Read.remaining c.args.input.now in
    let failure = c.in_err-lines.field-0.0 in
    passed_on (Either (asks_events c.args.asked) (Or c.args.ifaces first (FaultsInput first))) failure c.from_residual-in_err-lines.result c.from_residual-in_err-lines.ensures.1
    (line_or (asks_events c.args.asked) c.args.ifaces first failure (subst (λ (b : Bool). Either b (Or c.args.ifaces first (FaultsLine first)) failure) c.in_ok-audit.ensures.asked c.in_err-lines.ensures.fault))

pub returns-in_err-lines-clause-written : goal.returns-in_err-lines-clause-written
returns-in_err-lines-clause-written g c =
    let first = g.R.Read.remaining c.args.input.now in
    let failure = c.in_err-lines.field-0.0 in
    passed_on (λ (x : Report). Leaves c.args.asked c.args.ifaces first x.error g.W.Write.contents c.args.output.now c.take_lines.new.output) failure c.from_residual-in_err-lines.result c.from_residual-in_err-lines.ensures.1
    (subst (λ (o : Option Wanted). Leaves o c.args.ifaces first failure.error g.W.Write.contents c.args.output.now c.take_lines.new.output) (sym (asked_so c.args.asked _ c.in_ok-audit.ensures.asked))
    (c.in_err-lines.ensures.written (wanted_of c.args.asked) c.in_ok-audit.ensures.written))

pub returns-in_err-take_last-clause-fault : goal.returns-in_err-take_last-clause-fault
returns-in_err-take_last-clause-fault g c =
    let first = g.R.Read.remaining c.args.input.now in
    let failure = c.in_err-take_last.field-0.0 in
    passed_on (Either (asks_events c.args.asked) (Or c.args.ifaces first (FaultsInput first))) failure c.from_residual-in_err-take_last.result c.from_residual-in_err-take_last.ensures.1
    (inr (inr (last_told (wanted_of c.args.asked) first c.take_lines.new.torn.items c.take_lines.new.audit g.W.Write.contents c.args.output.now c.take_lines.new.output failure.error (c.in_ok-lines.ensures.taken (wanted_of c.args.asked) c.in_ok-audit.ensures.written)
    (subst (λ (l : List ℕ). FaultsLast c.take_lines.new.audit l failure.error) c.deref.ensures.value c.in_err-take_last.ensures.fault))))

pub returns-in_err-take_last-clause-written : goal.returns-in_err-take_last-clause-written
returns-in_err-take_last-clause-written g c =
    let first = g.R.Read.remaining c.args.input.now in
    let failure = c.in_err-take_last.field-0.0 in
    let kind = c.take_lines.ensures.asked ∙ c.in_ok-audit.ensures.asked in
    passed_on (λ (x : Report). Leaves c.args.asked c.args.ifaces first x.error g.W.Write.contents c.args.output.now c.take_lines.new.output) failure c.from_residual-in_err-take_last.result c.from_residual-in_err-take_last.ensures.1
    (last_left c.args.asked c.args.ifaces first c.take_lines.new.audit c.take_lines.new.torn.items g.W.Write.contents c.args.output.now c.take_lines.new.output failure.error kind (c.in_ok-lines.ensures.taken (wanted_of c.args.asked) c.in_ok-audit.ensures.written)
    c.in_ok-lines.ensures.fits (subst (λ (l : List ℕ). FaultsLast c.take_lines.new.audit l failure.error) c.deref.ensures.value c.in_err-take_last.ensures.fault) c.in_err-take_last.ensures.line)

pub returns-in_err-put_known-clause-fault : goal.returns-in_err-put_known-clause-fault
returns-in_err-put_known-clause-fault g c =
    let first = g.R.Read.remaining c.args.input.now in
    let failure = c.in_err-put_known.field-0.0 in
    let kind = c.take_last.ensures.asked ∙ (c.take_lines.ensures.asked ∙ c.in_ok-audit.ensures.asked) in
    let taken = c.in_ok-lines.ensures.taken (wanted_of c.args.asked) c.in_ok-audit.ensures.written in
    let torn = c.take_lines.new.torn.items in
    let last = subst (λ (l : List ℕ). TakesLast c.take_lines.new.audit l c.take_last.new.audit) c.deref.ensures.value c.in_ok-take_last.ensures.taken in
    passed_on (Either (asks_events c.args.asked) (Or c.args.ifaces first (FaultsInput first))) failure c.from_residual-in_err-put_known.result c.from_residual-in_err-put_known.ensures.1
    (known_or _ (asks_events c.args.asked) c.args.ifaces first (taken.lines ++ torn) [] c.take_last.new.audit.phase failure c.take_lines.new.output c.put_known.new.output (FaultsInput first) kind
    (subst (IsTextIn first) (sym (append-nil (taken.lines ++ torn))) taken.is_text) (last (wanted_of c.args.asked) taken.lines taken.events taken.written).taken c.in_err-put_known.ensures.fault)

pub returns-in_err-put_known-clause-written : goal.returns-in_err-put_known-clause-written
returns-in_err-put_known-clause-written g c =
    let first = g.R.Read.remaining c.args.input.now in
    let failure = c.in_err-put_known.field-0.0 in
    let torn = c.take_lines.new.torn.items in
    let last = subst (λ (l : List ℕ). TakesLast c.take_lines.new.audit l c.take_last.new.audit) c.deref.ensures.value c.in_ok-take_last.ensures.taken in
    passed_on (λ (x : Report). Leaves c.args.asked c.args.ifaces first x.error g.W.Write.contents c.args.output.now c.put_known.new.output) failure c.from_residual-in_err-put_known.result c.from_residual-in_err-put_known.ensures.1
    (known_left_last c.args.asked c.args.ifaces first c.take_lines.new.audit c.take_last.new.audit torn g.W.Write.contents c.args.output.now c.take_lines.new.output c.put_known.new.output failure.error (c.take_lines.ensures.asked ∙ c.in_ok-audit.ensures.asked)
    (c.in_ok-lines.ensures.taken (wanted_of c.args.asked) c.in_ok-audit.ensures.written) last c.in_ok-lines.ensures.fits c.in_err-put_known.ensures.fault)

pub returns-in_err-rules-clause-fault : goal.returns-in_err-rules-clause-fault
returns-in_err-rules-clause-fault g c =
    let first = g.R.Read.remaining c.args.input.now in
    let failure = c.in_err-rules.field-0.0 in
    passed_on (Either (asks_events c.args.asked) (Or c.args.ifaces first (FaultsInput first))) failure c.from_residual-in_err-rules.result c.from_residual-in_err-rules.ensures.1 (inr (inr (memory_told first failure.error c.in_err-rules.ensures.fault)))

pub returns-in_err-rules-clause-written : goal.returns-in_err-rules-clause-written
returns-in_err-rules-clause-written g c =
    let first = g.R.Read.remaining c.args.input.now in
    let failure = c.in_err-rules.field-0.0 in
    let last = subst (λ (l : List ℕ). TakesLast c.take_lines.new.audit l c.take_last.new.audit) c.deref.ensures.value c.in_ok-take_last.ensures.taken in
    let t = ready_last (wanted_of c.args.asked) _ c.take_lines.new.audit c.take_last.new.audit c.put_known.new.audit c.take_lines.new.torn.items g.W.Write.contents c.args.output.now c.take_lines.new.output c.put_known.new.output (c.in_ok-lines.ensures.taken (wanted_of c.args.asked) c.in_ok-audit.ensures.written) last c.take_last.ensures.asked
    c.put_known.ensures.asked c.in_ok-put_known.ensures.written c.in_ok-put_known.ensures.none c.in_ok-put_known.ensures.put in
    let kind = c.put_known.ensures.asked ∙ (c.take_last.ensures.asked ∙ (c.take_lines.ensures.asked ∙ c.in_ok-audit.ensures.asked)) in
    passed_on (λ (x : Report). Leaves c.args.asked c.args.ifaces first x.error g.W.Write.contents c.args.output.now c.put_known.new.output) failure c.from_residual-in_err-rules.result c.from_residual-in_err-rules.ensures.1
    (memory_left c.args.asked c.args.ifaces first c.put_known.new.audit [] g.W.Write.contents c.args.output.now c.put_known.new.output failure.error kind (All-nil (λ b. b ≢ 10)) t
    (subst (λ (p : Phase). FitsBus c.args.ifaces (bus_taken p)) (sym c.put_known.ensures.phase) c.in_ok-put_known.ensures.fits) c.in_err-rules.ensures.fault)

pub returns-clause-legal : goal.returns-clause-legal
returns-clause-legal g c =
    let last = subst (λ (l : List ℕ). TakesLast c.take_lines.new.audit l c.take_last.new.audit) c.deref.ensures.value c.in_ok-take_last.ensures.taken in
    let t = ready_last (wanted_of c.args.asked) _ c.take_lines.new.audit c.take_last.new.audit c.put_known.new.audit c.take_lines.new.torn.items g.W.Write.contents c.args.output.now c.take_lines.new.output c.put_known.new.output (c.in_ok-lines.ensures.taken (wanted_of c.args.asked) c.in_ok-audit.ensures.written) last c.take_last.ensures.asked
    c.put_known.ensures.asked c.in_ok-put_known.ensures.written c.in_ok-put_known.ensures.none c.in_ok-put_known.ensures.put in
    let kind = c.put_known.ensures.asked ∙ (c.take_last.ensures.asked ∙ (c.take_lines.ensures.asked ∙ c.in_ok-audit.ensures.asked)) in
    let told = subst (λ (p : Phase). (text : List ℕ) → HasCome text p → Reports text c.finish.result) c.last_rules.ensures.phase c.finish.ensures.told in
    let ends =
    subst (λ (p : Phase). (w : Wanted) (text events : List ℕ) (held : Option EventsText) → AreWritten w text events p held → IfOk c.finish.result (EndsEvents w held text events)) c.last_rules.ensures.phase c.finish.ensures.events in
    all_written c.args.asked c.args.ifaces c.is_with_events-has_events.result (g.R.Read.remaining c.args.input.now) c.put_known.new.audit c.deref-2.result.now g.W.Write.contents c.args.output.now c.put_known.new.output c.tell_end.new.output c.finish.result c.tell_end.result
    c.is_with_events-has_events.ensures kind t (c.deref-2.ensures.value ∙ c.in_ok-rules.ensures.lines) told
    ends (subst (λ (p : Phase). FitsBus c.args.ifaces (bus_taken p)) (sym c.put_known.ensures.phase) c.in_ok-put_known.ensures.fits) c.tell_end.ensures.legal

pub returns-clause-fault : goal.returns-clause-fault
returns-clause-fault g c =
    let first = g.R.Read.remaining c.args.input.now in
    let last = subst (λ (l : List ℕ). TakesLast c.take_lines.new.audit l c.take_last.new.audit) c.deref.ensures.value c.in_ok-take_last.ensures.taken in
    let t = ready_last (wanted_of c.args.asked) _ c.take_lines.new.audit c.take_last.new.audit c.put_known.new.audit c.take_lines.new.torn.items g.W.Write.contents c.args.output.now c.take_lines.new.output c.put_known.new.output (c.in_ok-lines.ensures.taken (wanted_of c.args.asked) c.in_ok-audit.ensures.written) last c.take_last.ensures.asked
    c.put_known.ensures.asked c.in_ok-put_known.ensures.written c.in_ok-put_known.ensures.none c.in_ok-put_known.ensures.put in
    let told = subst (λ (p : Phase). (text : List ℕ) → HasCome text p → Reports text c.finish.result) c.last_rules.ensures.phase c.finish.ensures.told in
    or_text (asks_events c.args.asked) c.args.ifaces first (FaultsInput first) c.tell_end.result (all_told (wanted_of c.args.asked) first c.put_known.new.audit g.W.Write.contents c.args.output.now c.put_known.new.output c.finish.result c.tell_end.result t told c.tell_end.ensures.fault)

pub returns-clause-written : goal.returns-clause-written
returns-clause-written g c =
    let last = subst (λ (l : List ℕ). TakesLast c.take_lines.new.audit l c.take_last.new.audit) c.deref.ensures.value c.in_ok-take_last.ensures.taken in
    let t = ready_last (wanted_of c.args.asked) _ c.take_lines.new.audit c.take_last.new.audit c.put_known.new.audit c.take_lines.new.torn.items g.W.Write.contents c.args.output.now c.take_lines.new.output c.put_known.new.output (c.in_ok-lines.ensures.taken (wanted_of c.args.asked) c.in_ok-audit.ensures.written) last c.take_last.ensures.asked
    c.put_known.ensures.asked c.in_ok-put_known.ensures.written c.in_ok-put_known.ensures.none c.in_ok-put_known.ensures.put in
    let kind = c.put_known.ensures.asked ∙ (c.take_last.ensures.asked ∙ (c.take_lines.ensures.asked ∙ c.in_ok-audit.ensures.asked)) in
    let told = subst (λ (p : Phase). (text : List ℕ) → HasCome text p → Reports text c.finish.result) c.last_rules.ensures.phase c.finish.ensures.told in
    let wrong = subst (λ (p : Phase). (w : WrongLine) → c.finish.result ≡ Err (found.Wrong w) → wrong_so_far p ≡ Some w) c.last_rules.ensures.phase c.finish.ensures.wrong in
    left_whole c.args.asked c.args.ifaces (g.R.Read.remaining c.args.input.now) c.put_known.new.audit g.W.Write.contents c.args.output.now c.put_known.new.output c.tell_end.new.output c.finish.result c.tell_end.result kind t told wrong
    (subst (λ (p : Phase). FitsBus c.args.ifaces (bus_taken p)) (sym c.put_known.ensures.phase) c.in_ok-put_known.ensures.fits) c.tell_end.ensures.fault c.tell_end.ensures.quiet
