use Rattle.std.proofs.Common.{◌≡◌, ◌++◌, Bool, Err, IfOk, List, Option, Some, ℕ, subst, sym, inr, ◌∙◌}
use Rattle.can_replay.specs.declared.wanted.Wanted.{Wanted}
use Rattle.can_replay.specs.declared.events_text.EventsText.{EventsText}
use Rattle.can_replay.specs.declared.text_audit.Phase.{Phase}
use Rattle.can_replay.specs.declared.text_fault.WrongLine.{WrongLine}
use Rattle.can_replay.specs.declared.text_fault.TextFault.TheVariants as found
use Rattle.can_replay.specs.EventTexts.{AreWritten, EndsCutEvents, wrong_so_far}
use Rattle.can_replay.specs.TextAudits.{EndsNoLine, HasCome, ReportsCut}
use Rattle.canbusd_io.specs.declared.report.Report.{Report}
use Rattle.canbusd_audit.specs.Audited.{FaultsCut, FaultsLine, IsUnread, Leaves, asks_events, wanted_of}
use Rattle.canbusd_audit.proofs.Underway.{asked_so}
use Rattle.canbusd_audit.proofs.Telling.{Either, Or, all_told_cut, cut_written, left_cut, line_or_cut, memory_left, memory_told_cut, noted_cut, nothing_left, or_text, passed_on, ready}
use Rattle.canbusd_audit.proofs.audit_job.audit_cut_lines.Goals as goal

pub tell_cut-requires : goal.tell_cut-requires
tell_cut-requires g c =
    let taken = c.in_ok-take_lines.ensures.taken (wanted_of c.args.asked) c.in_ok-audit.ensures.written in
    let told =
    subst (λ (p : Phase). (text : List ℕ) → HasCome text p → EndsNoLine c.take_lines.new.torn.items → ReportsCut (text ++ c.take_lines.new.torn.items) c.finish_cut-found.result) c.last_rules.ensures.phase
    (subst (λ (l : List ℕ). (text : List ℕ) → HasCome text c.last_rules.new.audit.phase → EndsNoLine l → ReportsCut (text ++ l) c.finish_cut-found.result) c.deref.ensures.value c.finish_cut-found.ensures.told) in
    noted_cut _ c.finish_cut-found.result (told taken.lines taken.written.taken taken.unended)

pub returns-in_err-audit-clause-fault : goal.returns-in_err-audit-clause-fault
returns-in_err-audit-clause-fault g c =
    let first = g.R.Read.remaining c.args.input.now in
    let failure = c.in_err-audit.field-0.0 in
    passed_on (Either (asks_events c.args.asked) (Or c.args.ifaces first (FaultsCut first))) failure c.from_residual.result c.from_residual.ensures.1 (inr (inr (memory_told_cut first failure.error c.in_err-audit.ensures.fault)))

pub returns-in_err-audit-clause-written : goal.returns-in_err-audit-clause-written
returns-in_err-audit-clause-written g c =
    let first = g.R.Read.remaining c.args.input.now in
    let failure = c.in_err-audit.field-0.0 in
    passed_on (λ (x : Report). Leaves c.args.asked c.args.ifaces first x.error g.W.Write.contents c.args.output.now c.args.output.now) failure c.from_residual.result c.from_residual.ensures.1
    (nothing_left c.args.asked c.args.ifaces first failure.error g.W.Write.contents c.args.output.now (subst IsUnread (sym c.in_err-audit.ensures.fault) tt))

pub returns-in_err-take_lines-clause-fault : goal.returns-in_err-take_lines-clause-fault
returns-in_err-take_lines-clause-fault g c =
    let first = g.R.Read.remaining c.args.input.now in
    let failure = c.in_err-take_lines.field-0.0 in
    passed_on (Either (asks_events c.args.asked) (Or c.args.ifaces first (FaultsCut first))) failure c.from_residual-in_err-take_lines.result c.from_residual-in_err-take_lines.ensures.1
    (line_or_cut (asks_events c.args.asked) c.args.ifaces first failure (subst (λ (b : Bool). Either b (Or c.args.ifaces first (FaultsLine first)) failure) c.in_ok-audit.ensures.asked c.in_err-take_lines.ensures.fault))

pub returns-in_err-take_lines-clause-written : goal.returns-in_err-take_lines-clause-written
returns-in_err-take_lines-clause-written g c =
    let first = g.R.Read.remaining c.args.input.now in
    let failure = c.in_err-take_lines.field-0.0 in
    passed_on (λ (x : Report). Leaves c.args.asked c.args.ifaces first x.error g.W.Write.contents c.args.output.now c.take_lines.new.output) failure c.from_residual-in_err-take_lines.result c.from_residual-in_err-take_lines.ensures.1
    (subst (λ (o : Option Wanted). Leaves o c.args.ifaces first failure.error g.W.Write.contents c.args.output.now c.take_lines.new.output) (sym (asked_so c.args.asked _ c.in_ok-audit.ensures.asked))
    (c.in_err-take_lines.ensures.written (wanted_of c.args.asked) c.in_ok-audit.ensures.written))

pub returns-in_err-rules-clause-fault : goal.returns-in_err-rules-clause-fault
returns-in_err-rules-clause-fault g c =
    let first = g.R.Read.remaining c.args.input.now in
    let failure = c.in_err-rules.field-0.0 in
    passed_on (Either (asks_events c.args.asked) (Or c.args.ifaces first (FaultsCut first))) failure c.from_residual-in_err-rules.result c.from_residual-in_err-rules.ensures.1 (inr (inr (memory_told_cut first failure.error c.in_err-rules.ensures.fault)))

pub returns-in_err-rules-clause-written : goal.returns-in_err-rules-clause-written
returns-in_err-rules-clause-written g c =
    let first = g.R.Read.remaining c.args.input.now in
    let failure = c.in_err-rules.field-0.0 in
    let torn = c.take_lines.new.torn.items in
    let audit = c.take_lines.new.audit in
    let taken = c.in_ok-take_lines.ensures.taken (wanted_of c.args.asked) c.in_ok-audit.ensures.written in
    passed_on (λ (x : Report). Leaves c.args.asked c.args.ifaces first x.error g.W.Write.contents c.args.output.now c.take_lines.new.output) failure c.from_residual-in_err-rules.result c.from_residual-in_err-rules.ensures.1
    (memory_left c.args.asked c.args.ifaces first audit torn g.W.Write.contents c.args.output.now c.take_lines.new.output failure.error (c.take_lines.ensures.asked ∙ c.in_ok-audit.ensures.asked) taken.unended
    (ready (wanted_of c.args.asked) first audit torn g.W.Write.contents c.args.output.now c.take_lines.new.output taken) c.in_ok-take_lines.ensures.fits c.in_err-rules.ensures.fault)

pub returns-clause-legal : goal.returns-clause-legal
returns-clause-legal g c =
    let first = g.R.Read.remaining c.args.input.now in
    let torn = c.take_lines.new.torn.items in
    let audit = c.take_lines.new.audit in
    let taken = c.in_ok-take_lines.ensures.taken (wanted_of c.args.asked) c.in_ok-audit.ensures.written in
    let told =
    subst (λ (p : Phase). (text : List ℕ) → HasCome text p → EndsNoLine c.take_lines.new.torn.items → ReportsCut (text ++ c.take_lines.new.torn.items) c.finish_cut-found.result) c.last_rules.ensures.phase
    (subst (λ (l : List ℕ). (text : List ℕ) → HasCome text c.last_rules.new.audit.phase → EndsNoLine l → ReportsCut (text ++ l) c.finish_cut-found.result) c.deref.ensures.value c.finish_cut-found.ensures.told) in
    let ends =
    subst (λ (p : Phase). (w : Wanted) (text events : List ℕ) (held : Option EventsText) → AreWritten w text events p held → EndsNoLine torn → IfOk c.finish_cut-found.result (EndsCutEvents w held (text ++ torn) events)) c.last_rules.ensures.phase
    (subst (λ (l : List ℕ). (w : Wanted) (text events : List ℕ) (held : Option EventsText) → AreWritten w text events c.last_rules.new.audit.phase held → EndsNoLine l → IfOk c.finish_cut-found.result (EndsCutEvents w held (text ++ l) events)) c.deref.ensures.value c.finish_cut-found.ensures.events) in
    cut_written c.args.asked c.args.ifaces c.is_with_events-has_events.result first audit torn c.deref-3.result.now g.W.Write.contents c.args.output.now c.take_lines.new.output c.tell_cut.new.output c.finish_cut-found.result c.tell_cut.result c.is_with_events-has_events.ensures
    (c.take_lines.ensures.asked ∙ c.in_ok-audit.ensures.asked) (ready (wanted_of c.args.asked) first audit torn g.W.Write.contents c.args.output.now c.take_lines.new.output taken) (c.deref-3.ensures.value ∙ c.in_ok-rules.ensures.lines) taken.unended
    told ends
    c.in_ok-take_lines.ensures.fits c.tell_cut.ensures.legal

pub returns-clause-fault : goal.returns-clause-fault
returns-clause-fault g c =
    let first = g.R.Read.remaining c.args.input.now in
    let torn = c.take_lines.new.torn.items in
    let audit = c.take_lines.new.audit in
    let taken = c.in_ok-take_lines.ensures.taken (wanted_of c.args.asked) c.in_ok-audit.ensures.written in
    let told =
    subst (λ (p : Phase). (text : List ℕ) → HasCome text p → EndsNoLine c.take_lines.new.torn.items → ReportsCut (text ++ c.take_lines.new.torn.items) c.finish_cut-found.result) c.last_rules.ensures.phase
    (subst (λ (l : List ℕ). (text : List ℕ) → HasCome text c.last_rules.new.audit.phase → EndsNoLine l → ReportsCut (text ++ l) c.finish_cut-found.result) c.deref.ensures.value c.finish_cut-found.ensures.told) in
    or_text (asks_events c.args.asked) c.args.ifaces first (FaultsCut first) c.tell_cut.result
    (all_told_cut (wanted_of c.args.asked) first audit torn g.W.Write.contents c.args.output.now c.take_lines.new.output c.finish_cut-found.result c.tell_cut.result (ready (wanted_of c.args.asked) first audit torn g.W.Write.contents c.args.output.now c.take_lines.new.output taken) taken.unended
    told c.tell_cut.ensures.fault)

pub returns-clause-written : goal.returns-clause-written
returns-clause-written g c =
    let first = g.R.Read.remaining c.args.input.now in
    let torn = c.take_lines.new.torn.items in
    let audit = c.take_lines.new.audit in
    let taken = c.in_ok-take_lines.ensures.taken (wanted_of c.args.asked) c.in_ok-audit.ensures.written in
    let told =
    subst (λ (p : Phase). (text : List ℕ) → HasCome text p → EndsNoLine c.take_lines.new.torn.items → ReportsCut (text ++ c.take_lines.new.torn.items) c.finish_cut-found.result) c.last_rules.ensures.phase
    (subst (λ (l : List ℕ). (text : List ℕ) → HasCome text c.last_rules.new.audit.phase → EndsNoLine l → ReportsCut (text ++ l) c.finish_cut-found.result) c.deref.ensures.value c.finish_cut-found.ensures.told) in
    let wrong = subst (λ (p : Phase). (w : WrongLine) → c.finish_cut-found.result ≡ Err (found.Wrong w) → wrong_so_far p ≡ Some w) c.last_rules.ensures.phase c.finish_cut-found.ensures.wrong in
    left_cut c.args.asked c.args.ifaces first audit torn g.W.Write.contents c.args.output.now c.take_lines.new.output c.tell_cut.new.output c.finish_cut-found.result c.tell_cut.result (c.take_lines.ensures.asked ∙ c.in_ok-audit.ensures.asked) taken.unended
    (ready (wanted_of c.args.asked) first audit torn g.W.Write.contents c.args.output.now c.take_lines.new.output taken)
    told
    wrong c.in_ok-take_lines.ensures.fits c.tell_cut.ensures.fault c.tell_cut.ensures.quiet
