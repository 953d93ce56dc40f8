use Rattle.std.proofs.Common.{◌≡◌, ◌++◌, ◌∙◌, [], List, ℕ, ap, append-nil, eqb-true, length, subst, sym}
use Rattle.std.proofs.lemmas.List.{nil_from_length}
use Rattle.can_replay.specs.EventTexts.{HasWritten}
use Rattle.canbusd_audit.specs.Audited.{FaultsLast, IsOfLine}
use Rattle.canbusd_audit.proofs.Underway.{fails_last, last_line, some_of}
use Rattle.canbusd_audit.proofs.line_taking.take_last.Goals as goal

pub returns-in-Ok-clause-taken : goal.returns-in-Ok-clause-taken
returns-in-Ok-clause-taken c =
    let torn = c.args.torn.now in
    λ w lines events written. c.in-Ok.ensures.written w events lines written (last_line torn (some_of torn c.if-is_empty.ensures) c.requires)

pub returns-then-is_empty-clause-taken : goal.returns-then-is_empty-clause-taken
returns-then-is_empty-clause-taken c =
    let torn = c.args.torn.now in
    let none : torn ≡ [] = nil_from_length torn (eqb-true (length torn) 0 (sym c.if-is_empty.ensures)) in
    λ w lines events written. subst (λ (x : List ℕ). HasWritten w x events c.args.audit.now) (sym (ap (λ (x : List ℕ). lines ++ x) none ∙ append-nil lines)) written

pub returns-then-has_end_line-clause-line : goal.returns-then-has_end_line-clause-line
returns-then-has_end_line-clause-line c = (c.in-Err.fault, c.torn_failure-failure.ensures)

pub returns-else-has_end_line-clause-line : goal.returns-else-has_end_line-clause-line
returns-else-has_end_line-clause-line c = (c.in-Err.fault, subst (IsOfLine c.in-Err.fault) (sym c.with_cut_note.ensures) c.torn_failure-failure.ensures)

pub returns-then-has_end_line-clause-fault : goal.returns-then-has_end_line-clause-fault
returns-then-has_end_line-clause-fault c =
    let torn = c.args.torn.now in
    fails_last torn c.args.audit.now c.in-Err.fault c.torn_failure-failure.result.error c.torn_failure-failure.ensures (some_of torn c.if-is_empty.ensures) c.requires c.in-Err.ensures.fault

pub returns-else-has_end_line-clause-fault : goal.returns-else-has_end_line-clause-fault
returns-else-has_end_line-clause-fault c =
    let torn = c.args.torn.now in
    subst (FaultsLast c.args.audit.now torn) (sym c.with_cut_note.ensures)
    (fails_last torn c.args.audit.now c.in-Err.fault c.torn_failure-failure.result.error c.torn_failure-failure.ensures (some_of torn c.if-is_empty.ensures) c.requires c.in-Err.ensures.fault)
