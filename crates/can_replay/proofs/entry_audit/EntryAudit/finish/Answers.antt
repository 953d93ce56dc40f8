use Rattle.std.proofs.Common.{◌+◌, ◌∙◌, ℕ, subst, sym}
use Rattle.can_record_text.specs.RecordFaults.{IsFirstWrong}
use Rattle.can_replay.proofs.Ending.{all_legal, needless, one_wrong, unfinished, whole_at}
use Rattle.can_replay.proofs.entry_audit.EntryAudit.finish.Goals as goal

pub returns-in-None-clause-found : goal.returns-in-None-clause-found
returns-in-None-clause-found c = λ text g. all_legal text c.args.self g c.if-not-is_ended.false (sym c.is_needless.ensures ∙ c.if-is_needless.false) c.in-None.is

pub returns-in-None-clause-whole : goal.returns-in-None-clause-whole
returns-in-None-clause-whole c = λ text g. whole_at text c.args.self g c.if-not-is_ended.false (sym c.is_needless.ensures ∙ c.if-is_needless.false) c.in-None.is

pub returns-clause-found : goal.returns-clause-found
returns-clause-found c = λ text g. one_wrong text c.args.self c.in-Some.wrong g c.if-not-is_ended.false (sym c.is_needless.ensures ∙ c.if-is_needless.false) c.in-Some.is

pub returns-then-is_needless-clause-found : goal.returns-then-is_needless-clause-found
returns-then-is_needless-clause-found c = λ text g.
    needless text c.args.self g c.if-not-is_ended.false (sym c.is_needless.ensures ∙ c.if-is_needless.true)

pub returns-then-not-is_ended-clause-found : goal.returns-then-not-is_ended-clause-found
returns-then-not-is_ended-clause-found c = λ text g. subst (λ (n : ℕ). IsFirstWrong text (n + 3)) (sym c.from.ensures) (unfinished text c.args.self g c.if-not-is_ended.true)
