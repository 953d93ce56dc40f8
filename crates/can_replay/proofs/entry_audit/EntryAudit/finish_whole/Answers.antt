use Rattle.std.proofs.Common.{◌≡◌, ◌+◌, ◌++◌, ℕ, [], eqb-true, length, subst, sym}
use Rattle.std.proofs.lemmas.List.{nil_from_length}
use Rattle.can_record_text.specs.RecordFaults.{IsFirstWrong}
use Rattle.can_replay.proofs.Ending.{more_there, not_cut, some_torn, whole_fault, whole_legal}
use Rattle.can_replay.proofs.entry_audit.EntryAudit.finish_whole.Goals as goal

pub returns-then-not-is_empty-clause-found : goal.returns-then-not-is_empty-clause-found
returns-then-not-is_empty-clause-found c =
    let torn = c.args.torn.now in
    λ text g.
    (subst (λ (n : ℕ). IsFirstWrong (text ++ torn) (n + 4)) (sym c.from.ensures) (more_there text torn c.args.self g c.requires (some_torn torn c.if-not-is_empty.ensures)), not_cut text torn c.args.self g c.requires)

pub returns-in-Ok-clause-found : goal.returns-in-Ok-clause-found
returns-in-Ok-clause-found c =
    let none : c.args.torn.now ≡ [] = nil_from_length c.args.torn.now (eqb-true (length c.args.torn.now) 0 (sym c.if-not-is_empty.ensures)) in
    λ text g. whole_legal text c.args.torn.now c.in-Ok.count none (c.in-Ok.ensures.found text g)

pub returns-in-Ok-clause-reached : goal.returns-in-Ok-clause-reached
returns-in-Ok-clause-reached c =
    let none : c.args.torn.now ≡ [] = nil_from_length c.args.torn.now (eqb-true (length c.args.torn.now) 0 (sym c.if-not-is_empty.ensures)) in
    λ text g. (none, c.in-Ok.ensures.whole text g)

pub returns-in-Err-clause-found : goal.returns-in-Err-clause-found
returns-in-Err-clause-found c =
    let none : c.args.torn.now ≡ [] = nil_from_length c.args.torn.now (eqb-true (length c.args.torn.now) 0 (sym c.if-not-is_empty.ensures)) in
    λ text g. whole_fault text c.args.torn.now c.in-Err.why none (not_cut text c.args.torn.now c.args.self g c.requires) (c.in-Err.ensures.found text g)
