use Rattle.std.proofs.Common.{ap, sym, ◌∙◌, inl, inr}
use Rattle.can_attempt.specs.declared.class.Class.{Class}
use Rattle.can_attempt.specs.Attempts.{set_of, accepted_in}
use Rattle.can_attempt.proofs.judging.accepted_of.Goals as goal

pub returns-in-Done : goal.returns-in-Done
returns-in-Done c t e =
    elim c.in-Done.is [
      | inl done ↦ e ∙ ap (λ (k : Class). set_of (accepted_in k t)) (sym done)
      | inr last_bit ↦ e ∙ ap (λ (k : Class). set_of (accepted_in k t)) (sym last_bit)
    ]
