use Rattle.std.proofs.Common.{not}
use Rattle.can_confine.specs.Confinement.{is_passive}
use Rattle.can_attempt.specs.Attempts.{attempt_between, can_hear, is_struck, state_at}
use Rattle.can_attempt.specs.declared.ack_mode.AckMode.TheVariants.{Always}
use Rattle.can_attempt.proofs.Seeing.{Seen}
use Rattle.can_attempt.proofs.survey.survey_of.Given as goal

abbrev pub invariant-loop-place : goal.invariant-loop-place
invariant-loop-place l =
    Seen (can_hear (attempt_between l.nodes l.winner l.verdict Always)) (is_struck l.verdict) (λ i. not (is_passive (state_at (attempt_between l.nodes l.winner l.verdict Always) i))) l.place l.hit.0 l.unhurt.0 l.is_hit_active l.is_heard
