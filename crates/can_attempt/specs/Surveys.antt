use Rattle.std.specs.Prelude.{◌≡◌}
use Rattle.can_attempt.specs.Attempts.{Transmission, hit, unhurt, is_hit_active, is_heard, set_of}
use Rattle.can_attempt.specs.declared.survey.Survey.{Survey}

-- What the receivers of an attempt see of its faults. Callers do not need to know this.

-- the survey of an attempt: which receivers are hit and which are not, whether a receiver that is hit is not error
-- passive, and whether at least one receiver is not hit (own choice)
pub record IsSurveyOf (t : Transmission) (s : Survey) : Type 0 where
  pub hit : s.hit ≡ set_of (hit t)
  pub unhurt : s.unhurt ≡ set_of (unhurt t)
  pub active : s.is_hit_active ≡ is_hit_active t
  pub heard : s.is_heard ≡ is_heard t
