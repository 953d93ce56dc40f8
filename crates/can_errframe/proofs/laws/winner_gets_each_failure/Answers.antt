use Rattle.std.proofs.Common.{◌≡◌, Bool, true, false, not, is_some, refl, ◌||◌}
use Rattle.std.proofs.lemmas.Bool.{false≢true, true≢false}
use Rattle.can_fault.specs.declared.verdict.Verdict.{Verdict}
use Rattle.can_fault.specs.declared.verdict.Verdict.TheVariants as verdict
use Rattle.can_attempt.specs.Attempts.{class_when, is_done, is_global, is_last_bit, is_destroyed, is_acknowledged}
use Rattle.can_errframe.specs.ErrorMessages.{fault_message}
use Rattle.can_errframe.specs.declared.role.Role.TheVariants.{Winner}
use Rattle.can_errframe.proofs.Faults.{is_local, not_destroyed}
use Rattle.can_errframe.proofs.laws.winner_gets_each_failure.Goals as goal

told : (v : Verdict) (d a : Bool) → (is_global v ≡ true → d ≡ true) → (is_global v ≡ false → is_local v ≡ false → d ≡ false) → is_some (fault_message (class_when d a (is_last_bit v)) v Winner) ≡ not (is_done (class_when d a (is_last_bit v)))
told verdict.Good true a broken whole = absurd (true≢false (whole refl refl))
told verdict.Good false true broken whole = refl
told verdict.Good false false broken whole = refl
told verdict.LastBit true a broken whole = absurd (true≢false (whole refl refl))
told verdict.LastBit false true broken whole = refl
told verdict.LastBit false false broken whole = refl
told (verdict.Global kind) true a broken whole = refl
told (verdict.Global kind) false a broken whole = absurd (false≢true (broken refl))
told (verdict.Local set kind) true a broken whole = refl
told (verdict.Local set kind) false true broken whole = refl
told (verdict.Local set kind) false false broken whole = refl

or_true : (x y : Bool) → x ≡ true → (x || y) ≡ true
or_true x y left = rw left refl

pub returns : goal.returns
returns c t = told t.verdict (is_destroyed t) (is_acknowledged t) (or_true (is_global t.verdict) _) (not_destroyed t)
