use Rattle.std.proofs.Common.{◌≡◌, ℕ, ◌<◌, ◌==◌, nat_lt, Bool, true, false, is_some, refl, ◌||◌, ◌&&◌, ap, sym, ◌∙◌, arith, if◌then◌else◌}
use Rattle.std.proofs.lemmas.Bool.{false≢true, true≢false}
use Rattle.can_fault.specs.declared.verdict.Verdict.{Verdict}
use Rattle.can_fault.specs.declared.verdict.Verdict.TheVariants as verdict
use Rattle.can_attempt.specs.Attempts.{class_when, class_of, is_global, is_struck, is_last_bit, is_destroyed, is_acknowledged, receiver_step, can_hear}
use Rattle.can_attempt.proofs.Places.{is_among-receivers, steps_in-receiver}
use Rattle.can_errframe.specs.ErrorMessages.{fault_message, is_receive_error}
use Rattle.can_errframe.specs.declared.role.Role.TheVariants.{Named, Other}
use Rattle.can_errframe.proofs.Faults.{is_local, not_destroyed}
use Rattle.can_errframe.proofs.laws.receivers_get_each_error.Goals as goal

told : (v : Verdict) (d a n : Bool) → (is_global v ≡ true → d ≡ true) → (is_global v ≡ false → is_local v ≡ false → d ≡ false) → (is_local v ≡ false → n ≡ false)
    → is_some (fault_message (class_when d a (is_last_bit v)) v (if n then Named else Other)) ≡ is_receive_error (receiver_step (class_when d a (is_last_bit v)) n)
told verdict.Good d a true broken whole named = absurd (true≢false (named refl))
told verdict.Good true a false broken whole named = absurd (true≢false (whole refl refl))
told verdict.Good false true false broken whole named = refl
told verdict.Good false false false broken whole named = refl
told verdict.LastBit d a true broken whole named = absurd (true≢false (named refl))
told verdict.LastBit true a false broken whole named = absurd (true≢false (whole refl refl))
told verdict.LastBit false true false broken whole named = refl
told verdict.LastBit false false false broken whole named = refl
told (verdict.Global kind) d a true broken whole named = absurd (true≢false (named refl))
told (verdict.Global kind) true a false broken whole named = refl
told (verdict.Global kind) false a false broken whole named = absurd (false≢true (broken refl))
told (verdict.Local set kind) true a true broken whole named = refl
told (verdict.Local set kind) true a false broken whole named = refl
told (verdict.Local set kind) false true true broken whole named = refl
told (verdict.Local set kind) false true false broken whole named = refl
told (verdict.Local set kind) false false true broken whole named = refl
told (verdict.Local set kind) false false false broken whole named = refl

or_true : (x y : Bool) → x ≡ true → (x || y) ≡ true
or_true x y left = rw left refl

not_named : (v : Verdict) (i : ℕ) → is_local v ≡ false → is_struck v i ≡ false
not_named verdict.Good i local = refl
not_named verdict.LastBit i local = refl
not_named (verdict.Global kind) i local = refl
not_named (verdict.Local set kind) i local = absurd (true≢false local)

pub returns : goal.returns
returns c t i among =
    let there : (can_hear t i && nat_lt i t.count) ≡ true = sym (is_among-receivers t i) ∙ among in
    let hears : can_hear t i ≡ true = grind (arith, there) in
    let below : i < t.count = grind (arith, there) in
    let other : (i == t.winner) ≡ false = grind (arith, hears) in
    told t.verdict (is_destroyed t) (is_acknowledged t) (is_struck t.verdict i) (or_true (is_global t.verdict) _) (not_destroyed t) (not_named t.verdict i)
    ∙ ap is_receive_error (sym (steps_in-receiver (class_of t) t i other hears below))
