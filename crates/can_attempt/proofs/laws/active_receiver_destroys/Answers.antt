use Rattle.std.proofs.Common.{◌≡◌, Bool, true, not, ◌||◌, ap, arith}
use Rattle.std.specs.List.{list_any}
use Rattle.can_confine.specs.Confinement.{is_passive}
use Rattle.can_attempt.specs.Attempts.{state_at, hit, is_global, is_acknowledged, is_last_bit, class_when}
use Rattle.can_attempt.proofs.Places.{any_among}
use Rattle.can_attempt.proofs.laws.active_receiver_destroys.Goals as goal

or_true : (x y : Bool) → y ≡ true → (x || y) ≡ true
or_true x y right = rw right (grind arith)

pub returns : goal.returns
returns c t i struck active =
    let any : list_any (λ k. not (is_passive (state_at t k))) (hit t) ≡ true = any_among (λ k. not (is_passive (state_at t k))) i (hit t) struck (ap not active) in
    ap (λ (b : Bool). class_when b (is_acknowledged t) (is_last_bit t.verdict)) (or_true (is_global t.verdict) _ any)
