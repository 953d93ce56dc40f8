use Rattle.std.proofs.Common.{◌≡◌, ℕ, ◌<◌, ◌≤◌, ◌==◌, nat_lt, Bool, true, false, not, Option, Some, None, if◌then◌else◌, sym, ap, ◌∙◌}
use Rattle.std.proofs.lemmas.Bool.{cond-true, cond-false, and_from, and_left, and_right, lt-ltb, le-ltb}
use Rattle.can_frame.specs.Sets.{is_in}
use Rattle.can_confine.specs.Confinement.{is_silent}
use Rattle.can_attempt.specs.Attempts.{Transmission, state_at, can_hear, is_among, receivers, hit, set_of}
use Rattle.can_attempt.proofs.Places.{is_among-receivers}
use Rattle.can_errframe.specs.declared.role.Role.{Role}
use Rattle.can_errframe.specs.declared.role.Role.TheVariants as role
use Rattle.can_bus.specs.Posts.{role_at}
use Rattle.can_attempt.proofs.Standing.{is_in-set_of}

abbrev not_hit : Transmission → ℕ → Option Role
not_hit t i = if is_among i (receivers t) then Some role.Other else None

abbrev not_winner : Transmission → ℕ → Option Role
not_winner t i = if is_among i (hit t) then Some role.Named else not_hit t i

pub role-winner : (t : Transmission) (i : ℕ) → (i == t.winner) ≡ true → role_at t i ≡ Some role.Winner
role-winner t i is = cond-true (i == t.winner) (Some role.Winner) (not_winner t i) is

pub role-named : (t : Transmission) (i : ℕ) → i < 16 → (i == t.winner) ≡ false → is_in i (set_of (hit t)) ≡ true → role_at t i ≡ Some role.Named
role-named t i lt other struck =
    cond-false (i == t.winner) (Some role.Winner) (not_winner t i) other ∙ cond-true (is_among i (hit t)) (Some role.Named) (not_hit t i) (sym (is_in-set_of (hit t) i lt) ∙ struck)

heard : (t : Transmission) (i : ℕ) (b : Bool) → i < 16 → (i == t.winner) ≡ false → is_in i (set_of (hit t)) ≡ false → is_among i (receivers t) ≡ b → role_at t i ≡ (if b then Some role.Other else None)
heard t i b lt other unhurt among =
    cond-false (i == t.winner) (Some role.Winner) (not_winner t i) other
    ∙ cond-false (is_among i (hit t)) (Some role.Named) (not_hit t i) (sym (is_in-set_of (hit t) i lt) ∙ unhurt)
    ∙ ap (λ (x : Bool). if x then Some role.Other else None) among

pub role-other : (t : Transmission) (i : ℕ) → i < 16 → (i == t.winner) ≡ false → is_in i (set_of (hit t)) ≡ false → i < t.count → is_silent (state_at t i) ≡ false → role_at t i ≡ Some role.Other
role-other t i lt other unhurt there live =
    heard t i true lt other unhurt
    (is_among-receivers t i ∙ and_from (can_hear t i) (nat_lt i t.count) (and_from (not (i == t.winner)) (not (is_silent (state_at t i))) (ap not other) (ap not live)) (lt-ltb i t.count there))

pub role-beyond : (t : Transmission) (i : ℕ) → i < 16 → (i == t.winner) ≡ false → is_in i (set_of (hit t)) ≡ false → t.count ≤ i → role_at t i ≡ None
role-beyond t i lt other unhurt beyond =
    heard t i false lt other unhurt (is_among-receivers t i ∙ and_right (can_hear t i) (nat_lt i t.count) (le-ltb i t.count beyond))

pub role-silent : (t : Transmission) (i : ℕ) → i < 16 → (i == t.winner) ≡ false → is_in i (set_of (hit t)) ≡ false → is_silent (state_at t i) ≡ true → role_at t i ≡ None
role-silent t i lt other unhurt off =
    heard t i false lt other unhurt (is_among-receivers t i ∙ and_left (can_hear t i) (nat_lt i t.count) (and_right (not (i == t.winner)) (not (is_silent (state_at t i))) (ap not off)))
