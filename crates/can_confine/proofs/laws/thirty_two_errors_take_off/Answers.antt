use Rattle.std.proofs.Common.{◌≡◌, ℕ, zero, suc, false, refl, ◌+◌, ◌*◌, nat_le, replicate, arith, ◌∙◌}
use Rattle.can_confine.specs.Confinement.{ErrorCounts, stepped, all_stepped, at_start, state_of, is_off}
use Rattle.can_confine.specs.Confinement.Step.{TransmitError}
use Rattle.can_confine.proofs.laws.thirty_two_errors_take_off.Goals as goal

-- transmit errors in a row add 8 each
errors_add_8 : (n : ℕ) (c : ErrorCounts) → (all_stepped c (replicate n TransmitError)).tec ≡ c.tec + 8 * n
errors_add_8 zero c = omega arith
errors_add_8 (suc n) c =
    let later : (all_stepped (stepped c TransmitError) (replicate n TransmitError)).tec ≡ c.tec + 8 + 8 * n = errors_add_8 n (stepped c TransmitError) in
    rw later (omega arith)

off_from_256 : (n t : ℕ) → t ≡ 8 * n → nat_le 256 t ≡ nat_le 32 n
off_from_256 n t e = grind arith

-- errors do not take an interface down
errors_keep_up : (n : ℕ) (c : ErrorCounts) → (all_stepped c (replicate n TransmitError)).down ≡ c.down
errors_keep_up zero c = refl
errors_keep_up (suc n) c = errors_keep_up n (stepped c TransmitError)

-- if an interface is not down, only its transmit count decides whether it is bus off
off_by_transmit_count : (c : ErrorCounts) → c.down ≡ false → is_off (state_of c) ≡ nat_le 256 c.tec
off_by_transmit_count c up = rw up (grind arith)

pub returns : goal.returns
returns c n =
    off_by_transmit_count (all_stepped at_start (replicate n TransmitError)) (errors_keep_up n at_start)
    ∙ off_from_256 n _ (omega (arith, errors_add_8 n at_start))
