-- Several attempts of a driver, one after another.
use Rattle.std.proofs.Common.{◌≡◌, ℕ, ◌+◌, ◌<◌, ◌≤◌, false, sym, subst, add-one, arith}
use Rattle.can_fault.specs.Sources.{VerdictMap}
use Rattle.can_station.specs.Waits.{has_work}
use Rattle.can_server.specs.Timed.{Driven, Makes, MakesAll}

not_zero : (n : ℕ) → n + 1 ≡ 0 → ⊥
not_zero n e = omega (arith, e)

module _ {F : Type 0} (verdicts : F → VerdictMap) (n : ℕ) (start mid new : Driven F) (all : MakesAll verdicts n start mid) (one : Makes verdicts mid new) where
  -- one more attempt
  pub makes_more : MakesAll verdicts (n + 1) start new
  makes_more = subst (λ (k : ℕ). MakesAll verdicts k start new) (sym (add-one n)) (mid, all, one)

  -- the last attempt
  pub makes_last : n < 64 → (k : ℕ) × (k ≤ 64) × MakesAll verdicts k start new × (k ≡ 0 → has_work start.held.journal ≡ false)
  makes_last low = (n + 1, omega (arith, low), makes_more, λ e. absurd (not_zero n e))
