use Rattle.std.proofs.Common.{◌≡◌, ◌≢◌, ℕ, ◌<◌, ◌≤◌, List, Option, Some, None, slice_get, ap, ◌∙◌, inl, inr, arith}
use Rattle.std.proofs.lemmas.Bool.{cases_order}
use Rattle.can_arbiter.specs.Keys.{IsWinner}

-- of the interfaces below n, w holds the lowest key, and no interface below w holds the same key
pub record WinsBelow (keys : List (Option ℕ)) (n w key : ℕ) : Type 0 where
  pub inside : w < n
  pub holds : slice_get keys w ≡ Some (Some key)
  pub least : (i other : ℕ) → i < n → slice_get keys i ≡ Some (Some other) → key ≤ other
  pub lowest : (i : ℕ) → i < w → slice_get keys i ≢ Some (Some key)

-- the result of a scan of the interfaces below n
abbrev pub IsFirstBelow : List (Option ℕ) → ℕ → Option (ℕ × ℕ) → Type 0
IsFirstBelow keys n None = (i other : ℕ) → i < n → slice_get keys i ≢ Some (Some other)
IsFirstBelow keys n (Some p) = WinsBelow keys n p.0 p.1

pub unique : (keys : List (Option ℕ)) (v w : ℕ) → IsWinner keys v → IsWinner keys w → v ≡ w
unique keys v w (k, p) (l, q) = elim (cases_order v w) [
  | inl same ↦ same
  | inr (inl below) ↦
      let same : k ≡ l = omega (arith, p.least w l q.holds, q.least v k p.holds) in
      absurd (q.lowest v below (p.holds ∙ ap (λ (n : ℕ). Some (Some n)) same))
  | inr (inr above) ↦
      let same : l ≡ k = omega (arith, p.least w l q.holds, q.least v k p.holds) in
      absurd (p.lowest w above (q.holds ∙ ap (λ (n : ℕ). Some (Some n)) same))
]
