use Rattle.std.proofs.Common.{◌≡◌, ◌+◌, ℕ, zero, suc, List, [], ◌∷◌, ap, sym, ◌∙◌, arith}
use Rattle.atomic_table.specs.Seated.{TableId}
use Rattle.can_roll.specs.Rule.{RollId, no_roll}
use Rattle.can_hub.specs.Benches.{NamedFrom}
use Rattle.can_hub.specs.declared.bench.Bench.{Bench}

-- A hub can be named after the tables of its own benches.

-- The table name for a bench that does not exist.
abbrev pub no_table : TableId
no_table = record { words = 0; slots = 0; views_name = 0; atom = 0; block = 0; offset = 0; slot_names = [] }

module _ {F G : Type 0} where
  -- The name of the table of bench k's roll.
  abbrev pub roll_at : List (Bench F G) → ℕ → RollId
  roll_at [] k = no_roll
  roll_at (b ∷ more) zero = b.blanks.roll
  roll_at (b ∷ more) (suc k) = roll_at more k

  -- The name of the table of bench k's meter.
  abbrev pub meter_at : List (Bench F G) → ℕ → TableId
  meter_at [] k = no_table
  meter_at (b ∷ more) zero = b.blanks.meter
  meter_at (b ∷ more) (suc k) = meter_at more k

  -- If the names match for the benches from bench n onwards, they match when those benches are counted from 0.
  named_from : (roll : ℕ → RollId) (meter : ℕ → TableId) (n : ℕ) (bs : List (Bench F G)) → ((k : ℕ) → roll (n + k) ≡ roll_at bs k) → ((k : ℕ) → meter (n + k) ≡ meter_at bs k) → NamedFrom roll meter n bs
  named_from roll meter n [] rolls meters = tt
  named_from roll meter n (b ∷ more) rolls meters =
      let here : n ≡ n + 0 = omega arith in
      let next : (k : ℕ) → suc n + k ≡ n + suc k = λ k. omega arith in (
        sym (ap roll here ∙ rolls 0),
        sym (ap meter here ∙ meters 0),
        named_from roll meter (suc n) more (λ k. ap roll (next k) ∙ rolls (suc k)) (λ k. ap meter (next k) ∙ meters (suc k)),
      )

  -- The benches' names are those of their own tables.
  pub named : (bs : List (Bench F G)) → NamedFrom (roll_at bs) (meter_at bs) 0 bs
  named bs = named_from (roll_at bs) (meter_at bs) 0 bs (λ k. ap (roll_at bs) (omega arith)) (λ k. ap (meter_at bs) (omega arith))
