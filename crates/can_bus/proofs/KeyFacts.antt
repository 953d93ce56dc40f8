use Rattle.std.proofs.Common.{◌≡◌, ◌≢◌, ℕ, ◌<◌, List, ◌∷◌, map, slice_set, Option, Some, ap, ◌∙◌, arith}
use Rattle.std.specs.List.{range_with_len}
use Rattle.can_event.specs.declared.entry.Entry.{Entry}
use Rattle.can_event.specs.declared.pending.Pending.{Pending}
use Rattle.can_bus.specs.Transmit.{head_of}
use Rattle.can_bus.specs.State.{key_in, kept_keys}
use Rattle.can_bus.proofs.Lists.{map_one, range-rises, slice_get-range}

-- two functions of the 16 interface numbers that differ at one number only
pub sixteen-one : {X : Type 0} (f g : ℕ → X) (i n : ℕ) → i < n → ((j : ℕ) → j ≢ i → g j ≡ f j) → map g (range_with_len 0 n) ≡ slice_set (map f (range_with_len 0 n)) i (g i)
sixteen-one f g i n below others = map_one f g i i 0 n (range_with_len 0 n) (slice_get-range 0 n i below ∙ ap (λ (m : ℕ). Some m) (omega arith)) (range-rises 0 n n (omega arith)) others

-- an entry that changes only the first waiting frame of one interface
pub kept_keys-one : (past : List Entry) (e : Entry) (i : ℕ) → i < 16 → ((j : ℕ) → j ≢ i → head_of (e ∷ past) j ≡ head_of past j) → kept_keys (e ∷ past) ≡ slice_set (kept_keys past) i (key_in (head_of (e ∷ past) i))
unfolding kept_keys
kept_keys-one past e i below others =
    sixteen-one (λ j. key_in (head_of past j)) (λ j. key_in (head_of (e ∷ past) j)) i 16 below (λ j differ. ap (λ (p : Option Pending). key_in p) (others j differ))
