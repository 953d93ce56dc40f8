use Rattle.std.proofs.Common.{◌≡◌, ℕ, zero, suc, ◌+◌, ◌<◌, List, map, slice_index_or, refl, ap, ◌∙◌, arith}
use Rattle.std.specs.List.{range_with_len}
use Rattle.can_confine.specs.Confinement.{ErrorCounts, at_start, state_of, is_down, is_off, is_silent}
use Rattle.can_attempt.specs.Attempts.{counts_at}
use Rattle.can_event.specs.declared.bus_config.BusConfig.{BusConfig}
use Rattle.can_event.specs.declared.entry.Entry.{Entry}
use Rattle.can_bus.specs.Counters.{counts_of, state_at}
use Rattle.can_bus.specs.State.{kept_nodes}
use Rattle.can_bus.specs.Stats.{all_counts}
use Rattle.can_bus.specs.Changes.{is_down_at, is_off_at, is_silent_at}

pub index-map : {X : Type 0} (f : ℕ → X) (a n k : ℕ) (d : X) → k < n → slice_index_or (map f (range_with_len a n)) k d ≡ f (a + k)
index-map f a zero k d lt = absurd (omega arith)
index-map f a (suc n) zero d lt = ap f (omega arith)
index-map f a (suc n) (suc k) d lt = index-map f (a + 1) n k d (omega arith) ∙ ap f (omega arith)

counts-at : (c : BusConfig) (past : List Entry) (i n : ℕ) → i < n → slice_index_or (map (counts_of c past) (range_with_len 0 n)) i at_start ≡ counts_of c past i
counts-at c past i n below = index-map (counts_of c past) 0 n i at_start below ∙ ap (counts_of c past) (omega arith)

-- the error counts of an interface in the state
pub counts_at-kept : (c : BusConfig) (past : List Entry) (i : ℕ) → i < 16 → counts_at (kept_nodes c past) i ≡ counts_of c past i
unfolding kept_nodes
counts_at-kept c past i below = counts-at c past i 16 below

-- whether an interface is bus off, down, or either of these
pub is_off_at-kept : (c : BusConfig) (past : List Entry) (i : ℕ) → i < 16 → is_off_at (kept_nodes c past) i ≡ is_off (state_at c past i)
is_off_at-kept c past i below = ap (λ (k : ErrorCounts). is_off (state_of k)) (counts_at-kept c past i below)

pub is_down_at-kept : (c : BusConfig) (past : List Entry) (i : ℕ) → i < 16 → is_down_at (kept_nodes c past) i ≡ is_down (state_at c past i)
is_down_at-kept c past i below = ap (λ (k : ErrorCounts). is_down (state_of k)) (counts_at-kept c past i below)

pub is_silent_at-kept : (c : BusConfig) (past : List Entry) (i : ℕ) → i < 16 → is_silent_at (kept_nodes c past) i ≡ is_silent (state_at c past i)
is_silent_at-kept c past i below = ap (λ (k : ErrorCounts). is_silent (state_of k)) (counts_at-kept c past i below)

-- the error counts at all places in the state
pub counters-kept : (c : BusConfig) (past : List Entry) → (kept_nodes c past).counters ≡ all_counts c past
unfolding kept_nodes all_counts
counters-kept c past = refl

-- the error counts at the place of an interface
pub all_counts-at : (c : BusConfig) (past : List Entry) (i : ℕ) → i < 16 → slice_index_or (all_counts c past) i at_start ≡ counts_of c past i
unfolding all_counts
all_counts-at c past i below = counts-at c past i 16 below
