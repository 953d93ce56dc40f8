use Rattle.std.proofs.Common.{◌≡◌, ◌≢◌, ℕ, ◌<◌, ◌≤◌, ◌+◌, ◌-◌, ◌%◌, ◌*◌, Some, None, true, false, ltb, take_all, List, [], ◌∷◌, length, get_or, slice_set, filter, zero, suc, refl, sym, ap, ◌∙◌, subst, arith}
use Rattle.std.specs.List.{AllPairs, insert, remove, refill}
use Rattle.std.specs.List.Sorted.{IsNonDecreasing, IsPartitionedBy, IsPartitionPoint}
use Rattle.std.proofs.lemmas.List.{get_or_default, take-append-le}
use Rattle.std.proofs.lemmas.List.Edits.{length-insert, length-remove, get_or-insert_below, get_or-insert_above}
use Rattle.can_arbiter.specs.Ranks.{key_in, keys_in, GoesBefore, IsPutAmong}
use Rattle.can_arbiter.proofs.Ranking.{is_others, kept, left_out, key_in-behind, keys_in-set, clears, keeps_order, non_decreasing, absent_where_cleared, sets, in_order-put, parts}

-- A rank is moved among the others, one place at a time.

pub put_first : (ranks : List ℕ) (place rank : ℕ) → place < length ranks → slice_set ranks place rank ≡ insert (remove ranks place) place rank
put_first [] place rank inside = absurd (omega arith)
put_first (x ∷ xs) zero rank inside = refl
put_first (x ∷ xs) (suc place) rank inside = ap (λ (ys : List ℕ). x ∷ ys) (put_first xs place rank (omega arith))

pub put_before : (others : List ℕ) (at rank : ℕ) → at < length others → slice_set (slice_set (insert others (suc at) rank) (suc at) (get_or (insert others (suc at) rank) at 0)) at rank ≡ insert others at rank
put_before [] at rank inside = absurd (omega arith)
put_before (x ∷ xs) zero rank inside = refl
put_before (x ∷ xs) (suc at) rank inside = ap (λ (ys : List ℕ). x ∷ ys) (put_before xs at rank (omega arith))

pub put_behind : (others : List ℕ) (at rank : ℕ) → at < length others → slice_set (slice_set (insert others at rank) at (get_or (insert others at rank) (suc at) 0)) (suc at) rank ≡ insert others (suc at) rank
put_behind [] at rank inside = absurd (omega arith)
put_behind (x ∷ xs) zero rank inside = refl
put_behind (x ∷ xs) (suc at) rank inside = ap (λ (ys : List ℕ). x ∷ ys) (put_behind xs at rank (omega arith))

-- ---- the others are those that are not this interface's

all_others : (n : ℕ) (ranks : List ℕ) → ((k : ℕ) → k < length ranks → get_or ranks k 0 % 16 ≢ n) → filter (is_others n) ranks ≡ ranks
all_others n [] apart = refl
all_others n (x ∷ xs) apart = kept n x xs (apart 0 (omega arith)) ∙ ap (λ (ys : List ℕ). x ∷ ys) (all_others n xs (λ k inside. apart (suc k) (omega arith)))

pub others_of : (ranks : List ℕ) (place n : ℕ) → AllPairs GoesBefore ranks → place < length ranks → get_or ranks place 0 % 16 ≡ n → remove ranks place ≡ filter (is_others n) ranks
others_of [] place n ordered inside is = absurd (omega arith)
others_of (x ∷ xs) zero n ordered inside is =
    sym (left_out n x xs is ∙ all_others n xs (λ k within same. (ordered 0 (suc k) 0 (omega arith) (omega arith)).1 (is ∙ sym same)))
others_of (x ∷ xs) (suc place) n ordered inside is =
    let apart : x % 16 ≢ n = λ same. (ordered 0 (suc place) 0 (omega arith) inside).1 (same ∙ sym is) in
    ap (λ (ys : List ℕ). x ∷ ys) (others_of xs place n (λ i j d before within. ordered (suc i) (suc j) d (omega arith) (omega arith)) (omega arith) is) ∙ sym (kept n x xs apart)

-- ---- one step of each loop

pub steps_before : (others ranks new : List ℕ) (at before rank : ℕ) → suc before ≡ at → at ≤ length others → ranks ≡ insert others at rank
    → new ≡ slice_set (slice_set ranks at (get_or ranks before 0)) before rank → new ≡ insert others before rank
steps_before others ranks new at before rank next inside put is =
    is ∙ (ap (λ (r : List ℕ). slice_set (slice_set r at (get_or r before 0)) before rank) put
    ∙ subst (λ (n : ℕ). slice_set (slice_set (insert others n rank) n (get_or (insert others n rank) before 0)) before rank ≡ insert others before rank) next (put_before others before rank (omega arith)))

pub steps_behind : (others ranks new : List ℕ) (at behind rank : ℕ) → suc at ≡ behind → at < length others → ranks ≡ insert others at rank
    → new ≡ slice_set (slice_set ranks at (get_or ranks behind 0)) behind rank → new ≡ insert others behind rank
steps_behind others ranks new at behind rank next inside put is =
    is ∙ (ap (λ (r : List ℕ). slice_set (slice_set r at (get_or r behind 0)) behind rank) put
    ∙ subst (λ (n : ℕ). slice_set (slice_set (insert others at rank) at (get_or (insert others at rank) n 0)) n rank ≡ insert others n rank) next (put_behind others at rank inside))

-- the ranks next to the moved rank
next_before : (others ranks : List ℕ) (at rank : ℕ) → 0 < at → at ≤ length others → ranks ≡ insert others at rank → get_or ranks (at - 1) 0 ≡ get_or others (at - 1) 0
next_before others ranks at rank after inside put = ap (λ (r : List ℕ). get_or r (at - 1) 0) put ∙ get_or-insert_below others at rank 0 (at - 1) (omega arith) inside

next_behind : (others ranks : List ℕ) (at rank : ℕ) → at < length others → ranks ≡ insert others at rank → get_or ranks (at + 1) 0 ≡ get_or others at 0
next_behind others ranks at rank inside put = ap (λ (r : List ℕ). get_or r (at + 1) 0) put ∙ get_or-insert_above others at rank 0 at (omega arith) (omega arith)

pub below_at : (others ranks : List ℕ) (at rank : ℕ) → at ≤ length others → ranks ≡ insert others at rank → (0 < at → get_or ranks (at - 1) 0 < rank) → 0 < at → get_or others (at - 1) 0 < rank
below_at others ranks at rank inside put less after = subst (λ (x : ℕ). x < rank) (next_before others ranks at rank after inside put) (less after)

pub below_next : (others ranks : List ℕ) (at rank : ℕ) → at < length others → ranks ≡ insert others at rank → get_or ranks (at + 1) 0 < rank → 0 < at + 1 → get_or others (at + 1 - 1) 0 < rank
below_next others ranks at rank inside put less after =
    let same : at ≡ at + 1 - 1 = omega arith in
    subst (λ (k : ℕ). get_or others k 0 < rank) same (subst (λ (x : ℕ). x < rank) (next_behind others ranks at rank inside put) less)

pub put_among : (others ranks : List ℕ) (at rank : ℕ) → IsNonDecreasing others → at ≤ length others → ranks ≡ insert others at rank → (0 < at → get_or others (at - 1) 0 < rank)
    → (at < length others → rank ≤ get_or ranks (at + 1) 0) → IsPutAmong others rank ranks
put_among others ranks at rank ordered inside put below above = (at, inside, put, less, rest)
  where
    less : (k d : ℕ) → k < at → get_or others k d < rank
    less k d before =
        let low = ordered k (at - 1) d (omega arith) (omega arith) in
        let same = get_or_default others (at - 1) d 0 (omega arith) in
        omega (arith, low, same, below (omega arith))

    rest : (k d : ℕ) → at ≤ k → k < length others → rank ≤ get_or others k d
    rest k d from within =
        let high = ordered at k d from within in
        let same = get_or_default others at d 0 (omega arith) in
        omega (arith, high, same, next_behind others ranks at rank (omega arith) put, above (omega arith))

-- ---- a key that is set where another was held

others_ordered : (old : List ℕ) (place n : ℕ) → AllPairs GoesBefore old → place < length old → get_or old place 0 % 16 ≡ n → AllPairs GoesBefore (remove old place)
others_ordered old place n ordered inside is = keeps_order old (remove old place) n (others_of old place n ordered inside is) ordered

pub others_rise : (old : List ℕ) (place n : ℕ) → AllPairs GoesBefore old → place < length old → get_or old place 0 % 16 ≡ n → IsNonDecreasing (remove old place)
others_rise old place n ordered inside is = non_decreasing (remove old place) (others_ordered old place n ordered inside is)

pub moves : (old new : List ℕ) (n key place rank : ℕ) → n < 16 → rank ≡ key * 16 + n → AllPairs GoesBefore old → place < length old → get_or old place 0 % 16 ≡ n → IsPutAmong (remove old place) rank new
    → (keys_in new ≡ slice_set (keys_in old) n (Some key)) × AllPairs GoesBefore new
moves old new n key place rank below is ordered inside held put =
    let without : keys_in (remove old place) ≡ slice_set (keys_in old) n None = clears old (remove old place) n below (others_of old place n ordered inside held) in
    let absent = absent_where_cleared old (remove old place) n (rank % 16) below (omega (arith, is)) without in (
      sets old (remove old place) new n key put.0 rank below is without put.2,
      subst (AllPairs GoesBefore) (sym put.2) (in_order-put (remove old place) put.0 rank (others_ordered old place n ordered inside held) put.1 absent put.3 put.4),
    )

-- ---- a key that is set where none was held

pub none_held : (ranks : List ℕ) (n : ℕ) → ((k : ℕ) → k < length ranks → get_or ranks k 0 % 16 ≢ n) → key_in ranks n ≡ None
none_held [] n apart = refl
none_held (rank ∷ ranks) n apart = key_in-behind rank ranks n (apart 0 (omega arith)) ∙ none_held ranks n (λ k inside. apart (suc k) (omega arith))

pub keeps_absent : (ranks : List ℕ) (n : ℕ) → n < 16 → key_in ranks n ≡ None → keys_in ranks ≡ slice_set (keys_in ranks) n None
keeps_absent ranks n inside absent = keys_in-set ranks ranks n None inside absent (λ i other. refl)

-- ---- the row that a slice of it leaves

refilled : (xs ws : List ℕ) → length ws ≡ length xs → refill (length xs) xs ws ≡ ws
refilled xs ws same =
    let within : length xs ≤ length ws = omega (arith, same) in
    rw take-append-le (take_all (length xs) ws (omega (arith, same)))

-- a new key for an interface that already holds one, in the row
pub moves_in : (old new : List ℕ) (n key place rank : ℕ) → n < 16 → rank ≡ key * 16 + n → AllPairs GoesBefore old → place < length old → get_or old place 0 % 16 ≡ n → IsPutAmong (remove old place) rank new
    → (keys_in (refill (length old) old new) ≡ slice_set (keys_in old) n (Some key)) × AllPairs GoesBefore (refill (length old) old new)
moves_in old new n key place rank below is ordered inside held put =
    let long : length new ≡ length old = omega (arith, ap length put.2, length-insert (remove old place) put.0 rank put.1, length-remove old place inside) in
    subst (λ (row : List ℕ). (keys_in row ≡ slice_set (keys_in old) n (Some key)) × AllPairs GoesBefore row) (sym (refilled old new long)) (moves old new n key place rank below is ordered inside held put)

-- the place of a rank in a row, as found by a search
pub belongs : (seen ranked : List ℕ) (rank place : ℕ) → AllPairs GoesBefore ranked → seen ≡ ranked → place ≤ length seen
    → (IsPartitionedBy (λ other. ltb other rank) seen → IsPartitionPoint (λ other. ltb other rank ≡ true) (λ other. ltb other rank ≡ false) seen place)
    → (place ≤ length ranked) × IsPartitionPoint (λ other. ltb other rank ≡ true) (λ other. ltb other rank ≡ false) ranked place
belongs seen ranked rank place ordered same within found = (
  subst (λ (row : List ℕ). place ≤ length row) same within,
  subst (λ (row : List ℕ). IsPartitionPoint (λ other. ltb other rank ≡ true) (λ other. ltb other rank ≡ false) row place) same (found (subst (IsPartitionedBy (λ other. ltb other rank)) (sym same) (parts ranked rank ordered))),
)
