use Rattle.std.proofs.Common.{◌≡◌, ℕ, zero, suc, ◌+◌, ◌<◌, ◌≤◌, ◌==◌, nat_le, nat_lt, Bool, true, false, not, ◌&&◌, List, [], ◌∷◌, ◌++◌, filter, refl, ap, sym, ◌∙◌, arith, inl, inr}
use Rattle.std.proofs.lemmas.Bool.{cases_lt, cases_eq, false≢true}
use Rattle.std.specs.List.{list_any, range_with_len}
use Rattle.std.proofs.lemmas.Map.Views.{any-filter_same}
use Rattle.can_frame.specs.Sets.{bits_where}
use Rattle.can_attempt.specs.declared.class.Class.{Class}
use Rattle.can_attempt.specs.Attempts.{is_among, Transmission, can_hear, receivers, hit, unhurt, is_struck, steps_in, counts_in, receiver_step}

-- Lists of interfaces, and the bits of the sets that are made from them.

-- a filter keeps the numbers that pass the test
pub is_among-filter : (p : ℕ → Bool) (i : ℕ) (xs : List ℕ) → is_among i (filter p xs) ≡ (p i && is_among i xs)
is_among-filter p i xs = any-filter_same (λ j. j == i) p (p i) (λ k same. ap p (grind arith)) xs

-- the numbers from a on
pub is_among-range : (i a n : ℕ) → is_among i (range_with_len a n) ≡ (nat_le a i && nat_lt i (a + n))
is_among-range i a zero = grind arith
is_among-range i a (suc n) = let later : is_among i (range_with_len (a + 1) n) ≡ (nat_le (a + 1) i && nat_lt i (a + 1 + n)) = is_among-range i (a + 1) n in grind (arith, later)

-- one more number at the end of a range
pub range_more : (a n j : ℕ) → a + n ≡ j → range_with_len a (suc n) ≡ range_with_len a n ++ j ∷ []
range_more a zero j e = ap (λ k. k ∷ []) (omega (arith, e))
range_more a (suc n) j e = ap (λ ks. a ∷ ks) (range_more (a + 1) n j (omega (arith, e)))

-- tests that agree below n make the same bits
pub bits_where_same : (p q : ℕ → Bool) (n : ℕ) → ((i : ℕ) → i < n → p i ≡ q i) → bits_where p n ≡ bits_where q n
bits_where_same p q zero same = refl
bits_where_same p q (suc n) same =
    let here : p n ≡ q n = same n (omega arith) in
    let below : bits_where p n ≡ bits_where q n = bits_where_same p q n (λ i h. same i (omega (arith, h))) in
    rw (here, below) refl

-- bits above the last place that passes are 0
pub bits_where_below : (p q : ℕ → Bool) (c n : ℕ) → c ≤ n → ((i : ℕ) → p i ≡ (q i && nat_lt i c)) → bits_where p n ≡ bits_where q c
bits_where_below p q c zero within same = let none : c ≡ 0 = omega (arith, within) in rw none refl
bits_where_below p q c (suc n) within same =
    elim (cases_lt n c) [
      | inl below ↦
          let all : c ≡ suc n = omega (arith, within, below) in
          rw all (bits_where_same p q (suc n) (λ i h. let s : p i ≡ (q i && nat_lt i c) = same i in grind (arith, s)))
      | inr past ↦
          let above : p n ≡ false = let s : p n ≡ (q n && nat_lt n c) = same n in grind (arith, s) in
          rw above (bits_where_below p q c n past same)
    ]

-- membership among the receivers
pub is_among-receivers : (t : Transmission) (i : ℕ) → is_among i (receivers t) ≡ (can_hear t i && nat_lt i t.count)
is_among-receivers t i = rw (is_among-filter (can_hear t) i (range_with_len 0 t.count), is_among-range i 0 t.count) (grind arith)

-- a receiver takes a receiver's step
pub steps_in-receiver : (c : Class) (t : Transmission) (i : ℕ) → (i == t.winner) ≡ false → can_hear t i ≡ true → i < t.count → steps_in c t i ≡ receiver_step c (is_struck t.verdict i)
steps_in-receiver c t i other hears there =
    let among : is_among i (receivers t) ≡ true = rw (is_among-receivers t i, hears) (grind arith) in
    rw (other, among) refl

-- any other interface takes no step
pub steps_in-none : (c : Class) (t : Transmission) (i : ℕ) → (i == t.winner) ≡ false → (can_hear t i && nat_lt i t.count) ≡ false → steps_in c t i ≡ []
steps_in-none c t i other deaf =
    let among : is_among i (receivers t) ≡ false = is_among-receivers t i ∙ deaf in
    rw (other, among) refl

-- an interface outside the bus keeps its counts
pub counts_in-beyond : (c : Class) (t : Transmission) (i : ℕ) → t.winner < t.count → t.count ≤ i → counts_in c t i ≡ t.counts i
counts_in-beyond c t i within past =
    let other : (i == t.winner) ≡ false = grind (arith, within, past) in
    let above : nat_lt i t.count ≡ false = grind (arith, past) in
    let deaf : (can_hear t i && nat_lt i t.count) ≡ false = false_on_the_right (can_hear t i) (nat_lt i t.count) above in
    rw (steps_in-none c t i other deaf) refl
  where
    false_on_the_right : (x y : Bool) → y ≡ false → (x && y) ≡ false
    false_on_the_right x y fails = rw fails (grind arith)

-- membership among the receivers that are hit
pub is_among-hit : (t : Transmission) (i : ℕ) → is_among i (hit t) ≡ (is_struck t.verdict i && (can_hear t i && nat_lt i t.count))
is_among-hit t i = is_among-filter (is_struck t.verdict) i (receivers t) ∙ ap (λ b. is_struck t.verdict i && b) (is_among-receivers t i)

-- membership among the receivers that are not hit
pub is_among-unhurt : (t : Transmission) (i : ℕ) → is_among i (unhurt t) ≡ (not (is_struck t.verdict i) && (can_hear t i && nat_lt i t.count))
is_among-unhurt t i = is_among-filter (λ k. not (is_struck t.verdict k)) i (receivers t) ∙ ap (λ b. not (is_struck t.verdict i) && b) (is_among-receivers t i)

-- a number of the list passes the test
pub any_among : (p : ℕ → Bool) (i : ℕ) (xs : List ℕ) → is_among i xs ≡ true → p i ≡ true → list_any p xs ≡ true
any_among p i [] among passes = absurd (false≢true among)
any_among p i (k ∷ ks) among passes =
    elim (cases_eq k i) [
      | inl same ↦ let here : p k ≡ true = ap p same ∙ passes in rw here refl
      | inr other ↦
          let later : is_among i ks ≡ true = grind (arith, among, other) in
          let rest : list_any p ks ≡ true = any_among p i ks later passes in
          rw rest (grind arith)
    ]

-- tests that agree on all numbers of the list
pub any_same : (p q : ℕ → Bool) (xs : List ℕ) → ((i : ℕ) → is_among i xs ≡ true → p i ≡ q i) → list_any p xs ≡ list_any q xs
any_same p q [] same = refl
any_same p q (k ∷ ks) same =
    let here : p k ≡ q k = same k (grind arith) in
    let rest : list_any p ks ≡ list_any q ks = any_same p q ks (λ i among. same i (rw among (grind arith))) in
    rw (here, rest) refl

-- no number passes a test that is always false
pub any_none : (xs : List ℕ) → list_any (λ i. false) xs ≡ false
any_none [] = refl
any_none (k ∷ ks) = any_none ks

-- filters with tests that agree on all numbers of the list keep the same numbers
pub filter_same : (p q : ℕ → Bool) (xs : List ℕ) → ((i : ℕ) → is_among i xs ≡ true → p i ≡ q i) → filter p xs ≡ filter q xs
filter_same p q [] same = refl
filter_same p q (k ∷ ks) same =
    let here : p k ≡ q k = same k (grind arith) in
    let rest : filter p ks ≡ filter q ks = filter_same p q ks (λ i among. same i (rw among (grind arith))) in
    rw (here, rest) refl

-- the interfaces of a bus with n interfaces
pub below_among : (i n : ℕ) → is_among i (range_with_len 0 n) ≡ true → i < n
below_among i n among = let e : (nat_le 0 i && nat_lt i (0 + n)) ≡ true = sym (is_among-range i 0 n) ∙ among in grind (arith, e)
