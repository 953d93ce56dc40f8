use Rattle.std.proofs.Common.{◌≡◌, ◌⊎◌, ℕ, zero, suc, ◌+◌, ◌*◌, ◌/◌, ◌%◌, ◌^◌, ◌<◌, ◌≤◌, ◌&&◌, eqb, Bool, true, false, cond, List, [], ◌∷◌, ◌++◌, length, refl, sym, ap, inl, inr, arith}
use Rattle.std.proofs.Math.Nat.{pow-suc}
use Rattle.std.proofs.lemmas.Bool.{cases_Bool, false≢true}
use Rattle.std.proofs.lemmas.Bool.Decides.{Decides-eqb}
use Rattle.std.proofs.lemmas.Nat.{pow_pos, mul-le, mod-pow-add, pow-add}
use Rattle.can_frame.specs.Arbitration.{low_bits, goes_before, GoesBefore, bits_number}

-- Lists of bits, their order, and the numbers that they stand for.

abbrev pub IsBits : List ℕ → Type 0
IsBits [] = Unit {0}
IsBits (b ∷ bits) = (b < 2) × IsBits bits

pub IsBits-append : (xs ys : List ℕ) → IsBits xs → IsBits ys → IsBits (xs ++ ys)
IsBits-append [] ys h k = k
IsBits-append (x ∷ xs) ys h k = (h.0, IsBits-append xs ys h.1 k)

pub IsBits-low_bits : (k n : ℕ) → IsBits (low_bits k n)
IsBits-low_bits zero n = tt
IsBits-low_bits (suc k) n = (omega arith, IsBits-low_bits k n)

pub length-low_bits : (k n : ℕ) → length (low_bits k n) ≡ k
length-low_bits zero n = refl
length-low_bits (suc k) n = ap suc (length-low_bits k n)

pub bits_number-lt : (k : ℕ) (xs : List ℕ) → IsBits xs → bits_number k xs < 2 ^ k
bits_number-lt zero xs h = omega arith
bits_number-lt (suc k) [] h = pow_pos (suc k)
bits_number-lt (suc k) (b ∷ bits) h =
    let at_most = mul-le b (2 ^ k) 1 (2 ^ k) (omega arith) (omega arith) in
    omega (arith, at_most, pow-suc 2 k, bits_number-lt k bits h.1)

both_true : (a b : Bool) → (a && b) ≡ true → (a ≡ true) × (b ≡ true)
both_true true b h = (refl, h)
both_true false b h = absurd (false≢true h)

-- `goes_before` is decided by the first bits, or by the rest if these are equal
before_at : (x y : ℕ) (later : Bool) → cond (eqb x y) later (eqb x 0 && eqb y 1) ≡ true → ((x ≡ y) × (later ≡ true)) ⊎ ((x ≡ 0) × (y ≡ 1))
before_at x y later h = elim (cases_Bool (eqb x y)) [
  | inl same ↦ inl ((Decides-eqb x y).0 same, rw same at h)
  | inr other ↦
      let both = both_true (eqb x 0) (eqb y 1) (rw other at h) in
      inr ((Decides-eqb x 0).0 both.0, (Decides-eqb y 1).0 both.1)
]

-- the list that goes before the other has the lower number
pub bits_number-before : (k : ℕ) (xs ys : List ℕ) → IsBits xs → IsBits ys → length xs ≤ k → length ys ≤ k → goes_before xs ys ≡ true → bits_number k xs < bits_number k ys
bits_number-before k [] ys p q m n h = absurd (false≢true h)
bits_number-before k (x ∷ xs) [] p q m n h = absurd (false≢true h)
bits_number-before zero (x ∷ xs) (y ∷ ys) p q m n h = absurd (omega arith)
bits_number-before (suc k) (x ∷ xs) (y ∷ ys) p q m n h = elim (before_at x y (goes_before xs ys) h) [
  | inl same ↦
      let later = bits_number-before k xs ys p.1 q.1 (omega arith) (omega arith) same.1 in
      rw same.0 (omega (arith, later))
  | inr here ↦ rw (here.0, here.1) (omega (arith, bits_number-lt k xs p.1))
]

eqb_same : (x : ℕ) → eqb x x ≡ true
eqb_same x = (Decides-eqb x x).1 refl

pub goes_before-cons : (x : ℕ) (xs ys : List ℕ) → goes_before xs ys ≡ true → goes_before (x ∷ xs) (x ∷ ys) ≡ true
goes_before-cons x xs ys h = rw (eqb_same x) h

pub goes_before-append : (fs gs xs ys : List ℕ) → goes_before fs gs ≡ true → goes_before (fs ++ xs) (gs ++ ys) ≡ true
goes_before-append [] gs xs ys h = absurd (false≢true h)
goes_before-append (f ∷ fs) [] xs ys h = absurd (false≢true h)
goes_before-append (f ∷ fs) (g ∷ gs) xs ys h = elim (before_at f g (goes_before fs gs) h) [
  | inl same ↦ rw same.0 (goes_before-cons g (fs ++ xs) (gs ++ ys) (goes_before-append fs gs xs ys same.1))
  | inr here ↦ rw (here.0, here.1) refl
]

-- ---- the test is the rule

pub GoesBefore-goes_before : (xs ys : List ℕ) → goes_before xs ys ≡ true → GoesBefore xs ys
GoesBefore-goes_before [] ys h = absurd (false≢true h)
GoesBefore-goes_before (x ∷ xs) [] h = absurd (false≢true h)
GoesBefore-goes_before (x ∷ xs) (y ∷ ys) h = elim (before_at x y (goes_before xs ys) h) [
  | inl same ↦
      let r = GoesBefore-goes_before xs ys same.1 in
      (x ∷ r.0, r.1, r.2, ap (λ (l : List ℕ). x ∷ l) r.3, rw same.0 (ap (λ (l : List ℕ). y ∷ l) r.4))
  | inr here ↦ ([], xs, ys, ap (λ (b : ℕ). b ∷ xs) here.0, ap (λ (b : ℕ). b ∷ ys) here.1)
]

after_shared : (shared rest others : List ℕ) → goes_before (shared ++ 0 ∷ rest) (shared ++ 1 ∷ others) ≡ true
after_shared [] rest others = refl
after_shared (x ∷ shared) rest others = goes_before-cons x (shared ++ 0 ∷ rest) (shared ++ 1 ∷ others) (after_shared shared rest others)

pub goes_before-GoesBefore : (xs ys : List ℕ) → GoesBefore xs ys → goes_before xs ys ≡ true
goes_before-GoesBefore xs ys h = rw (h.3, h.4) (after_shared h.0 h.1 h.2)

-- ---- going before is a strict order

pub goes_before-self : (xs : List ℕ) → goes_before xs xs ≡ true → ⊥
goes_before-self [] h = false≢true h
goes_before-self (x ∷ xs) h = elim (before_at x x (goes_before xs xs) h) [
  | inl same ↦ goes_before-self xs same.1
  | inr here ↦ absurd (omega arith)
]

pub goes_before-through : (xs ys zs : List ℕ) → goes_before xs ys ≡ true → goes_before ys zs ≡ true → goes_before xs zs ≡ true
goes_before-through [] ys zs h k = absurd (false≢true h)
goes_before-through (x ∷ xs) [] zs h k = absurd (false≢true h)
goes_before-through (x ∷ xs) (y ∷ ys) [] h k = absurd (false≢true k)
goes_before-through (x ∷ xs) (y ∷ ys) (z ∷ zs) h k = elim (before_at x y (goes_before xs ys) h) [
  | inl same ↦ elim (before_at y z (goes_before ys zs) k) [
    | inl again ↦ rw (same.0, again.0) (goes_before-cons z xs zs (goes_before-through xs ys zs same.1 again.1))
    | inr here ↦ rw (same.0, here.0, here.1) refl
  ]
  | inr here ↦ elim (before_at y z (goes_before ys zs) k) [
    | inl again ↦ rw (here.0, ← again.0, here.1) refl
    | inr there ↦ absurd (omega arith)
  ]
]

-- neither a list nor its front goes before the other
pub goes_before-front : (xs rest : List ℕ) → goes_before xs (xs ++ rest) ≡ true → ⊥
goes_before-front [] rest h = false≢true h
goes_before-front (x ∷ xs) rest h = elim (before_at x x (goes_before xs (xs ++ rest)) h) [
  | inl same ↦ goes_before-front xs rest same.1
  | inr here ↦ absurd (omega arith)
]

pub front-goes_before : (xs rest : List ℕ) → goes_before (xs ++ rest) xs ≡ true → ⊥
front-goes_before [] [] h = false≢true h
front-goes_before [] (b ∷ rest) h = false≢true h
front-goes_before (x ∷ xs) rest h = elim (before_at x x (goes_before (xs ++ rest) xs) h) [
  | inl same ↦ front-goes_before xs rest same.1
  | inr here ↦ absurd (omega arith)
]

-- ---- comparing

-- one of two lists goes before the other, or they are equal
abbrev pub AreCompared : List ℕ → List ℕ → Type 0
AreCompared xs ys = (xs ≡ ys) ⊎ ((goes_before xs ys ≡ true) ⊎ (goes_before ys xs ≡ true))

AreCompared-cons : (x : ℕ) (xs ys : List ℕ) → AreCompared xs ys → AreCompared (x ∷ xs) (x ∷ ys)
AreCompared-cons x xs ys (inl same) = inl (ap (λ (l : List ℕ). x ∷ l) same)
AreCompared-cons x xs ys (inr (inl h)) = inr (inl (goes_before-cons x xs ys h))
AreCompared-cons x xs ys (inr (inr h)) = inr (inr (goes_before-cons x ys xs h))

AreCompared-after : (fs xs ys : List ℕ) → AreCompared xs ys → AreCompared (fs ++ xs) (fs ++ ys)
AreCompared-after [] xs ys h = h
AreCompared-after (f ∷ fs) xs ys h = AreCompared-cons f (fs ++ xs) (fs ++ ys) (AreCompared-after fs xs ys h)

-- lists that begin with different parts are compared by these parts first
pub AreCompared-append : (fs gs xs ys : List ℕ) → AreCompared fs gs → AreCompared xs ys → AreCompared (fs ++ xs) (gs ++ ys)
AreCompared-append fs gs xs ys (inl same) h = rw same (AreCompared-after gs xs ys h)
AreCompared-append fs gs xs ys (inr (inl before)) h = inr (inl (goes_before-append fs gs xs ys before))
AreCompared-append fs gs xs ys (inr (inr after)) h = inr (inr (goes_before-append gs fs ys xs after))

pub AreCompared-sym : (xs ys : List ℕ) → AreCompared xs ys → AreCompared ys xs
AreCompared-sym xs ys (inl same) = inl (sym same)
AreCompared-sym xs ys (inr (inl before)) = inr (inr before)
AreCompared-sym xs ys (inr (inr after)) = inr (inl after)

-- two lists of bits of the same length can be compared
pub AreCompared-bits : (xs ys : List ℕ) → IsBits xs → IsBits ys → length xs ≡ length ys → AreCompared xs ys
AreCompared-bits [] [] p q e = inl refl
AreCompared-bits [] (y ∷ ys) p q e = absurd (omega arith)
AreCompared-bits (x ∷ xs) [] p q e = absurd (omega arith)
AreCompared-bits (x ∷ xs) (y ∷ ys) p q e =
    first x y p.0 q.0 (AreCompared-bits xs ys p.1 q.1 (omega arith))
  where
    first : (x y : ℕ) → x < 2 → y < 2 → AreCompared xs ys → AreCompared (x ∷ xs) (y ∷ ys)
    first zero zero p q h = AreCompared-cons 0 xs ys h
    first zero (suc zero) p q h = inr (inl refl)
    first (suc zero) zero p q h = inr (inr refl)
    first (suc zero) (suc zero) p q h = AreCompared-cons 1 xs ys h
    first (suc (suc x)) y p q h = absurd (omega arith)
    first x (suc (suc y)) p q h = absurd (omega arith)

-- the number of a bit list that begins with the lowest bits of n
pub bits_number-low_bits : (j m n k : ℕ) (rest : List ℕ) → k ≡ j + m → bits_number k (low_bits j n ++ rest) ≡ n % 2 ^ j * 2 ^ m + bits_number m rest
bits_number-low_bits zero m n k rest e =
    let same : k ≡ m = omega arith in
    let low : n % 1 ≡ 0 = omega arith in
    let none : n % 2 ^ 0 ≡ 0 = low in
    rw (same, none) (omega arith)
bits_number-low_bits (suc j) m n zero rest e = absurd (omega arith)
bits_number-low_bits (suc j) m n (suc k) rest e =
    let later = bits_number-low_bits j m n k rest (omega arith) in
    let next : suc j ≡ 1 + j = omega arith in
    let wide : n % 2 ^ suc j ≡ n / 2 ^ j % 2 * 2 ^ j + n % 2 ^ j = rw next (mod-pow-add n 1 j) in
    let sum : k ≡ j + m = omega arith in
    let power : 2 ^ k ≡ 2 ^ j * 2 ^ m = rw sum (pow-add 2 j m) in
    rw (wide, power) (omega (arith, later))
