use Rattle.std.proofs.Common.{◌≡◌, ℕ, zero, suc, ◌+◌, ◌*◌, ◌/◌, ◌%◌, ◌^◌, ◌<◌, ◌≤◌, Bool, true, false, cond, List, [], ◌∷◌, ◌++◌, length, refl, sym, ◌∙◌, inl, inr, arith}
use Rattle.can_frame.specs.Frames.{Payload, CanFrame}
use Rattle.can_frame.specs.Frames.Payload.{Data, Remote, Fd}
use Rattle.can_frame.specs.Arbitration.{low_bits, rtr_of, standard_bits, extended_bits, arbitration_bits, goes_before, bits_number, key_of}
use Rattle.can_frame.proofs.Bits.{IsBits, IsBits-append, IsBits-low_bits, length-low_bits, bits_number-low_bits, bits_number-before, AreCompared, AreCompared-append, AreCompared-bits, AreCompared-sym}

-- The arbitration bits of frames and their keys.

pub rtr-below : (p : Payload) → rtr_of p < 2
rtr-below (Data bytes) = omega arith
rtr-below (Remote len) = omega arith
rtr-below (Fd flags bytes) = omega arith

-- ---- the key's number

number-standard : (n r : ℕ) → bits_number 32 (standard_bits n r) ≡ n % 2 ^ 11 * 2 ^ 21 + r * 2 ^ 20
number-standard n r = bits_number-low_bits 11 21 n 32 (r ∷ 0 ∷ []) refl ∙ omega arith

number-extended : (n r : ℕ) → bits_number 32 (extended_bits n r) ≡ n / 2 ^ 18 % 2 ^ 11 * 2 ^ 21 + 3 * 2 ^ 19 + n % 2 ^ 18 * 2 + r
number-extended n r =
    let lower = bits_number-low_bits 18 1 n 19 (r ∷ []) refl in
    bits_number-low_bits 11 21 (n / 2 ^ 18) 32 (1 ∷ 1 ∷ low_bits 18 n ++ r ∷ []) refl ∙ omega (arith, lower)

pub key_of-standard : (f : CanFrame) → f.id.extended ≡ false → key_of f ≡ f.id.number % 2 ^ 11 * 2 ^ 21 + rtr_of f.payload * 2 ^ 20
unfolding key_of arbitration_bits
key_of-standard f h = rw h (number-standard f.id.number (rtr_of f.payload))

pub key_of-extended : (f : CanFrame) → f.id.extended ≡ true → key_of f ≡ f.id.number / 2 ^ 18 % 2 ^ 11 * 2 ^ 21 + 3 * 2 ^ 19 + f.id.number % 2 ^ 18 * 2 + rtr_of f.payload
unfolding key_of arbitration_bits
key_of-extended f h = rw h (number-extended f.id.number (rtr_of f.payload))

-- ---- the order of the bits

AreCompared-low : (k m n : ℕ) → AreCompared (low_bits k m) (low_bits k n)
AreCompared-low k m n =
    AreCompared-bits (low_bits k m) (low_bits k n) (IsBits-low_bits k m) (IsBits-low_bits k n) (length-low_bits k m ∙ sym (length-low_bits k n))

AreCompared-standard : (m n r s : ℕ) → r < 2 → s < 2 → AreCompared (standard_bits m r) (standard_bits n s)
AreCompared-standard m n r s p q =
    AreCompared-append (low_bits 11 m) (low_bits 11 n) (r ∷ 0 ∷ []) (s ∷ 0 ∷ []) (AreCompared-low 11 m n) (AreCompared-bits (r ∷ 0 ∷ []) (s ∷ 0 ∷ []) (p, (omega arith, tt)) (q, (omega arith, tt)) refl)

AreCompared-extended : (m n r s : ℕ) → r < 2 → s < 2 → AreCompared (extended_bits m r) (extended_bits n s)
AreCompared-extended m n r s p q =
    AreCompared-append (low_bits 11 (m / 2 ^ 18)) (low_bits 11 (n / 2 ^ 18)) (1 ∷ 1 ∷ low_bits 18 m ++ r ∷ []) (1 ∷ 1 ∷ low_bits 18 n ++ s ∷ []) (AreCompared-low 11 (m / 2 ^ 18) (n / 2 ^ 18))
    (AreCompared-append (1 ∷ 1 ∷ low_bits 18 m) (1 ∷ 1 ∷ low_bits 18 n) (r ∷ []) (s ∷ [])
    (AreCompared-append (1 ∷ 1 ∷ []) (1 ∷ 1 ∷ []) (low_bits 18 m) (low_bits 18 n) (inl refl) (AreCompared-low 18 m n))
    (AreCompared-bits (r ∷ []) (s ∷ []) (p, tt) (q, tt) refl))

-- RTR against SRR, then IDE
pub kinds : (r : ℕ) → r < 2 → (rest : List ℕ) → goes_before (r ∷ 0 ∷ []) (1 ∷ 1 ∷ rest) ≡ true
kinds zero p rest = refl
kinds (suc zero) p rest = refl
kinds (suc (suc r)) p rest = absurd (omega arith)

AreCompared-kinds : (m n r s : ℕ) → r < 2 → AreCompared (standard_bits m r) (extended_bits n s)
AreCompared-kinds m n r s p =
    AreCompared-append (low_bits 11 m) (low_bits 11 (n / 2 ^ 18)) (r ∷ 0 ∷ []) (1 ∷ 1 ∷ low_bits 18 n ++ s ∷ []) (AreCompared-low 11 m (n / 2 ^ 18)) (inr (inl (kinds r p (low_bits 18 n ++ s ∷ []))))

-- of any two frames one goes before the other, or their bits are equal
pub AreCompared-frames : (a b : CanFrame) → AreCompared (arbitration_bits a) (arbitration_bits b)
unfolding arbitration_bits
AreCompared-frames a b = by_kind a.id.extended b.id.extended
  where
    by_kind : (e f : Bool) → AreCompared (cond e (extended_bits a.id.number (rtr_of a.payload)) (standard_bits a.id.number (rtr_of a.payload))) (cond f (extended_bits b.id.number (rtr_of b.payload)) (standard_bits b.id.number (rtr_of b.payload)))
    by_kind true true = AreCompared-extended a.id.number b.id.number (rtr_of a.payload) (rtr_of b.payload) (rtr-below a.payload) (rtr-below b.payload)
    by_kind false false = AreCompared-standard a.id.number b.id.number (rtr_of a.payload) (rtr_of b.payload) (rtr-below a.payload) (rtr-below b.payload)
    by_kind false true = AreCompared-kinds a.id.number b.id.number (rtr_of a.payload) (rtr_of b.payload) (rtr-below a.payload)
    by_kind true false = AreCompared-sym (standard_bits b.id.number (rtr_of b.payload)) (extended_bits a.id.number (rtr_of a.payload)) (AreCompared-kinds b.id.number a.id.number (rtr_of b.payload) (rtr_of a.payload) (rtr-below b.payload))

-- arbitration bits are bits, and there are at most 32 of them
pub IsBits-arbitration_bits : (f : CanFrame) → IsBits (arbitration_bits f) × (length (arbitration_bits f) ≤ 32)
unfolding arbitration_bits
IsBits-arbitration_bits f = by_kind f.id.extended
  where
    by_kind : (e : Bool) → IsBits (cond e (extended_bits f.id.number (rtr_of f.payload)) (standard_bits f.id.number (rtr_of f.payload))) × (length (cond e (extended_bits f.id.number (rtr_of f.payload)) (standard_bits f.id.number (rtr_of f.payload))) ≤ 32)
    by_kind true =
        let lower = IsBits-append (low_bits 18 f.id.number) (rtr_of f.payload ∷ []) (IsBits-low_bits 18 f.id.number) (rtr-below f.payload, tt) in
        (IsBits-append (low_bits 11 (f.id.number / 2 ^ 18)) (1 ∷ 1 ∷ low_bits 18 f.id.number ++ rtr_of f.payload ∷ []) (IsBits-low_bits 11 (f.id.number / 2 ^ 18)) (omega arith, (omega arith, lower)), omega arith)
    by_kind false =
        (IsBits-append (low_bits 11 f.id.number) (rtr_of f.payload ∷ 0 ∷ []) (IsBits-low_bits 11 f.id.number) (rtr-below f.payload, (omega arith, tt)), omega arith)

-- ---- keys and bits agree

pub key_of-before : (a b : CanFrame) → goes_before (arbitration_bits a) (arbitration_bits b) ≡ true → key_of a < key_of b
unfolding key_of
key_of-before a b h =
    let p = IsBits-arbitration_bits a in
    let q = IsBits-arbitration_bits b in
    bits_number-before 32 (arbitration_bits a) (arbitration_bits b) p.0 q.0 p.1 q.1 h

pub key_of-same : (a b : CanFrame) → arbitration_bits a ≡ arbitration_bits b → key_of a ≡ key_of b
unfolding key_of
key_of-same a b e = rw e refl

-- the frame with the lesser key goes before
pub goes_before-key_of : (a b : CanFrame) → key_of a < key_of b → goes_before (arbitration_bits a) (arbitration_bits b) ≡ true
goes_before-key_of a b h = elim (AreCompared-frames a b) [
  | inl same ↦ absurd (omega (arith, key_of-same a b same))
  | inr (inl before) ↦ before
  | inr (inr after) ↦ absurd (omega (arith, key_of-before b a after))
]

-- frames with one key have equal bits
pub bits-from_key : (a b : CanFrame) → key_of a ≡ key_of b → arbitration_bits a ≡ arbitration_bits b
bits-from_key a b e = elim (AreCompared-frames a b) [
  | inl same ↦ same
  | inr (inl before) ↦ absurd (omega (arith, key_of-before a b before))
  | inr (inr after) ↦ absurd (omega (arith, key_of-before b a after))
]
