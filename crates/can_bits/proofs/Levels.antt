use Rattle.std.proofs.Common.{◌≡◌, ℕ, ◌+◌, ◌-◌, ◌<◌, ◌≤◌, ◌==◌, Bool, true, false, not, List, [], ◌∷◌, ◌++◌, length, map, take, drop, refl, sym, ap, subst, ◌∙◌, append_assoc, arith, inl, inr, length-append}
use Rattle.std.specs.Prelude.{if◌then◌else◌}
use Rattle.std.proofs.Math.Seq.{take-append_seam, drop-append_seam}
use Rattle.std.proofs.lemmas.List.{append-nil, map-append, length-drop, take-append-drop}
use Rattle.std.proofs.lemmas.Bool.{cases_Bool}
use Rattle.std.proofs.lemmas.Bool.Decides.{Decides-eqb}
use Rattle.can_wire.specs.Stuffing.{stuffed, stuffed_after, stuffed_inside, fixed_stuffed_after, last_of}
use Rattle.can_wire.specs.FrameBits.{bit_of}
use Rattle.can_bits.specs.declared.bit.Bit.{Bit}
use Rattle.can_bits.specs.declared.bit.Field.{Field}
use Rattle.can_bits.specs.Sent.{levels}
use Rattle.can_bits.specs.inner.Sending.{Last, nothing_sent, sent, stuff_bit, due, flushed, is_same, added, sent_all, last_after, sent_fixed}

-- The bits that are sent have the values of can_wire's stuffed lists.

pub levels-append : (xs ys : List Bit) → levels (xs ++ ys) ≡ levels xs ++ levels ys
levels-append xs ys = map-append (λ (b : Bit). bit_of b.is_recessive) xs ys

-- ---- two lists of bits, one after the other

pub sent_all-append : (fast : Bool) (xs ys : List Bit) (l : Last) → sent_all fast (xs ++ ys) l ≡ sent_all fast xs l ++ sent_all fast ys (last_after xs l)
sent_all-append fast [] ys l = refl
sent_all-append fast (x ∷ xs) ys l =
    let next : Last = added x (flushed l) in
    ap (λ (bits : List Bit). due fast l ++ sent fast x ∷ bits) (sent_all-append fast xs ys next) ∙ sym (append_assoc (due fast l) (sent fast x ∷ sent_all fast xs next) (sent_all fast ys (last_after xs next)))

pub last_after-append : (xs ys : List Bit) (l : Last) → last_after (xs ++ ys) l ≡ last_after ys (last_after xs l)
last_after-append [] ys l = refl
last_after-append (x ∷ xs) ys l = last_after-append xs ys (added x (flushed l))

-- ---- stuff bits

pub flushed_short : (l : Last) → l.count ≤ 5 → (flushed l).count ≤ 4
flushed_short l h = elim (cases_Bool (l.count == 5)) [
  | inl five ↦ rw five (omega arith)
  | inr less ↦
      let below : l.count ≤ 4 = grind (arith, Decides-eqb) in
      rw less below
]

added_short : (b : Bit) (l : Last) → l.count ≤ 4 → (added b l).count ≤ 5
added_short b l h = elim (cases_Bool (is_same b.is_recessive l.is_recessive)) [
  | inl here ↦ rw here (omega (arith, h))
  | inr other ↦ rw other (omega arith)
]

-- one more bit, and the stuff bit that may follow it
step : (fast : Bool) (field : Field) (x y : Bool) (c : ℕ) (values : List ℕ) → c ≤ 4 →
    let l : Last = record { field = field; is_recessive = x; count = if is_same x y then c + 1 else 1 } in
    bit_of x ∷ (levels (due fast l) ++ stuffed_after (bit_of (flushed l).is_recessive) (flushed l).count values) ≡ stuffed_after (bit_of y) c (bit_of x ∷ values)
step fast field true true c values h = elim (cases_Bool (c == 4)) [
  | inl full ↦ let five : (c + 1 == 5) ≡ true = grind (arith, Decides-eqb) in rw (five, full) refl
  | inr part ↦ let less : (c + 1 == 5) ≡ false = grind (arith, Decides-eqb) in rw (less, part) refl
]
step fast field false false c values h = elim (cases_Bool (c == 4)) [
  | inl full ↦ let five : (c + 1 == 5) ≡ true = grind (arith, Decides-eqb) in rw (five, full) refl
  | inr part ↦ let less : (c + 1 == 5) ≡ false = grind (arith, Decides-eqb) in rw (less, part) refl
]
step fast field true false c values h = refl
step fast field false true c values h = refl

-- all bits, including a stuff bit after the last one
pub sent_levels : (fast : Bool) (bits : List Bit) (l : Last) → l.count ≤ 5 → levels (sent_all fast bits l) ++ levels (due fast (last_after bits l)) ≡ levels (due fast l) ++ stuffed_after (bit_of (flushed l).is_recessive) (flushed l).count (levels bits)
sent_levels fast [] l h = sym (append-nil (levels (due fast l)))
sent_levels fast (b ∷ bits) l h =
    let m : Last = flushed l in
    let short : m.count ≤ 4 = flushed_short l h in
    let next : Last = added b m in
    let front : List ℕ = levels (due fast l) in
    let rest : List ℕ = levels (sent_all fast bits next) in
    let after : List ℕ = levels (due fast (last_after bits next)) in
    let more = sent_levels fast bits next (added_short b m short) in
    ap (λ (v : List ℕ). v ++ after) (levels-append (due fast l) (sent fast b ∷ sent_all fast bits next)) ∙ (append_assoc front (bit_of b.is_recessive ∷ rest) after ∙ ap (λ (v : List ℕ). front ++ v) (ap (λ (v : List ℕ). bit_of b.is_recessive ∷ v) more ∙ step fast b.field b.is_recessive m.is_recessive m.count (levels bits) short))

-- the value before the first bit makes no difference
from_start : (x : Bool) (values : List ℕ) → stuffed_after 0 0 (bit_of x ∷ values) ≡ stuffed (bit_of x ∷ values)
from_start true values = refl
from_start false values = refl

started : (bits : List Bit) → stuffed_after 0 0 (levels bits) ≡ stuffed (levels bits)
started [] = refl
started (b ∷ bits) = from_start b.is_recessive (levels bits)

pub whole_levels : (fast : Bool) (bits : List Bit) → levels (sent_all fast bits nothing_sent ++ due fast (last_after bits nothing_sent)) ≡ stuffed (levels bits)
whole_levels fast bits = levels-append (sent_all fast bits nothing_sent) (due fast (last_after bits nothing_sent)) ∙ (sent_levels fast bits nothing_sent (omega arith) ∙ started bits)

-- all bits without a stuff bit after the last one
inside_split : (xs ys : List ℕ) → length ys ≡ 1 → stuffed_inside (xs ++ ys) ≡ stuffed xs ++ ys
inside_split xs ys one =
    let k : length (xs ++ ys) - 1 ≡ length xs = omega (arith, length-append xs ys, one) in
    rw (k, take-append_seam, drop-append_seam) refl

with_last : (fast : Bool) (front back : List Bit) → length back ≡ 1 → levels (sent_all fast (front ++ back) nothing_sent) ≡ stuffed_inside (levels (front ++ back))
with_last fast front [] one = absurd (omega (arith, one))
with_last fast front (x ∷ []) one =
    let l : Last = last_after front nothing_sent in
    let s : List Bit = sent_all fast front nothing_sent in
    let back : List Bit = sent fast x ∷ [] in
    ap levels (sent_all-append fast front (x ∷ []) nothing_sent ∙ sym (append_assoc s (due fast l) back)) ∙ (levels-append (s ++ due fast l) back ∙ (ap (λ (v : List ℕ). v ++ bit_of x.is_recessive ∷ []) (whole_levels fast front) ∙ (sym (inside_split (levels front) (bit_of x.is_recessive ∷ []) refl) ∙ ap stuffed_inside (sym (levels-append front (x ∷ []))))))
with_last fast front (x ∷ y ∷ back) one = absurd (omega (arith, one))

pub inside_levels : (fast : Bool) (bits : List Bit) → levels (sent_all fast bits nothing_sent) ≡ stuffed_inside (levels bits)
inside_levels fast [] = refl
inside_levels fast (b ∷ bits) =
    let k : ℕ = length (b ∷ bits) - 1 in
    let one : length (drop k (b ∷ bits)) ≡ 1 = omega (arith, length-drop k (b ∷ bits)) in
    subst (λ (l : List Bit). levels (sent_all fast l nothing_sent) ≡ stuffed_inside (levels l)) (take-append-drop k (b ∷ bits)) (with_last fast (take k (b ∷ bits)) (drop k (b ∷ bits)) one)

-- the bit rate makes no difference
due_levels : (a b : Bool) (l : Last) → levels (due a l) ≡ levels (due b l)
due_levels a b l = elim (cases_Bool (l.count == 5)) [
  | inl five ↦ rw five refl
  | inr less ↦ rw less refl
]

pub same_levels : (a b : Bool) (bits : List Bit) (l : Last) → levels (sent_all a bits l) ≡ levels (sent_all b bits l)
same_levels a b [] l = refl
same_levels a b (x ∷ bits) l =
    let next : Last = added x (flushed l) in
    levels-append (due a l) (sent a x ∷ sent_all a bits next) ∙ (ap (λ (v : List ℕ). v ++ levels (sent a x ∷ sent_all a bits next)) (due_levels a b l) ∙ (ap (λ (v : List ℕ). levels (due b l) ++ bit_of x.is_recessive ∷ v) (same_levels a b bits next) ∙ sym (levels-append (due b l) (sent b x ∷ sent_all b bits next))))

-- the values of two lists that are sent in two calls, at two bit rates
pub both_levels : (fast : Bool) (head rest : List Bit) → levels (sent_all false head nothing_sent ++ sent_all fast rest (last_after head nothing_sent)) ≡ stuffed_inside (levels head ++ levels rest)
both_levels fast head rest =
    let l : Last = last_after head nothing_sent in
    let first : List Bit = sent_all false head nothing_sent in
    levels-append first (sent_all fast rest l) ∙ (ap (λ (v : List ℕ). levels first ++ v) (same_levels fast false rest l) ∙ (sym (levels-append first (sent_all false rest l)) ∙ (ap levels (sym (sent_all-append false head rest nothing_sent)) ∙ (inside_levels false (head ++ rest) ∙ ap stuffed_inside (levels-append head rest)))))

-- ---- fixed stuff bits

not_bit : (x : Bool) → bit_of (not x) ≡ 1 - bit_of x
not_bit true = refl
not_bit false = refl

pub fixed_levels : (fast last : Bool) (d : ℕ) (bits : List Bit) → levels (sent_fixed fast last d bits) ≡ fixed_stuffed_after (bit_of last) d (levels bits)
fixed_levels fast last d [] = refl
fixed_levels fast last d (b ∷ bits) = elim (cases_Bool (d == 0)) [
  | inl now ↦ rw now (ap (λ (v : ℕ). v ∷ bit_of b.is_recessive ∷ levels (sent_fixed fast b.is_recessive 3 bits)) (not_bit last) ∙ ap (λ (v : List ℕ). (1 - bit_of last) ∷ bit_of b.is_recessive ∷ v) (fixed_levels fast b.is_recessive 3 bits))
  | inr later ↦ rw later (ap (λ (v : List ℕ). bit_of b.is_recessive ∷ v) (fixed_levels fast b.is_recessive (d - 1) bits))
]

-- the value of the last bit before the fixed stuff bits
last_of-append : (v : ℕ) (xs : List ℕ) (y : ℕ) (ys : List ℕ) → last_of v (xs ++ y ∷ ys) ≡ last_of y ys
last_of-append v [] y ys = refl
last_of-append v (x ∷ xs) y ys = last_of-append x xs y ys

pub last_level : (fast : Bool) (bits : List Bit) (l : Last) → last_of (bit_of l.is_recessive) (levels (sent_all fast bits l)) ≡ bit_of (last_after bits l).is_recessive
last_level fast [] l = refl
last_level fast (b ∷ bits) l =
    let next : Last = added b (flushed l) in
    ap (last_of (bit_of l.is_recessive)) (levels-append (due fast l) (sent fast b ∷ sent_all fast bits next)) ∙ (last_of-append (bit_of l.is_recessive) (levels (due fast l)) (bit_of b.is_recessive) (levels (sent_all fast bits next)) ∙ last_level fast bits next)

-- if there is at least one value, the value before the list makes no difference
pub some_last : (v w : ℕ) (values : List ℕ) → 0 < length values → last_of v values ≡ last_of w values
some_last v w [] some = absurd (omega (arith, some))
some_last v w (x ∷ values) some = refl
