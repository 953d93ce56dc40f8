-- A stream without bytes outside messages consists of messages and blanks, wherever the stream is cut into pieces.
use Rattle.std.proofs.Common.{◌≡◌, ◌↔◌, ℕ, ◌==◌, ◌||◌, ◌⊎◌, inl, inr, Bool, true, false, if◌then◌else◌, List, [], ◌∷◌, ◌++◌, refl, sym, ap, ◌∙◌, append_assoc, arith}
use Rattle.std.specs.List.{flat_map, AllByRecursion}
use Rattle.std.proofs.lemmas.Bool.{eqb-true}
use Rattle.can_proto.specs.Messages.{has_mark}
use Rattle.can_proto.specs.Words.{is_blank}
use Rattle.can_session.specs.IgnoredInput.{begun_after, has_outside, Part, part_text, IsPart, IsTail, AreMessagesInOrder}
use Rattle.can_session.specs.IgnoredInput.Part.{Gap, Whole}
use Rattle.can_session.proofs.Heard.{closed}

pub cut-begun : (begun : Bool) (piece more : List ℕ) → begun_after begun (piece ++ more) ≡ begun_after (begun_after begun piece) more
cut-begun begun [] more = refl
cut-begun begun (b ∷ bs) more = cut-begun (if b == 60 then true else if b == 62 then false else begun) bs more

pub cut-outside : (begun : Bool) (piece more : List ℕ) → has_outside begun (piece ++ more) ≡ (has_outside begun piece || has_outside (begun_after begun piece) more)
cut-outside begun [] more = refl
cut-outside false (b ∷ bs) more = by (b == 60) (is_blank b) (b == 62) (cut-outside true bs more) (cut-outside false bs more)
  where
    by : (x y z : Bool) → has_outside true (bs ++ more) ≡ (has_outside true bs || has_outside (begun_after true bs) more) → has_outside false (bs ++ more) ≡ (has_outside false bs || has_outside (begun_after false bs) more)
        → (if x then has_outside true (bs ++ more) else if y then has_outside false (bs ++ more) else true)
        ≡ ((if x then has_outside true bs else if y then has_outside false bs else true) || has_outside (begun_after (if x then true else if z then false else false) bs) more)
    by true y z h k = h
    by false true true h k = k
    by false true false h k = k
    by false false z h k = refl
cut-outside true (b ∷ bs) more = by (b == 60) (b == 62) (cut-outside true bs more) (cut-outside false bs more)
  where
    by : (x z : Bool) → has_outside true (bs ++ more) ≡ (has_outside true bs || has_outside (begun_after true bs) more) → has_outside false (bs ++ more) ≡ (has_outside false bs || has_outside (begun_after false bs) more)
        → (if x then true else has_outside (if z then false else true) (bs ++ more))
        ≡ ((if x then true else has_outside (if z then false else true) bs) || has_outside (begun_after (if x then true else if z then false else true) bs) more)
    by true z h k = refl
    by false true h k = k
    by false false h k = h

-- the bytes after a `<`: either they contain no mark, or a `>` ends the message and the bytes after it are in order
abbrev GoesOn : List ℕ → Bool → Type 0
GoesOn bytes begun = (inside : List ℕ) × (has_mark inside ≡ false) × (((bytes ≡ inside) × (begun ≡ true)) ⊎ ((rest : List ℕ) × (bytes ≡ inside ++ 62 ∷ rest) × AreMessagesInOrder rest begun))

clear-more : (b : ℕ) (inside : List ℕ) → (b == 60) ≡ false → (b == 62) ≡ false → has_mark inside ≡ false → has_mark (b ∷ inside) ≡ false
clear-more b inside begins ends clear = by (b == 60) (b == 62) (has_mark inside) begins ends clear
  where
    by : (x y z : Bool) → x ≡ false → y ≡ false → z ≡ false → ((x || y) || z) ≡ false
    by x y z h k l = rw (h, k, l) refl

-- a `<` and bytes that continue its message are in order

opened : (b : ℕ) (bs : List ℕ) (begun : Bool) → b ≡ 60 → GoesOn bs begun → AreMessagesInOrder (b ∷ bs) begun
opened b bs begun is (inside, clear, inl (same, begins)) = record {
  parts = [];
  tail = 60 ∷ inside;
  good = tt;
  last = rw begins (inside, refl, clear);
  whole = rw (is, same) refl;
}
opened b bs begun is (inside, clear, inr (rest, same, order)) = record {
  parts = Whole inside ∷ order.parts;
  tail = order.tail;
  good = (clear, order.good);
  last = order.last;
  whole =
      ap (λ (x : ℕ). x ∷ bs) is ∙ ap (λ (x : List ℕ). 60 ∷ x) (same ∙ ap (λ (x : List ℕ). inside ++ 62 ∷ x) order.whole
      ∙ sym (append_assoc inside (62 ∷ []) (flat_map part_text order.parts ++ order.tail))
      ∙ sym (append_assoc (inside ++ 62 ∷ []) (flat_map part_text order.parts) order.tail));
}

blank : (b : ℕ) (bs : List ℕ) (begun : Bool) → is_blank b ≡ true → AreMessagesInOrder bs begun → AreMessagesInOrder (b ∷ bs) begun
blank b bs begun is order = record {
  parts = Gap b ∷ order.parts;
  tail = order.tail;
  good = (is, order.good);
  last = order.last;
  whole = ap (λ (x : List ℕ). b ∷ x) order.whole;
}

longer : (b : ℕ) (bs : List ℕ) (begun : Bool) → (b == 60) ≡ false → (b == 62) ≡ false → GoesOn bs begun → GoesOn (b ∷ bs) begun
longer b bs begun begins ends (inside, clear, inl (same, is)) = (b ∷ inside, clear-more b inside begins ends clear, inl (ap (λ (x : List ℕ). b ∷ x) same, is))
longer b bs begun begins ends (inside, clear, inr (rest, same, order)) = (b ∷ inside, clear-more b inside begins ends clear, inr (rest, ap (λ (x : List ℕ). b ∷ x) same, order))

-- if no bytes are outside messages, the bytes are in order, and so are the bytes after a `<`
parsed : (bytes : List ℕ) → ((has_outside false bytes ≡ false → AreMessagesInOrder bytes (begun_after false bytes)) × (has_outside true bytes ≡ false → GoesOn bytes (begun_after true bytes)))
parsed [] = (λ h. record { parts = []; tail = []; good = tt; last = refl; whole = refl }, λ h. ([], refl, inl (refl, refl)))
parsed (b ∷ bs) = let again = parsed bs in (outside (b == 60) (is_blank b) (b == 62) refl refl again.0 again.1, inside (b == 60) (b == 62) refl refl again.0 again.1)
  where
    outside : (x y z : Bool) → (b == 60) ≡ x → is_blank b ≡ y → (has_outside false bs ≡ false → AreMessagesInOrder bs (begun_after false bs)) → (has_outside true bs ≡ false → GoesOn bs (begun_after true bs))
        → (if x then has_outside true bs else if y then has_outside false bs else true) ≡ false → AreMessagesInOrder (b ∷ bs) (begun_after (if x then true else if z then false else false) bs)
    outside true y z is blank_is stays goes h = opened b bs (begun_after true bs) (eqb-true b 60 is) (goes h)
    outside false true true is blank_is stays goes h = blank b bs (begun_after false bs) blank_is (stays h)
    outside false true false is blank_is stays goes h = blank b bs (begun_after false bs) blank_is (stays h)
    outside false false z is blank_is stays goes h = absurd cc

    inside : (x z : Bool) → (b == 60) ≡ x → (b == 62) ≡ z → (has_outside false bs ≡ false → AreMessagesInOrder bs (begun_after false bs)) → (has_outside true bs ≡ false → GoesOn bs (begun_after true bs))
        → (if x then true else has_outside (if z then false else true) bs) ≡ false → GoesOn (b ∷ bs) (begun_after (if x then true else if z then false else true) bs)
    inside true z begins ends stays goes h = absurd cc
    inside false true begins ends stays goes h = ([], refl, inr (bs, ap (λ (x : ℕ). x ∷ bs) (eqb-true b 62 ends), stays h))
    inside false false begins ends stays goes h = longer b bs (begun_after true bs) begins ends (goes h)

-- conversely, if the bytes are in order, no bytes are outside messages

unended : (inside : List ℕ) → has_mark inside ≡ false → has_outside true inside ≡ false
unended [] none = refl
unended (b ∷ inside) none = by (b == 60) (b == 62) (has_mark inside) none (unended inside)
  where
    by : (x y z : Bool) → ((x || y) || z) ≡ false → (z ≡ false → has_outside true inside ≡ false) → (if x then true else has_outside (if y then false else true) inside) ≡ false
    by true y z h again = absurd cc
    by false true z h again = absurd cc
    by false false z h again = again h

blank-first : (b : ℕ) (rest : List ℕ) → is_blank b ≡ true → has_outside false (b ∷ rest) ≡ has_outside false rest
blank-first b rest is =
    let begins : (b == 60) ≡ false = grind arith in
    ap (λ (x : Bool). if x then has_outside true rest else if is_blank b then has_outside false rest else true) begins
    ∙ ap (λ (y : Bool). if y then has_outside false rest else true) is

ordered : (parts : List Part) (tail : List ℕ) (begun : Bool) → AllByRecursion IsPart parts → IsTail begun tail → has_outside false (flat_map part_text parts ++ tail) ≡ false
ordered [] tail false good last = ap (has_outside false) last
ordered [] tail true good (inside, is, clear) = ap (has_outside false) is ∙ unended inside clear
ordered (Gap b ∷ parts) tail begun good last = blank-first b (flat_map part_text parts ++ tail) good.0 ∙ ordered parts tail begun good.1 last
ordered (Whole inside ∷ parts) tail begun good last =
    let rest = flat_map part_text parts ++ tail in
    ap (has_outside true) (append_assoc (inside ++ 62 ∷ []) (flat_map part_text parts) tail ∙ append_assoc inside (62 ∷ []) rest)
    ∙ closed inside rest good.0 ∙ ordered parts tail begun good.1 last

pub in-order : (bytes : List ℕ) → (has_outside false bytes ≡ false) ↔ AreMessagesInOrder bytes (begun_after false bytes)
in-order bytes = ((parsed bytes).0, λ order. ap (has_outside false) order.whole ∙ ordered order.parts order.tail (begun_after false bytes) order.good order.last)
