use Rattle.std.proofs.Common.{◌≡◌, ℕ, ◌+◌, ◌-◌, ◌≤◌, ◌==◌, true, false, List, [], ◌∷◌, ◌++◌, length, take, drop, refl, sym, ap, ◌∙◌, arith, inl, inr, length-append, length-drop, take-append-drop}
use Rattle.std.proofs.lemmas.Bool.{cases_Bool}
use Rattle.std.proofs.lemmas.Bool.Decides.{Decides-eqb}
use Rattle.can_wire.specs.Stuffing.{stuffed, stuffed_after, stuffed_inside}
use Rattle.can_wire.specs.inner.Sending.{Sent, nothing_sent, flushed, added, sent_all}

-- The counter counts the length of the stuffed list.

pub sent_all-append : (xs ys : List ℕ) (s : Sent) → sent_all (xs ++ ys) s ≡ sent_all ys (sent_all xs s)
sent_all-append [] ys s = refl
sent_all-append (x ∷ xs) ys s = sent_all-append xs ys (added x (flushed s))

pub flushed_run : (s : Sent) → s.run ≤ 5 → (flushed s).run ≤ 4
flushed_run s h = elim (cases_Bool (s.run == 5)) [
  | inl five ↦ rw five (omega arith)
  | inr less ↦
      let below : s.run ≤ 4 = grind (arith, Decides-eqb) in
      rw less below
]

added_run : (b : ℕ) (s : Sent) → s.run ≤ 4 → (added b s).run ≤ 5
added_run b s h = elim (cases_Bool (b == s.last)) [
  | inl here ↦ rw here (omega (arith, h))
  | inr other ↦ rw other (omega arith)
]

-- one bit more
one_more : (b : ℕ) (bits : List ℕ) (s : Sent) → s.run ≤ 4 → (flushed (added b s)).count + length (stuffed_after (flushed (added b s)).last (flushed (added b s)).run bits) ≡ s.count + length (stuffed_after s.last s.run (b ∷ bits))
one_more b bits s h = elim (cases_Bool (b == s.last)) [
  | inl here ↦ elim (cases_Bool (s.run == 4)) [
    | inl full ↦
        let five : (s.run + 1 == 5) ≡ true = grind (arith, Decides-eqb) in
        rw (here, full) (rw five (omega arith))
    | inr part ↦
        let less : (s.run + 1 == 5) ≡ false = grind (arith, Decides-eqb) in
        rw (here, part) (rw less (omega arith))
  ]
  | inr other ↦ rw other (omega arith)
]

-- the count is the number of bits on the wire, including the stuff bit after the last one
pub counted : (bits : List ℕ) (s : Sent) → s.run ≤ 5 → (flushed (sent_all bits s)).count ≡ (flushed s).count + length (stuffed_after (flushed s).last (flushed s).run bits)
counted [] s h = omega arith
counted (b ∷ bits) s h =
    let short = flushed_run s h in
    counted bits (added b (flushed s)) (added_run b (flushed s) short) ∙ one_more b bits (flushed s) short

pub counted_all : (bits : List ℕ) → (flushed (sent_all bits nothing_sent)).count ≡ length (stuffed bits)
counted_all bits = omega (arith, counted bits nothing_sent (omega arith))

-- the count without the stuff bit after the last bit
with_last : (front back : List ℕ) → length back ≡ 1 → (sent_all (front ++ back) nothing_sent).count ≡ length (stuffed front ++ back)
with_last front [] one = absurd (omega (arith, one))
with_last front (x ∷ []) one = rw (sent_all-append front (x ∷ []) nothing_sent) (omega (arith, counted_all front, length-append (stuffed front) (x ∷ [])))
with_last front (x ∷ y ∷ back) one = absurd (omega (arith, one))

pub counted_inside : (bits : List ℕ) → (sent_all bits nothing_sent).count ≡ length (stuffed_inside bits)
counted_inside [] = refl
counted_inside (b ∷ bits) =
    let k : ℕ = length (b ∷ bits) - 1 in
    let last : length (drop k (b ∷ bits)) ≡ 1 = omega (arith, length-drop k (b ∷ bits)) in
    ap (λ (l : List ℕ). (sent_all l nothing_sent).count) (sym (take-append-drop k (b ∷ bits))) ∙ with_last (take k (b ∷ bits)) (drop k (b ∷ bits)) last

-- ---- bits in front of others are no more

flushed_rises : (s : Sent) → s.count ≤ (flushed s).count
flushed_rises s = elim (cases_Bool (s.run == 5)) [
  | inl five ↦ rw five (omega arith)
  | inr less ↦ rw less (omega arith)
]

sent_rises : (bits : List ℕ) (s : Sent) → s.count ≤ (sent_all bits s).count
sent_rises [] s = omega arith
sent_rises (b ∷ bits) s = omega (arith, flushed_rises s, sent_rises bits (added b (flushed s)))

pub inside_rises : (xs ys : List ℕ) → length (stuffed_inside xs) ≤ length (stuffed_inside (xs ++ ys))
inside_rises xs ys = rw (sym (counted_inside xs), sym (counted_inside (xs ++ ys)), sent_all-append xs ys nothing_sent) (sent_rises ys (sent_all xs nothing_sent))
