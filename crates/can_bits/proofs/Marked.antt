use Rattle.std.proofs.Common.{◌≡◌, ℕ, ◌+◌, ◌-◌, ◌==◌, Bool, true, false, not, List, [], ◌∷◌, ◌++◌, map, drop, refl, sym, ap, ◌∙◌, append_assoc, inl, inr}
use Rattle.std.specs.Prelude.{if◌then◌else◌}
use Rattle.std.proofs.lemmas.List.{append-nil, map-append}
use Rattle.std.proofs.lemmas.Bool.{cases_Bool}
use Rattle.can_wire.specs.FrameBits.{bit_of}
use Rattle.can_bits.specs.declared.bit.Bit.{Bit}
use Rattle.can_bits.specs.declared.bit.Field.{Field}
use Rattle.can_bits.specs.declared.bit.Field.TheVariants as field
use Rattle.can_bits.specs.Marks.{Mark, plain, stuff, marks_after, marks_in, fixed_marks_after}
use Rattle.can_bits.specs.Sent.{levels, mark_of}
use Rattle.can_bits.specs.inner.Sending.{Last, nothing_sent, sent, stuff_bit, due, flushed, is_same, added, sent_all, last_after, sent_fixed, fields_in}
use Rattle.can_bits.proofs.Levels.{levels-append, sent_all-append, last_after-append}

-- A receiver finds the marks of the bits that are sent.

pub marks-append : (xs ys : List Bit) → map mark_of (xs ++ ys) ≡ map mark_of xs ++ map mark_of ys
marks-append xs ys = map-append mark_of xs ys

pub fields-append : (xs ys : List Bit) → fields_in (xs ++ ys) ≡ fields_in xs ++ fields_in ys
fields-append xs ys = map-append (λ (b : Bit). b.field) xs ys

same_test : (x y : Bool) → (bit_of x == bit_of y) ≡ is_same x y
same_test true true = refl
same_test true false = refl
same_test false true = refl
same_test false false = refl

-- the mark of the stuff bit that is due, then the marks of the bits after it
due_then : (fast : Bool) (l : Last) (fields : List Field) (values : List ℕ) →
    marks_after l.field (bit_of l.is_recessive) l.count fields (levels (due fast l) ++ values)
    ≡ map mark_of (due fast l) ++ marks_after (flushed l).field (bit_of (flushed l).is_recessive) (flushed l).count fields values
due_then fast l fields values = elim (cases_Bool (l.count == 5)) [
  | inl five ↦ rw (five, five) refl
  | inr less ↦ rw less refl
]

-- after the stuff bit that was due, no other stuff bit is due
flushed_test : (l : Last) → ((flushed l).count == 5) ≡ false
flushed_test l = elim (cases_Bool (l.count == 5)) [
  | inl five ↦ rw five refl
  | inr less ↦ rw less less
]

-- the mark of a bit, then the marks of the bits after it
added_then : (b : Bit) (m : Last) (fields : List Field) (values : List ℕ) → (m.count == 5) ≡ false →
    marks_after m.field (bit_of m.is_recessive) m.count (b.field ∷ fields) (bit_of b.is_recessive ∷ values)
    ≡ plain b.field ∷ marks_after (added b m).field (bit_of (added b m).is_recessive) (added b m).count fields values
added_then b m fields values short = rw (short, same_test b.is_recessive m.is_recessive) refl

-- the marks of bits with their stuff bits, then the marks of the bits after them
pub sent_marks : (fast : Bool) (bits : List Bit) (l : Last) (fields : List Field) (values : List ℕ) →
    marks_after l.field (bit_of l.is_recessive) l.count (fields_in bits ++ fields) (levels (sent_all fast bits l) ++ values)
    ≡ map mark_of (sent_all fast bits l) ++ marks_after (last_after bits l).field (bit_of (last_after bits l).is_recessive) (last_after bits l).count fields values
sent_marks fast [] l fields values = refl
sent_marks fast (b ∷ bits) l fields values =
    let m : Last = flushed l in
    let next : Last = added b m in
    let d : List Bit = due fast l in
    let s : List Bit = sent_all fast bits next in
    let named : List Field = fields_in bits ++ fields in
    let after : List Mark = marks_after (last_after bits next).field (bit_of (last_after bits next).is_recessive) (last_after bits next).count fields values in
    let split : levels (d ++ sent fast b ∷ s) ++ values ≡ levels d ++ bit_of b.is_recessive ∷ (levels s ++ values) = ap (λ (v : List ℕ). v ++ values) (levels-append d (sent fast b ∷ s)) ∙ append_assoc (levels d) (bit_of b.is_recessive ∷ levels s) values in
    let here : marks_after m.field (bit_of m.is_recessive) m.count (b.field ∷ named) (bit_of b.is_recessive ∷ (levels s ++ values)) ≡ plain b.field ∷ (map mark_of s ++ after) = added_then b m named (levels s ++ values) (flushed_test l) ∙ ap (λ (marks : List Mark). plain b.field ∷ marks) (sent_marks fast bits next fields values) in
    ap (marks_after l.field (bit_of l.is_recessive) l.count (b.field ∷ named)) split ∙ (due_then fast l (b.field ∷ named) (bit_of b.is_recessive ∷ (levels s ++ values)) ∙ (ap (λ (marks : List Mark). map mark_of d ++ marks) here ∙ (sym (append_assoc (map mark_of d) (plain b.field ∷ map mark_of s) after) ∙ ap (λ (marks : List Mark). marks ++ after) (sym (marks-append d (sent fast b ∷ s))))))

-- the mark of the stuff bit that is due after the last bit, if any
due_marks : (fast : Bool) (l : Last) → marks_after l.field (bit_of l.is_recessive) l.count [] (levels (due fast l)) ≡ map mark_of (due fast l)
due_marks fast l = elim (cases_Bool (l.count == 5)) [
  | inl five ↦ rw (five, five) refl
  | inr less ↦ rw less refl
]

-- the value before the first bit makes no difference
one_either_way : (t : Bool) (f : ℕ → List Mark) → f (if t then 0 + 1 else 1) ≡ f 1
one_either_way true f = refl
one_either_way false f = refl

from_start : (fields : List Field) (values : List ℕ) → marks_after field.StartOfFrame 0 0 fields values ≡ marks_in fields values
from_start fields [] = refl
from_start [] (v ∷ values) =
    let after : ℕ → List Mark = λ n. plain field.StartOfFrame ∷ marks_after field.StartOfFrame v n [] values in
    one_either_way (v == 0) after ∙ sym (one_either_way (v == 2) after)
from_start (f ∷ fields) (v ∷ values) =
    let after : ℕ → List Mark = λ n. plain f ∷ marks_after f v n fields values in
    one_either_way (v == 0) after ∙ sym (one_either_way (v == 2) after)

pub whole_marks : (fast : Bool) (bits : List Bit) → map mark_of (sent_all fast bits nothing_sent ++ due fast (last_after bits nothing_sent)) ≡ marks_in (fields_in bits) (levels (sent_all fast bits nothing_sent ++ due fast (last_after bits nothing_sent)))
whole_marks fast bits =
    let l : Last = last_after bits nothing_sent in
    let s : List Bit = sent_all fast bits nothing_sent in
    let fields : List Field = fields_in bits in
    marks-append s (due fast l) ∙ (ap (λ (marks : List Mark). map mark_of s ++ marks) (sym (due_marks fast l)) ∙ (sym (sent_marks fast bits nothing_sent [] (levels (due fast l))) ∙ (ap (λ (fs : List Field). marks_after field.StartOfFrame 0 0 fs (levels s ++ levels (due fast l))) (append-nil fields) ∙ (from_start fields (levels s ++ levels (due fast l)) ∙ ap (marks_in fields) (sym (levels-append s (due fast l)))))))

-- the marks of two lists that are sent in two calls, at two bit rates
pub both_marks : (fast : Bool) (head rest : List Bit) →
    let sent : List Bit = sent_all false head nothing_sent ++ sent_all fast rest (last_after head nothing_sent) in
    map mark_of sent ≡ marks_in (fields_in head ++ fields_in rest) (levels sent)
both_marks fast head rest =
    let l : Last = last_after head nothing_sent in
    let first : List Bit = sent_all false head nothing_sent in
    let second : List Bit = sent_all fast rest l in
    let fields : List Field = fields_in head ++ fields_in rest in
    let end : map mark_of second ≡ marks_after l.field (bit_of l.is_recessive) l.count (fields_in rest) (levels second) =
    sym (append-nil (map mark_of second)) ∙ (sym (sent_marks fast rest l [] []) ∙ (ap (λ (fs : List Field). marks_after l.field (bit_of l.is_recessive) l.count fs (levels second ++ [])) (append-nil (fields_in rest)) ∙ ap (marks_after l.field (bit_of l.is_recessive) l.count (fields_in rest)) (append-nil (levels second)))) in
    marks-append first second ∙ (ap (λ (marks : List Mark). map mark_of first ++ marks) end ∙ (sym (sent_marks false head nothing_sent (fields_in rest) (levels second)) ∙ (from_start fields (levels first ++ levels second) ∙ ap (marks_in fields) (sym (levels-append first second)))))

-- the marks of bits with fixed stuff bits
pub fixed_marks : (fast last : Bool) (d : ℕ) (bits : List Bit) → map mark_of (sent_fixed fast last d bits) ≡ fixed_marks_after d (fields_in bits)
fixed_marks fast last d [] = refl
fixed_marks fast last d (b ∷ bits) = elim (cases_Bool (d == 0)) [
  | inl now ↦ rw now (ap (λ (marks : List Mark). stuff b.field ∷ plain b.field ∷ marks) (fixed_marks fast b.is_recessive 3 bits))
  | inr later ↦ rw later (ap (λ (marks : List Mark). plain b.field ∷ marks) (fixed_marks fast b.is_recessive (d - 1) bits))
]
