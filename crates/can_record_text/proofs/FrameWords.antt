-- The text of a frame as a word of a line.
use Rattle.std.proofs.Common.{◌≡◌, inl, ℕ, ◌+◌, ◌^◌, ◌≤◌, Bool, true, false, cond, eqb, List, [], ◌∷◌, Some, refl, arith}
use Rattle.std.specs.Prelude.{decimal}
use Rattle.can_frame.specs.Frames.{Payload}
use Rattle.can_frame.specs.Frames.Payload.{Data, Remote, Fd}
use Rattle.can_frame.specs.declared.item.Item.{Item}
use Rattle.can_frame.specs.declared.item.Item.TheVariants as item
use Rattle.can_frame.specs.FrameText.{digits, pairs, id_text, payload_text, frame_spelling, IsPayload, IsItem}
use Rattle.can_frame.specs.FrameGuess.{item_in}
use Rattle.can_frame.proofs.Guessing.{guessed}
use Rattle.can_record_text.specs.inner.Words.{is_word}
use Rattle.can_record_text.proofs.Digits.{is_word-append, is_word-digits, is_word-decimal}

-- an item that was written can be read again
pub item_again : (i : Item) → IsItem i → item_in (frame_spelling i) ≡ Some i
item_again i good = guessed (frame_spelling i) i good (inl refl)

-- the text of an item is a word

word-pairs : (bytes : List ℕ) → is_word (pairs bytes) ≡ true
word-pairs [] = refl
word-pairs (b ∷ bs) = is_word-append (digits 16 2 b) (pairs bs) (is_word-digits 16 2 b) (word-pairs bs)

word-request : (len : ℕ) → len ≤ 8 → is_word (35 ∷ payload_text (Remote len)) ≡ true
word-request len h = elim (eqb len 0) as (λ t. is_word (35 ∷ 82 ∷ cond t [] (decimal len)) ≡ true) [
  | true ↦ refl
  | false ↦ is_word-decimal len (omega (arith, h))
]

word-payload : (p : Payload) → IsPayload p → is_word (35 ∷ payload_text p) ≡ true
word-payload (Data bytes) h = word-pairs bytes
word-payload (Remote len) h = word-request len h
word-payload (Fd flags bytes) h = by flags.brs flags.esi
  where
    by : (brs esi : Bool) → is_word (35 ∷ payload_text (Fd (record { brs = brs; esi = esi }) bytes)) ≡ true
    by true true = word-pairs bytes
    by true false = word-pairs bytes
    by false true = word-pairs bytes
    by false false = word-pairs bytes

pub is_word-item : (i : Item) → IsItem i → is_word (frame_spelling i) ≡ true
unfolding frame_spelling
is_word-item (item.Data f) h = is_word-append (id_text f.id) (35 ∷ payload_text f.payload) (is_word-digits 16 (cond f.id.extended 8 3) f.id.number) (word-payload f.payload h.1)
is_word-item (item.Error e) h = is_word-append (digits 16 8 (2 ^ 29 + e.class)) (35 ∷ pairs e.bytes) (is_word-digits 16 8 (2 ^ 29 + e.class)) (word-pairs e.bytes)
