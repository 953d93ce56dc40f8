-- A message that was read as a `send` contains no mark, so the code need not search it for marks.
use Rattle.std.proofs.Common.{◌≡◌, ℕ, ◌≤◌, ◌==◌, ◌∷◌, ◌++◌, [], Bool, true, false, ◌||◌, if◌then◌else◌, List, Option, Some, None, Result, Ok, Err, length, codes, refl, sym, ap, subst, ◌∙◌, arith, inl, inr}
use Rattle.std.proofs.lemmas.Bool.{cases_Bool}
use Rattle.can_frame.specs.Frames.{CanFrame, Identifier}
use Rattle.can_frame.specs.Frames.Payload.{Data}
use Rattle.can_frame.specs.Numbers.{digit_in, number_in}
use Rattle.can_proto.specs.declared.fault.ProtoFault.{ProtoFault}
use Rattle.can_proto.specs.declared.fault.ProtoFault.TheVariants.{BadByte, BadCount}
use Rattle.can_proto.specs.declared.command.Command.{Command}
use Rattle.can_proto.specs.declared.command.Command.TheVariants.{Send}
use Rattle.can_proto.specs.declared.command.Mode.TheVariants.{Raw}
use Rattle.can_proto.specs.Messages.{messages_of, kept_of, has_mark, is_mark}
use Rattle.can_proto.specs.Words.{is_blank, front, words_after, words_of}
use Rattle.can_proto.specs.Commands.{◌>>=◌, or_fault, id_of, length_of, bytes_of, send_of, arguments_of, reading, IsLoneSend}
use Rattle.can_proto.proofs.Pieces.{closes}
use Rattle.can_proto.proofs.SpelledDigits.{Each, of-digits, of-id}

-- no word contains a mark
abbrev AreClear : List (List ℕ) → Type 0
AreClear [] = Unit {0}
AreClear (word ∷ words) = (has_mark word ≡ false) × AreClear words

-- if a text has no mark, its remaining bytes have none

blank-clear : (b : ℕ) → is_blank b ≡ true → is_mark b ≡ false
blank-clear b h = grind arith

head-clear : (b : ℕ) (bs : List ℕ) → has_mark (b ∷ bs) ≡ false → (is_mark b ≡ false) × (has_mark bs ≡ false)
head-clear b bs h = by (is_mark b) (has_mark bs) h
  where
    by : (x y : Bool) → (x || y) ≡ false → (x ≡ false) × (y ≡ false)
    by true y e = absurd cc
    by false y e = (refl, e)

cons-clear : (b : ℕ) (bs : List ℕ) → is_mark b ≡ false → has_mark bs ≡ false → has_mark (b ∷ bs) ≡ false
cons-clear b bs h k = rw h k

-- the remaining bytes of a word and the words after it have no mark
clear-after : (text : List ℕ) → ((AreClear (words_after true text) → has_mark text ≡ false) × (has_mark (front text) ≡ false → AreClear (words_after false text) → has_mark text ≡ false))
clear-after [] = (λ h. refl, λ h k. refl)
clear-after (b ∷ bs) =
    let again = clear-after bs in
    elim (cases_Bool (is_blank b)) [
      | inl blank ↦ rw blank (λ h. cons-clear b bs (blank-clear b blank) (again.0 h), λ h k. cons-clear b bs (blank-clear b blank) (again.0 k))
      | inr solid ↦ rw solid (
        λ h. let word = head-clear b (front bs) h.0 in cons-clear b bs word.0 (again.1 word.1 h.1),
        λ h k. let word = head-clear b (front bs) h in cons-clear b bs word.0 (again.1 word.1 k),
      )
    ]

-- digits are not marks

digit-clear : (b v : ℕ) → digit_in 16 b ≡ Some v → is_mark b ≡ false
digit-clear b v h = grind arith

all-clear : (word : List ℕ) → Each (λ b. is_mark b ≡ false) word → has_mark word ≡ false
all-clear [] h = refl
all-clear (b ∷ bs) h = cons-clear b bs h.0 (all-clear bs h.1)

length-clear : (word : List ℕ) (len : ℕ) → length_of word ≡ Ok len → has_mark word ≡ false
unfolding length_of
length-clear [] len h = absurd cc
length-clear (d ∷ e ∷ ds) len h = absurd cc
length-clear (d ∷ []) len h = grind arith

bytes-clear : (words : List (List ℕ)) (bytes : List ℕ) → bytes_of words ≡ Ok bytes → AreClear words
unfolding bytes_of
bytes-clear [] bytes h = tt
bytes-clear (word ∷ words) bytes h = by (number_in 16 2 word) (bytes_of words) refl h (λ bs are. bytes-clear words bs are) refl
  where
    by : (byte : Option ℕ) (more : Result (List ℕ) ProtoFault) → number_in 16 2 word ≡ byte → (or_fault BadByte byte >>= λ b. more >>= λ bs. Ok (b ∷ bs)) ≡ Ok bytes → ((bs : List ℕ) → bytes_of words ≡ Ok bs → AreClear words) → bytes_of words ≡ more → AreClear (word ∷ words)
    by None more is e again are = absurd cc
    by (Some b) (Err fault) is e again are = absurd cc
    by (Some b) (Ok bs) is e again are = (all-clear word (of-digits (λ b. is_mark b ≡ false) digit-clear 2 word b is), again bs are)

send-clear : (words : List (List ℕ)) (command : Command) → send_of words ≡ Ok command → AreClear words
unfolding send_of
send-clear [] command h = absurd cc
send-clear (word ∷ []) command h = absurd cc
send-clear (id_word ∷ len_word ∷ words) command h = by (id_of id_word) (length_of len_word) refl refl h
  where
    payload : (len : ℕ) (id : Identifier) (fits : Bool) (bytes : Result (List ℕ) ProtoFault) → bytes_of words ≡ bytes → (if fits then bytes >>= (λ bytes. Ok (Send (record { id = id; payload = Data bytes }))) else Err BadCount) ≡ Ok command → AreClear words
    payload len id true (Ok bytes) are e = bytes-clear words bytes are
    payload len id true (Err fault) are e = absurd cc
    payload len id false bytes are e = absurd cc

    by : (id : Result Identifier ProtoFault) (len : Result ℕ ProtoFault) → id_of id_word ≡ id → length_of len_word ≡ len
        → (id >>= λ i. len >>= λ n. if length words == n then bytes_of words >>= (λ bytes. Ok (Send (record { id = i; payload = Data bytes }))) else Err BadCount) ≡ Ok command → AreClear (id_word ∷ len_word ∷ words)
    by (Err fault) len is count e = absurd cc
    by (Ok id) (Err fault) is count e = absurd cc
    by (Ok id) (Ok len) is count e = (all-clear id_word (of-id (λ b. is_mark b ≡ false) digit-clear id_word id is), (length-clear len_word len count, payload len id (length words == len) (bytes_of words) refl e))

-- the piece is one message, whose words send a frame
pub lone : (piece inside rest : List ℕ) (frame : CanFrame) → piece ≡ 60 ∷ inside ++ 62 ∷ [] → length inside ≤ 1024 → words_of inside ≡ codes "send" ∷ words_of rest → send_of (words_of rest) ≡ Ok (Send frame) → IsLoneSend piece frame
unfolding arguments_of
lone piece inside rest frame whole short words sends =
    let clear : has_mark inside ≡ false = (clear-after inside).0 (subst AreClear (sym words) (refl, send-clear (words_of rest) (Send frame) sends)) in
    let closed = closes inside clear short in
    (inside, ap messages_of whole ∙ closed.0, ap kept_of whole ∙ closed.1, ap (reading Raw) words ∙ sends)
