use Rattle.std.proofs.Common.{◌≡◌, ◌≤◌, ◌-◌, ◌∷◌, [], List, ℕ, false, Ok, length, take, drop, get_or, refl, sym, ap, ◌∙◌, arith}
use Rattle.std.proofs.lemmas.List.{take_all, length-drop}
use Rattle.std.proofs.lemmas.Bool.{eq-eqb}
use Rattle.can_frame.specs.Frames.{Identifier}
use Rattle.can_frame.specs.Frames.Payload.{Data}
use Rattle.can_proto.specs.declared.command.Command.TheVariants.{Send}
use Rattle.can_proto.specs.Words.{is_blank, words_of}
use Rattle.can_proto.specs.Commands.{id_of, length_of, bytes_of, send_of}
use Rattle.can_proto.proofs.sending.usual_payload.Goals as goal

-- a byte that is not a blank, followed by a space
length-word : (text : List ℕ) → 2 ≤ length text → get_or text 1 0 ≡ 32 → is_blank (get_or text 0 0) ≡ false → words_of text ≡ (get_or text 0 0 ∷ []) ∷ words_of (drop 2 text)
length-word [] few s a = absurd (omega arith)
length-word (u ∷ []) few s a = absurd (omega arith)
length-word (u ∷ v ∷ rest) few s a = rw (s, a) refl

-- a digit from 0 to 8 is a valid length
short-length : (d : ℕ) → 48 ≤ d → d ≤ 56 → length_of (d ∷ []) ≡ Ok (d - 48)
unfolding length_of
short-length d low high = grind arith

firm : (d : ℕ) → 48 ≤ d → is_blank d ≡ false
firm d low = grind arith

-- the words send the frame
sends : (words rest : List (List ℕ)) (id_word len_word : List ℕ) (id : Identifier) (len : ℕ) (bytes : List ℕ) → words ≡ id_word ∷ len_word ∷ rest → id_of id_word ≡ Ok id → length_of len_word ≡ Ok len → length rest ≡ len → bytes_of rest ≡ Ok bytes
    → send_of words ≡ Ok (Send (record { id = id; payload = Data bytes }))
unfolding send_of
sends words rest id_word len_word id len bytes whole first second count spelled = rw (whole, first, second, eq-eqb (length rest) len count, spelled) refl

pub returns-in-Ok : goal.returns-in-Ok
returns-in-Ok c word spelled =
    let text = c.args.text.now in
    let tail = take (length text - 2) (drop 2 text) in
    let same : tail ≡ drop 2 text = take_all (length text - 2) (drop 2 text) (omega (arith, length-drop 2 text)) in
    let low : 48 ≤ get_or text 0 0 = omega arith in
    let high : get_or text 0 0 ≤ 56 = omega arith in
    let cut = length-word text (omega arith) (omega arith) (firm (get_or text 0 0) low) ∙ ap (λ (t : List ℕ). (get_or text 0 0 ∷ []) ∷ words_of t) (sym same) in
    let len = short-length (get_or text 0 0) low high ∙ ap (λ (n : ℕ). Ok n) (sym c.from-len.ensures) in
    sends (word ∷ words_of text) (words_of tail) word _ c.args.id c.from-len.result (take c.from-len.result c.in_ok-bytes.bytes) (ap (λ (w : List (List ℕ)). word ∷ w) cut) spelled len c.in_ok-bytes.ensures.count c.in_ok-bytes.ensures.value
    ∙ ap (λ f. Ok (Send f)) (sym c.in-Ok.ensures.1)
