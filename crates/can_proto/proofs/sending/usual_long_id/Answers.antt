use Rattle.std.proofs.Common.{◌≡◌, ◌-◌, ◌≤◌, ◌<◌, ◌++◌, ◌∷◌, List, ℕ, take, drop, length, sym, ap, ◌∙◌, arith}
use Rattle.std.proofs.lemmas.List.{take_all, length-drop, length-take-le, drop_more, take-append-drop}
use Rattle.can_proto.specs.Words.{words_of}
use Rattle.can_proto.proofs.SpelledDigits.{first-id}
use Rattle.can_proto.proofs.sending.usual_long_id.Goals as goal

pub returns-in-Ok : goal.returns-in-Ok
returns-in-Ok c =
    let text = c.args.text.now in
    let inside : 8 < length text = omega arith in
    let cut : drop 8 text ≡ 32 ∷ drop 9 text = drop_more text 8 0 inside ∙ ap (λ (b : ℕ). b ∷ drop 9 text) c.if-text-ne32.false in
    let whole : text ≡ take 8 text ++ 32 ∷ drop 9 text = sym (take-append-drop 8 text) ∙ ap (λ (t : List ℕ). take 8 text ++ t) cut in
    let some : 1 ≤ length (take 8 text) = omega (arith, length-take-le 8 text (omega arith)) in
    let words = ap words_of whole ∙ first-id (take 8 text) (drop 9 text) c.in-Ok.id some c.in-Ok.ensures in
    let same : take (length text - 9) (drop 9 text) ≡ drop 9 text = take_all (length text - 9) (drop 9 text) (omega (arith, length-drop 9 text)) in
    (take 8 text, words ∙ ap (λ (t : List ℕ). take 8 text ∷ words_of t) (sym same), c.in-Ok.ensures)
