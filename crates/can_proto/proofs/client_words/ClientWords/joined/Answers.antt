use Rattle.std.proofs.Common.{◌≡◌, ◌∷◌, ◌++◌, [], List, ℕ, sym, ap, ◌∙◌}
use Rattle.std.specs.List.{flat_map, join_with_byte}
use Rattle.std.proofs.lemmas.List.{append-nil}
use Rattle.can_proto.specs.Words.{words_of}
use Rattle.can_proto.proofs.client_words.ClientWords.joined.Goals as goal

-- joined words: each word except the first has a space before it
spaced : (w : List ℕ) (ws : List (List ℕ)) → join_with_byte 32 (w ∷ ws) ≡ w ++ flat_map (λ v. 32 ∷ v) ws
spaced w [] = sym (append-nil w)
spaced w (v ∷ vs) = ap (λ (text : List ℕ). w ++ 32 ∷ text) (spaced v vs)

pub loop-next-init : goal.loop-next-init
loop-next-init c = spaced c.args.word.now (words_of c.args.rest.now) ∙ ap (λ (text : List ℕ). text ++ flat_map (λ v. 32 ∷ v) (words_of c.args.rest.now)) (sym c.in_ok-bytes.ensures.items)
