use Rattle.std.proofs.Common.{◌≡◌, ◌++◌, ◌∷◌, [], List, ℕ, Ok, Err, Some, Option, Result, length, refl, sym, ap, ◌∙◌, append_assoc}
use Rattle.std.proofs.lemmas.List.{append-nil, nil_from_length}
use Rattle.can_proto.specs.declared.fault.ProtoFault.{ProtoFault}
use Rattle.can_proto.specs.declared.fault.ProtoFault.TheVariants.{BadByte}
use Rattle.can_frame.specs.Numbers.{number_in}
use Rattle.can_proto.specs.Commands.{◌>>=◌, with_front, bytes_of, or_fault}

-- The data bytes read so far, put in front of those read from the remaining words.

regroup : (front : List ℕ) (b : ℕ) (read : Result (List ℕ) ProtoFault) → with_front front (read >>= λ bs. Ok (b ∷ bs)) ≡ with_front (front ++ b ∷ []) read
regroup front b (Ok bs) = ap (λ (x : List ℕ). Ok x) (sym (append_assoc front (b ∷ []) bs))
regroup front b (Err e) = refl

-- the next word is read as a byte
pub more : (front word : List ℕ) (b : ℕ) (rest : List (List ℕ)) (all : Result (List ℕ) ProtoFault) → with_front front (bytes_of (word ∷ rest)) ≡ all → Some b ≡ number_in 16 2 word → with_front (front ++ b ∷ []) (bytes_of rest) ≡ all
unfolding bytes_of
more front word b rest all h e =
    sym (regroup front b (bytes_of rest)) ∙ ap (λ (o : Option ℕ). with_front front (or_fault BadByte o >>= λ x. bytes_of rest >>= λ bs. Ok (x ∷ bs))) e ∙ h

-- no words are left to read
pub ended : (front : List ℕ) (words : List (List ℕ)) (all : Result (List ℕ) ProtoFault) → length words ≡ 0 → with_front front (bytes_of words) ≡ all → all ≡ Ok front
unfolding bytes_of
ended front words all n h =
    let none : words ≡ [] = nil_from_length words n in
    sym h ∙ ap (λ (w : List (List ℕ)). with_front front (bytes_of w)) none ∙ ap (λ (x : List ℕ). Ok x) (append-nil front)
