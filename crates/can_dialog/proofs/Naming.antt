-- Names in order, with a space before each name.
use Rattle.std.proofs.Common.{◌≡◌, ℕ, ◌+◌, ◌<◌, ◌≤◌, List, [], ◌∷◌, ◌++◌, length, take, get_or, sym, ap, ◌∙◌, append_assoc}
use Rattle.std.proofs.lemmas.List.{append-nil, take_more, take_all}
use Rattle.std.proofs.lemmas.List.Concat.{flat_map-append}
use Rattle.can_proto.specs.Spelling.{spaced}

spaced-more : (names : List (List ℕ)) (n : ℕ) → n < length names → spaced (take (n + 1) names) ≡ spaced (take n names) ++ 32 ∷ get_or names n []
spaced-more names n lt =
    ap spaced (take_more names n [] lt)
    ∙ flat_map-append (λ (name : List ℕ). 32 ∷ name) (take n names) (get_or names n [] ∷ [])
    ∙ ap (λ (t : List ℕ). spaced (take n names) ++ t) (append-nil (32 ∷ get_or names n []))

-- one more name
pub one_more : (names : List (List ℕ)) (n : ℕ) (old text more : List ℕ) → n < length names → text ≡ old ++ spaced (take n names) → more ≡ text ++ 32 ∷ get_or names n [] → more ≡ old ++ spaced (take (n + 1) names)
one_more names n old text more lt before is =
    is
    ∙ ap (λ (t : List ℕ). t ++ 32 ∷ get_or names n []) before
    ∙ append_assoc old (spaced (take n names)) (32 ∷ get_or names n [])
    ∙ ap (λ (t : List ℕ). old ++ t) (sym (spaced-more names n lt))

-- all names
pub all_put : (names : List (List ℕ)) (n : ℕ) (old text : List ℕ) → length names ≤ n → text ≡ old ++ spaced (take n names) → text ≡ old ++ spaced names
all_put names n old text le h = h ∙ ap (λ (ns : List (List ℕ)). old ++ spaced ns) (take_all n names le)
