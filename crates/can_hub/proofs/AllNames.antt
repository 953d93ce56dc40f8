-- The names of the interfaces of all buses, bus by bus.
use Rattle.std.proofs.Common.{◌≡◌, ℕ, ◌+◌, ◌<◌, ◌≤◌, List, [], ◌∷◌, ◌++◌, length, take, get_or, sym, ap, ◌∙◌, append_assoc}
use Rattle.std.proofs.lemmas.List.{append-nil, take_more, take_all}
use Rattle.std.proofs.lemmas.List.Concat.{flat_map-append}
use Rattle.can_proto.specs.Spelling.{spaced}
use Rattle.can_hub.specs.Buses.{BusSeen, all_names}

spaced-more : (buses : List BusSeen) (n : ℕ) (d : BusSeen) → n < length buses → spaced (all_names (take (n + 1) buses)) ≡ spaced (all_names (take n buses)) ++ spaced (get_or buses n d).names
spaced-more buses n d lt =
    ap (λ (bs : List BusSeen). spaced (all_names bs)) (take_more buses n d lt)
    ∙ ap spaced (flat_map-append (λ (b : BusSeen). b.names) (take n buses) (get_or buses n d ∷ []))
    ∙ flat_map-append (λ (name : List ℕ). 32 ∷ name) (all_names (take n buses)) ((get_or buses n d).names ++ [])
    ∙ ap (λ (names : List (List ℕ)). spaced (all_names (take n buses)) ++ spaced names) (append-nil (get_or buses n d).names)

-- The names of the interfaces after one more bus is added.
pub one_bus_more : (buses : List BusSeen) (n : ℕ) (bus : BusSeen) (old text more : List ℕ) → n < length buses → bus ≡ get_or buses n bus → text ≡ old ++ spaced (all_names (take n buses)) → more ≡ text ++ spaced bus.names → more ≡ old ++ spaced (all_names (take (n + 1) buses))
one_bus_more buses n bus old text more lt at before is =
    is
    ∙ ap (λ (t : List ℕ). t ++ spaced bus.names) before
    ∙ append_assoc old (spaced (all_names (take n buses))) (spaced bus.names)
    ∙ ap (λ (b : BusSeen). old ++ (spaced (all_names (take n buses)) ++ spaced b.names)) at
    ∙ ap (λ (t : List ℕ). old ++ t) (sym (spaced-more buses n bus lt))

-- The string contains the names of all buses after the last bus is added.
pub all_buses : (buses : List BusSeen) (n : ℕ) (old text : List ℕ) → length buses ≤ n → text ≡ old ++ spaced (all_names (take n buses)) → text ≡ old ++ spaced (all_names buses)
all_buses buses n old text le h = h ∙ ap (λ (bs : List BusSeen). old ++ spaced (all_names bs)) (take_all n buses le)
