use Rattle.std.proofs.Common.{◌≡◌, ◌≤◌, ◌<◌, ◌+◌, ℕ, Bool, true, false, List, [], ◌∷◌, ◌++◌, length, drop, get_or, if◌then◌else◌, append_assoc, append-nil, sym, ap, ◌∙◌}
use Rattle.std.proofs.Math.ListN.{drop_of_length-le}
use Rattle.std.proofs.lemmas.List.{at_drop_more}
use Rattle.can_frame.specs.Sets.{is_in}
use Rattle.can_frame.specs.declared.iface.IfaceSet.{IfaceSet}
use Rattle.can_rules.specs.RuleText.{names_after_mark, members}

-- The loop that writes the names of a set: for each interface of the bus that is in the set, it writes the name.

chosen : (i : ℕ) (names : List (List ℕ)) (set : IfaceSet) (b : Bool) → i < length names → is_in i set ≡ b
    → members i (drop i names) set ≡ (if b then get_or names i [] ∷ members (i + 1) (drop (i + 1) names) set else members (i + 1) (drop (i + 1) names) set)
chosen i names set b within is =
    at_drop_more (λ (ns : List (List ℕ)). members i ns set) names i [] within
    ∙ ap (λ (b : Bool). if b then get_or names i [] ∷ members (i + 1) (drop (i + 1) names) set else members (i + 1) (drop (i + 1) names) set) is

-- One turn of the loop if the set contains interface i.
pub member_next : (out new all : List ℕ) (mark i : ℕ) (names : List (List ℕ)) (set : IfaceSet) → i < length names → is_in i set ≡ true → new ≡ out ++ mark ∷ get_or names i [] → out ++ names_after_mark mark (members i (drop i names) set) ≡ all
    → new ++ names_after_mark 44 (members (i + 1) (drop (i + 1) names) set) ≡ all
member_next out new all mark i names set within is wrote before =
    let rest = names_after_mark 44 (members (i + 1) (drop (i + 1) names) set) in
    ap (λ (x : List ℕ). x ++ rest) wrote
    ∙ append_assoc out (mark ∷ get_or names i []) rest
    ∙ ap (λ (ms : List (List ℕ)). out ++ names_after_mark mark ms) (sym (chosen i names set true within is))
    ∙ before

-- One turn of the loop if the set does not contain interface i.
pub other_next : (out all : List ℕ) (mark i : ℕ) (names : List (List ℕ)) (set : IfaceSet) → i < length names → is_in i set ≡ false → out ++ names_after_mark mark (members i (drop i names) set) ≡ all → out ++ names_after_mark mark (members (i + 1) (drop (i + 1) names) set) ≡ all
other_next out all mark i names set within is before = ap (λ (ms : List (List ℕ)). out ++ names_after_mark mark ms) (sym (chosen i names set false within is)) ∙ before

-- The end of the loop, when no interface is left.
pub none_next : (out all : List ℕ) (mark i : ℕ) (names : List (List ℕ)) (set : IfaceSet) → length names ≤ i → out ++ names_after_mark mark (members i (drop i names) set) ≡ all → out ≡ all
none_next out all mark i names set past before =
    sym (append-nil out) ∙ ap (λ (ns : List (List ℕ)). out ++ names_after_mark mark (members i ns set)) (sym (drop_of_length-le names past)) ∙ before
