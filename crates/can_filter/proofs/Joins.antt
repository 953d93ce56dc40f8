use Rattle.std.proofs.Common.{◌≡◌, ◌≢◌, ◌↔◌, ℕ, Bool, true, false, not, refl, sym, ap, ◌∙◌, subst, List, [], ◌∷◌, length, All, Any, Contains, IsTrue, slice_index_or, arith}
use Rattle.std.specs.Prelude.{◌==◌}
use Rattle.std.proofs.lemmas.List.Folds.{Any-from_list_any, list_any-from_Any}
use Rattle.std.proofs.lemmas.List.Sums.{AllPass-from_list_all, list_all-from_AllPass}
use Rattle.std.proofs.lemmas.List.Elements.{All-contains}
use Rattle.std.proofs.lemmas.Bool.{true≢false, ne_eqb, and_parts, and_from}
use Rattle.std.specs.Int.Bits.{and_zero_r}
use Rattle.can_filter.specs.Filters.{CanFilter, matches, passes, everything}

-- Filters that are joined by OR and by AND.

-- two tests that pass in the same cases give the same answer
same_answer : (a b : Bool) → (IsTrue a → IsTrue b) → (IsTrue b → IsTrue a) → a ≡ b
same_answer true b there back = sym (there refl)
same_answer false false there back = refl
same_answer false true there back = back refl

pub some_matches : (filters : List CanFilter) (received : ℕ) → IsTrue (passes filters false received) ↔ Any (λ f. IsTrue (matches f received)) filters
some_matches filters received =
    (Any-from_list_any (λ f. matches f received) filters, list_any-from_Any (λ f. matches f received) filters)

some_filter : (f : CanFilter) (filters : List CanFilter) → (length (f ∷ filters) == 0) ≡ false
some_filter f filters = ne_eqb _ _ (omega arith)

pub all_match : (filters : List CanFilter) (received : ℕ) → IsTrue (passes filters true received) ↔ ((filters ≢ []) × All (λ f. IsTrue (matches f received)) filters)
all_match [] received = (λ passed. absurd (true≢false (sym passed)), λ both. absurd (both.0 refl))
all_match (f ∷ filters) received =
    let matched : CanFilter → Bool = λ g. matches g received in (
      λ passed. (
        λ empty. absurd (true≢false (sym (ap (λ xs. length xs == 0) empty) ∙ some_filter f filters)),
        AllPass-from_list_all matched (f ∷ filters) (and_parts _ _ passed).1,
      ),
      λ both. and_from _ _ (ap not (some_filter f filters)) (list_all-from_AllPass matched (f ∷ filters) both.1),
    )

-- a fact about every filter of one list holds for every filter of another list if these filters are all in the first
all_within : (P : CanFilter → Type 0) (one other : List CanFilter) → All (Contains one) other → All P one → All P other
all_within P one other within all k d below =
    All-contains P one (slice_index_or other k d) all (within k d below)

-- a fact about at least one filter of one list holds for at least one filter of another list that contains them all
some_within : (P : CanFilter → Type 0) (one other : List CanFilter) → All (Contains other) one → Any P one → Any P other
some_within P one other within some =
    let there : Contains other some.1 = subst (Contains other) some.3 (within some.0 some.1 some.2) in
    (there.0, some.1, there.1, there.2, some.4)

nonempty : (one other : List CanFilter) → All (Contains other) one → one ≢ [] → other ≢ []
nonempty [] other within some empty = some refl
nonempty (f ∷ filters) other within some empty =
    let there : Contains other f = within 0 f (omega arith) in
    let none : length other ≡ 0 = ap length empty in
    omega (arith, there.1, none)

pub repeated : (one other : List CanFilter) → All (Contains other) one → All (Contains one) other → (join : Bool) (received : ℕ) → passes one join received ≡ passes other join received
repeated one other there back false received =
    same_answer (passes one false received) (passes other false received)
    (λ h. (some_matches other received).1 (some_within _ one other there ((some_matches one received).0 h)))
    (λ h. (some_matches one received).1 (some_within _ other one back ((some_matches other received).0 h)))
repeated one other there back true received =
    same_answer (passes one true received) (passes other true received)
    (λ h. let both = (all_match one received).0 h in (all_match other received).1 (nonempty one other there both.0, all_within (λ f. IsTrue (matches f received)) one other back both.1))
    (λ h. let both = (all_match other received).0 h in (all_match one received).1 (nonempty other one back both.0, all_within (λ f. IsTrue (matches f received)) other one there both.1))

pub everything_passes : (filters : List CanFilter) (received : ℕ) → Contains filters everything → IsTrue (passes filters false received)
everything_passes filters received there =
    list_any-from_Any (λ f. matches f received) filters (there.0, everything, there.1, there.2, ap (λ n. n == 0) (and_zero_r received))
