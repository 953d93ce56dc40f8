use Rattle.std.proofs.Common.{rules, ◌≡◌, ◌<◌, ◌++◌, ◌∷◌, [], List, ℕ, ◌^◌, ◌==◌, Bool, true, false, bit_and, Option, Some, None, refl, sym, ap, ◌∙◌, append_assoc, ne_eqb}
use Rattle.std.proofs.lemmas.List.{append-nil}
use Rattle.can_filter.specs.Filters.{CanFilter}
use Rattle.canbusd_c.specs.Calls.{filter_before, filters_of_structs}
use Rattle.canbusd_c.specs.declared.shapes.CFilter.{CFilter}

-- the filters that were already read, followed by the remaining filters
abbrev pub before : List CanFilter → Option (List CanFilter) → Option (List CanFilter)
before front None = None
before front (Some filters) = Some (front ++ filters)

-- before the first filter is read, all filters remain
pub none_before : (rest : Option (List CanFilter)) → before [] rest ≡ rest
none_before None = refl
none_before (Some filters) = refl

-- one more filter is read
regroup : (front : List CanFilter) (f : CFilter) (rest : Option (List CanFilter)) → before front (filter_before f true rest) ≡ before (front ++ record { id = f.id; mask = f.mask } ∷ []) rest
regroup front f None = refl
regroup front f (Some filters) = ap (λ (x : List CanFilter). Some x) (sym (append_assoc front (record { id = f.id; mask = f.mask } ∷ []) filters))

pub one_more : (front : List CanFilter) (f : CFilter) (fs : List CFilter) → (bit_and f.mask (2 ^ 29) == 0) ≡ true → before front (filters_of_structs (f ∷ fs)) ≡ before (front ++ record { id = f.id; mask = f.mask } ∷ []) (filters_of_structs fs)
unfolding filters_of_structs
one_more front f fs ok = ap (λ (b : Bool). before front (filter_before f b (filters_of_structs fs))) ok ∙ regroup front f (filters_of_structs fs)

-- one is invalid
pub one_bad : (front : List CanFilter) (f : CFilter) (fs : List CFilter) → (bit_and f.mask (2 ^ 29) == 0) ≡ false → before front (filters_of_structs (f ∷ fs)) ≡ None
unfolding filters_of_structs
one_bad front f fs bad = ap (λ (b : Bool). before front (filter_before f b (filters_of_structs fs))) bad

-- all are read
pub all_read : (front : List CanFilter) → before front (filters_of_structs []) ≡ Some front
unfolding filters_of_structs
all_read front = ap (λ (x : List CanFilter). Some x) (append-nil front)

-- if a number is 0, its comparison with 0 is true
pub zero_is : (n : ℕ) → n ≡ 0 → (n == 0) ≡ true
zero_is n e = ap (λ (k : ℕ). k == 0) e

pub other_is_not : (n : ℕ) → (n ≡ 0 → ⊥) → (n == 0) ≡ false
other_is_not n h = ne_eqb n 0 h
