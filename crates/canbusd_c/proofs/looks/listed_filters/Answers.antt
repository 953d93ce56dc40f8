use Rattle.std.proofs.Common.{◌≡◌, ◌==◌, ◌^◌, ◌+◌, ◌++◌, ◌∷◌, [], List, ℕ, slice_index_or, length, drop, false, bit_and, Option, Some, None, inr, refl, sym, ap, ◌∙◌, arith, rules}
use Rattle.std.proofs.lemmas.List.{drop_more, drop_all}
use Rattle.can_filter.specs.Filters.{CanFilter}
use Rattle.canbusd_c.specs.Calls.{filters_of_structs}
use Rattle.canbusd_c.specs.declared.shapes.CFilter.{CFilter}
use Rattle.canbusd_c.proofs.FilterLists.{before, none_before, one_more, one_bad, all_read, zero_is, other_is_not}
use Rattle.canbusd_c.proofs.looks.listed_filters.Goals as goal

pub loop-filter-init : goal.loop-filter-init
loop-filter-init c = ap (λ (front : List CanFilter). before front (filters_of_structs c.args.filters.now)) c.new-list.ensures.items ∙ none_before (filters_of_structs c.args.filters.now)

pub returns-in_default : goal.returns-in_default
returns-in_default c =
    let all = c.args.filters.now in
    let i = c.loop-filter.filter-index in
    let f : CFilter = slice_index_or all i (record { id = 0; mask = 0 }) in
    let same = ap (λ (fs : List CFilter). before c.loop-filter.list.items (filters_of_structs fs)) (drop_more all i (record { id = 0; mask = 0 }) (omega (arith, c.loop-filter-test.true))) in
    inr (refl, sym c.loop-filter.invariant ∙ same ∙ one_bad c.loop-filter.list.items f (drop (i + 1) all) (other_is_not (bit_and f.mask (2 ^ 29)) c.in_default.ensures))

pub loop-filter-preserved : goal.loop-filter-preserved
loop-filter-preserved c =
    let all = c.args.filters.now in
    let i = c.loop-filter.filter-index in
    let f : CFilter = slice_index_or all i (record { id = 0; mask = 0 }) in
    let front = c.loop-filter.list.items in
    let same = ap (λ (fs : List CFilter). before front (filters_of_structs fs)) (drop_more all i (record { id = 0; mask = 0 }) (omega (arith, c.loop-filter-test.true))) in
    let pushed : c.push.new.self.items ≡ front ++ record { id = f.id; mask = f.mask } ∷ [] = search rules in
    ap (λ (read : List CanFilter). before read (filters_of_structs (drop (i + 1) all))) pushed
    ∙ sym (one_more front f (drop (i + 1) all) (zero_is (bit_and f.mask (2 ^ 29)) c.in-Ok.ensures.0)) ∙ sym same ∙ c.loop-filter.invariant

pub returns : goal.returns
returns c =
    let none = drop_all c.loop-filter.filter-index c.args.filters.now c.loop-filter-test.false in
    sym c.loop-filter.invariant ∙ ap (λ (fs : List CFilter). before c.loop-filter.list.items (filters_of_structs fs)) none ∙ all_read c.loop-filter.list.items
