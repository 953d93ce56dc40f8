use Rattle.std.proofs.Common.{◌≡◌, ℕ, List, IsTrue, take, take_all, arith, subst, ap, ◌∙◌}
use Rattle.std.proofs.lemmas.List.Sorted.{IsNonDecreasingBy-from_sort}
use Rattle.can_filter.specs.Filters.{CanFilter}
use Rattle.can_filter.specs.Gates.{IsGate}
use Rattle.can_filter.specs.Lookups.{is_found, is_matched}
use Rattle.can_filter.proofs.Compiling.{found-sorted}
use Rattle.can_filter.proofs.compiled.Compiled.of.Goals as goal
use Rattle.can_filter.proofs.compiled.Compiled.of.Goals.{After-gate_of-masked_gate}

finds_all : (c : After-gate_of-masked_gate) (word : ℕ) → is_found c.loop-filter.parts.standard c.sort_unstable.new.self.items c.loop-filter.parts.masked.items c.loop-filter.parts.inverted.items word ≡ is_matched c.args.filters.now word
finds_all c word =
    let all : take c.loop-filter.filter-index c.args.filters.now ≡ c.args.filters.now = take_all c.loop-filter.filter-index c.args.filters.now (omega (arith, c.loop-filter-test.false, c.loop-filter.auto.filter-index-end)) in
    found-sorted c.loop-filter.parts.standard c.loop-filter.parts.extended.items c.sort_unstable.new.self.items c.loop-filter.parts.masked.items c.loop-filter.parts.inverted.items c.sort_unstable.ensures.permutation word
    ∙ c.loop-filter.invariant word ∙ ap (λ (filters : List CanFilter). is_matched filters word) all

pub invariant_of-result : goal.invariant_of-result
invariant_of-result c = record {
  in_order = IsNonDecreasingBy-from_sort (λ id. id) c.sort_unstable.new.self.items c.sort_unstable.ensures.sorted;
  gated = λ word found. c.gate_of-gate.ensures word (subst IsTrue (finds_all (goal.at.invariant_of-result c).After-gate_of-masked_gate word) found);
  masked_gated = subst (IsGate c.gate_of-masked_gate.result) c.deref.ensures.value c.gate_of-masked_gate.ensures;
}

pub returns : goal.returns
returns c = finds_all (goal.at.returns c).After-gate_of-masked_gate
