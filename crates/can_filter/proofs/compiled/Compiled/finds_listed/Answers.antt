use Rattle.std.proofs.Common.{ℕ, List, nat_cmp, bit_and, subst, ◌∙◌}
use Rattle.std.specs.List.Sorted.{IsBinarySearchResult}
use Rattle.can_filter.proofs.Compiling.{listed-from_search}
use Rattle.can_filter.proofs.compiled.Compiled.finds_listed.Goals as goal

pub returns : goal.returns
returns c =
    let found = subst (λ (ids : List ℕ). IsBinarySearchResult (λ id. nat_cmp id (bit_and c.args.word 3758096383)) ids c.binary_search.result) c.deref.ensures.value c.binary_search.ensures.position in
    c.is_ok.ensures.value ∙ listed-from_search c.args.self.now.parts.extended.items (bit_and c.args.word 3758096383) c.binary_search.result c.args.self.now.in_order found
