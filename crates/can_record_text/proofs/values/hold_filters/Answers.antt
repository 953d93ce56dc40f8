use Rattle.std.proofs.Common.{List, subst}
use Rattle.std.specs.Prelude.{All}
use Rattle.std.proofs.lemmas.List.{take_all}
use Rattle.std.proofs.lemmas.List.Elements.{All-more}
use Rattle.can_filter.specs.Filters.{CanFilter}
use Rattle.can_record_text.specs.Values.{HoldsFilter}
use Rattle.can_record_text.proofs.values.hold_filters.Goals as goal

pub loop-filter-preserved : goal.loop-filter-preserved
loop-filter-preserved c = All-more HoldsFilter c.args.filters.now c.loop-filter.filter-index c.filter-item.result c.loop-filter-test.true c.loop-filter.invariant (subst HoldsFilter c.filter-item.is c.hold_filter.ensures)

pub returns : goal.returns
returns c = subst (λ (xs : List CanFilter). All HoldsFilter xs) (take_all c.loop-filter.filter-index c.args.filters.now c.loop-filter-test.false) c.loop-filter.invariant
