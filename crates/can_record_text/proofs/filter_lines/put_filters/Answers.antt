use Rattle.std.proofs.Common.{◌∙◌, ◌++◌, ap}
use Rattle.std.specs.List.{flat_map}
use Rattle.std.proofs.lemmas.List.{take_all}
use Rattle.can_record_text.proofs.Written.{filter_part, filters_words}
use Rattle.can_record_text.proofs.filter_lines.put_filters.Goals as goal

pub returns : goal.returns
returns c =
    let all = take_all c.loop-filter.filter-index c.args.filters.now c.loop-filter-test.false in
    c.loop-filter.invariant ∙ ap (λ xs. c.args.out.now.items ++ flat_map filter_part xs) all ∙ ap (λ x. c.args.out.now.items ++ x) (filters_words c.args.filters.now)
