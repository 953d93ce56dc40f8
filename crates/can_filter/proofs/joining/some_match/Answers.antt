use Rattle.std.proofs.Common.{sym, ap, ◌∙◌}
use Rattle.std.specs.List.{list_any}
use Rattle.can_filter.specs.Filters.{matches}
use Rattle.can_filter.proofs.Blocks.{block_has, block_has_none}
use Rattle.can_filter.proofs.joining.some_match.Goals as goal

pub returns-then-some_of_block : goal.returns-then-some_of_block
returns-then-some_of_block c =
    let front = c.in-Some.ensures.cases.0 in
    sym (c.loop-block.invariant ∙ block_has (λ f. matches f c.args.word) 8 c.loop-block.rest.now (ap (list_any (λ f. matches f c.args.word)) (sym front) ∙ sym c.some_of_block.ensures ∙ c.if-some_of_block.true))

pub loop-block-preserved : goal.loop-block-preserved
loop-block-preserved c =
    let front = c.in-Some.ensures.cases.0 in
    let back = c.in-Some.ensures.cases.1 in
    c.loop-block.invariant ∙ block_has_none (λ f. matches f c.args.word) 8 c.loop-block.rest.now (ap (list_any (λ f. matches f c.args.word)) (sym front) ∙ sym c.some_of_block.ensures ∙ c.if-some_of_block.false) ∙ ap (list_any (λ f. matches f c.args.word)) (sym back)
