use Rattle.std.proofs.Common.{sym, ap, ◌∙◌}
use Rattle.std.specs.List.{list_all}
use Rattle.can_filter.specs.Filters.{matches}
use Rattle.can_filter.proofs.Blocks.{block_lacks, block_lacks_none}
use Rattle.can_filter.proofs.joining.all_match.Goals as goal

pub returns-then-not-all_of_block : goal.returns-then-not-all_of_block
returns-then-not-all_of_block c =
    let front = c.in-Some.ensures.cases.0 in
    sym (c.loop-block.invariant ∙ block_lacks (λ f. matches f c.args.word) 8 c.loop-block.rest.now (ap (list_all (λ f. matches f c.args.word)) (sym front) ∙ sym c.all_of_block.ensures ∙ c.if-not-all_of_block.true))

pub loop-block-preserved : goal.loop-block-preserved
loop-block-preserved c =
    let front = c.in-Some.ensures.cases.0 in
    let back = c.in-Some.ensures.cases.1 in
    c.loop-block.invariant ∙ block_lacks_none (λ f. matches f c.args.word) 8 c.loop-block.rest.now (ap (list_all (λ f. matches f c.args.word)) (sym front) ∙ sym c.all_of_block.ensures ∙ c.if-not-all_of_block.false) ∙ ap (list_all (λ f. matches f c.args.word)) (sym back)
