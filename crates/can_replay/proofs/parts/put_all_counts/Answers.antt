use Rattle.std.proofs.Common.{◌≡◌, ℕ, ◌++◌, get_or, sym, ap, ◌∙◌, arith}
use Rattle.std.specs.List.{flat_map, range_with_len}
use Rattle.can_confine.specs.Confinement.{ErrorCounts, at_start}
use Rattle.can_replay.specs.Words.{counts_part}
use Rattle.can_replay.specs.inner.Seen.{counts_at, told_counts, told_counts_at}
use Rattle.can_replay.proofs.Lists.{more, read_at}
use Rattle.can_replay.proofs.parts.put_all_counts.Goals as goal

pub loop-i-preserved : goal.loop-i-preserved
loop-i-preserved c =
    let i = c.loop-i.i in
    let old : counts_at c.args.before.now i ≡ get_or c.args.before.now i c.index-before-i.result = read_at c.args.before.now i c.index-before-i.result at_start (omega arith) c.index-before-i.is ∙ c.index-before-i.is in
    let new : counts_at c.args.after.now i ≡ get_or c.args.after.now i c.index-after-i.result = read_at c.args.after.now i c.index-after-i.result at_start (omega arith) c.index-after-i.is ∙ c.index-after-i.is in
    more (told_counts_at c.args.before.now c.args.after.now) c.args.out.now.items c.loop-i.out.items c.put_counts.new.out.items i c.loop-i.invariant
    (c.in_ok-put_counts.ensures
    ∙ ap (λ (k : ErrorCounts). c.loop-i.out.items ++ counts_part i k (get_or c.args.after.now i c.index-after-i.result)) (sym old)
    ∙ ap (λ (k : ErrorCounts). c.loop-i.out.items ++ counts_part i (counts_at c.args.before.now i) k) (sym new))

pub returns : goal.returns
unfolding told_counts
returns c =
    let end : c.loop-i.i ≡ 16 = omega (arith, c.loop-i-test.false, c.loop-i.auto.i-end) in
    c.loop-i.invariant ∙ ap (λ (n : ℕ). c.args.out.now.items ++ flat_map (told_counts_at c.args.before.now c.args.after.now) (range_with_len 0 n)) end
