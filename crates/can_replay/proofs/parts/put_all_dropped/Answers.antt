use Rattle.std.proofs.Common.{◌≡◌, ℕ, ◌++◌, length, refl, ap, ◌∙◌, arith}
use Rattle.std.specs.List.{flat_map, range_with_len}
use Rattle.can_replay.specs.Words.{parted}
use Rattle.can_replay.specs.inner.Seen.{told_dropped, told_dropped_at}
use Rattle.can_replay.proofs.Lists.{more_words, no_words}
use Rattle.can_replay.proofs.parts.put_all_dropped.Goals as goal

pub loop-place-init : goal.loop-place-init
loop-place-init c = no_words c.args.out.now.items _ refl

pub loop-place-preserved : goal.loop-place-preserved
loop-place-preserved c = more_words (told_dropped_at c.args.before.now c.args.state.now.sockets) c.args.out.now.items c.loop-place.out.items c.put_dropped_at.new.out.items c.loop-place.place c.loop-place.invariant c.in_ok-put_dropped_at.ensures

pub returns : goal.returns
unfolding told_dropped
returns c =
    let end : c.loop-place.place ≡ length c.args.before.now = omega (arith, c.loop-place-test.false, c.loop-place.auto.place-end) in
    c.loop-place.invariant ∙ ap (λ (n : ℕ). c.args.out.now.items ++ parted (flat_map (told_dropped_at c.args.before.now c.args.state.now.sockets) (range_with_len 0 n))) end
