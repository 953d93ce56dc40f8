use Rattle.std.proofs.Common.{◌≡◌, ℕ, length, slice_get, ap, ◌∙◌, arith}
use Rattle.std.specs.List.{flat_map, range_with_len}
use Rattle.can_replay.specs.inner.Seen.{dropped_in, nothing_seen, put_in, told_dropped, told_dropped_at, told_put, told_put_at}
use Rattle.can_replay.proofs.Lists.{end_next, end_within, first_places}
use Rattle.can_replay.proofs.changed.last_changed.Goals as goal

pub loop-place-preserved : goal.loop-place-preserved
loop-place-preserved c =
    let before = c.args.before.now in
    let sockets = c.args.state.now.sockets in
    let changed = c.has_changed-has_more in
    record {
      queued = end_next (told_put_at before sockets) c.loop-place.queued c.end_after-queued.result c.loop-place.place changed.result.0 c.end_after-queued.ensures changed.ensures.queued c.loop-place.invariant.queued;
      refused = end_next (told_dropped_at before sockets) c.loop-place.refused c.end_after-refused.result c.loop-place.place changed.result.1 c.end_after-refused.ensures changed.ensures.refused c.loop-place.invariant.refused;
      queued_end = end_within c.loop-place.queued c.end_after-queued.result c.loop-place.place changed.result.0 c.end_after-queued.ensures c.loop-place.invariant.queued_end;
      refused_end = end_within c.loop-place.refused c.end_after-refused.result c.loop-place.place changed.result.1 c.end_after-refused.ensures c.loop-place.invariant.refused_end;
    }

pub returns-clause-queued : goal.returns-clause-queued
unfolding told_put
returns-clause-queued c =
    let before = c.args.before.now in
    let sockets = c.args.state.now.sockets in
    let end : c.loop-place.place ≡ length before = omega (arith, c.loop-place-test.false, c.loop-place.auto.place-end) in
    first_places (λ p k. put_in (slice_get sockets p) k) nothing_seen before c.loop-place.queued (omega (arith, c.loop-place.invariant.queued_end, end))
    ∙ c.loop-place.invariant.queued
    ∙ ap (λ (n : ℕ). flat_map (told_put_at before sockets) (range_with_len 0 n)) end

pub returns-clause-refused : goal.returns-clause-refused
unfolding told_dropped
returns-clause-refused c =
    let before = c.args.before.now in
    let sockets = c.args.state.now.sockets in
    let end : c.loop-place.place ≡ length before = omega (arith, c.loop-place-test.false, c.loop-place.auto.place-end) in
    first_places (λ p k. dropped_in (slice_get sockets p) k) nothing_seen before c.loop-place.refused (omega (arith, c.loop-place.invariant.refused_end, end))
    ∙ c.loop-place.invariant.refused
    ∙ ap (λ (n : ℕ). flat_map (told_dropped_at before sockets) (range_with_len 0 n)) end
