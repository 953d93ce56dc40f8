use Rattle.std.proofs.Common.{◌≤◌, length, slice_get, refl, sym, ◌∙◌, arith}
use Rattle.std.proofs.lemmas.List.{length-set}
use Rattle.can_replay.specs.inner.Seen.{counts_in}
use Rattle.can_replay.proofs.Items.{counts_seen}
use Rattle.can_replay.proofs.Lists.{taken_all, taken_set}
use Rattle.can_replay.proofs.before.see_sockets_again.Goals as goal

pub loop-place-preserved : goal.loop-place-preserved
loop-place-preserved c =
    let sockets = c.args.state.now.sockets in
    let place = c.loop-place.place in
    record {
      same = taken_set counts_in sockets c.loop-place.sockets _ place c.unwrap.result.1 c.loop-place.invariant.places c.loop-place.invariant.same (counts_seen (slice_get sockets place) c.unwrap.result (sym c.unwrap.ensures ∙ c.socket_at.ensures)) refl;
      places = simp length-set c.loop-place.invariant.places;
    }

pub returns : goal.returns
returns c =
    let ended : length c.args.state.now.sockets ≤ c.loop-place.place = omega (arith, c.loop-place-test.false, c.open_count-place-end.ensures) in
    taken_all counts_in c.args.state.now.sockets c.loop-place.sockets c.loop-place.place c.loop-place.invariant.places ended c.loop-place.invariant.same
