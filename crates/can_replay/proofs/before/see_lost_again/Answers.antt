use Rattle.std.proofs.Common.{◌≤◌, length, refl, sym, ◌∙◌, arith}
use Rattle.std.proofs.lemmas.List.{length-set}
use Rattle.can_bus.specs.Stats.{lost_of}
use Rattle.can_replay.proofs.Lists.{taken_all, taken_set}
use Rattle.can_replay.proofs.before.see_lost_again.Goals as goal

pub loop-i-preserved : goal.loop-i-preserved
loop-i-preserved c = record {
  same = taken_set lost_of c.args.state.now.interfaces c.loop-i.lost _ c.loop-i.i c.unwrap.result c.loop-i.invariant.places c.loop-i.invariant.same (sym c.unwrap.ensures ∙ c.lost_at.ensures) refl;
  places = simp length-set c.loop-i.invariant.places;
}

pub returns : goal.returns
returns c =
    let ended : length c.args.state.now.interfaces ≤ c.loop-i.i = omega (arith, c.loop-i-test.false, c.iface_count-i-end.ensures) in
    taken_all lost_of c.args.state.now.interfaces c.loop-i.lost c.loop-i.i c.loop-i.invariant.places ended c.loop-i.invariant.same
