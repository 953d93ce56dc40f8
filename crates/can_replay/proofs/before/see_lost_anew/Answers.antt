use Rattle.std.proofs.Common.{sym, ◌∙◌}
use Rattle.can_bus.specs.Stats.{lost_of}
use Rattle.can_replay.proofs.Lists.{taken_next}
use Rattle.can_replay.proofs.before.see_lost_anew.Goals as goal

pub loop-i-preserved : goal.loop-i-preserved
loop-i-preserved c = taken_next lost_of c.args.state.now.interfaces c.loop-i.lost.items c.push.new.self.items c.loop-i.i c.unwrap.result c.loop-i.invariant (sym c.unwrap.ensures ∙ c.lost_at.ensures) c.in_ok-push.ensures.items
