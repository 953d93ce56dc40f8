use Rattle.std.proofs.Common.{arith}
use Rattle.can_event.specs.Events.{IsConfig}
use Rattle.can_event.proofs.Limits.{long-config}
use Rattle.can_bus.proofs.Starting.{made}
use Rattle.can_bus.proofs.bus.Bus.new.Goals as goal

pub invariant_of-result : goal.invariant_of-result
invariant_of-result g c =
    let proper : IsConfig c.args.config = grind arith in
    let r = c.in_ok-new.ensures in
    made _ _ c.args.config r.config r.empty r.room (long-config _ proper) c.in-Ok.ensures
