use Rattle.std.proofs.Common.{arith}
use Rattle.can_bus.proofs.Lawful.{gone-le-sent, done-le-gone}
use Rattle.can_bus.proofs.laws.no_frame_is_forgotten.Goals as goal

pub returns : goal.returns
returns c past legal i = omega (arith, gone-le-sent c.args.config past legal i, done-le-gone c.args.config past legal i)
