use Rattle.can_bus.proofs.Headlines.{headline}
use Rattle.can_bus.proofs.laws.every_accepted_frame_exactly.Goals as goal

pub returns : goal.returns
returns c proper past legal = headline c.args.config past proper legal
