use Rattle.can_wire.proofs.Rounded.{nanos_rounded}
use Rattle.can_wire.proofs.laws.times_are_rounded_up.Goals as goal

pub returns : goal.returns
returns c = nanos_rounded
