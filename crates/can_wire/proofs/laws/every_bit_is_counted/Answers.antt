use Rattle.can_wire.proofs.Widths.{all_counted}
use Rattle.can_wire.proofs.laws.every_bit_is_counted.Goals as goal

pub returns : goal.returns
returns c = all_counted
