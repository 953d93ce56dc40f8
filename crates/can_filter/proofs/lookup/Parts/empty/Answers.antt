use Rattle.std.proofs.Common.{refl}
use Rattle.can_filter.proofs.Compiling.{found-none}
use Rattle.can_filter.proofs.lookup.Parts.empty.Goals as goal

pub returns : goal.returns
returns c = found-none _ _ _ _ refl c.new.ensures.items c.new-2.ensures.items c.new-3.ensures.items
