use Rattle.can_bus.proofs.OwnFacts.{copying-sent}
use Rattle.can_bus.proofs.laws.copies_are_of_frames_sent.Goals as goal

pub returns : goal.returns
returns c past legal i s = copying-sent c.args.config past legal i s
