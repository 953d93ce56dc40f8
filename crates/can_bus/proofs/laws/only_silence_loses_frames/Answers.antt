use Rattle.can_bus.proofs.LostFacts.{lost-kept, lost-where-silent}
use Rattle.can_bus.proofs.laws.only_silence_loses_frames.Goals as goal

pub returns-clause-kept : goal.returns-clause-kept
returns-clause-kept c past e i live = lost-kept past e i live

pub returns-clause-lost : goal.returns-clause-lost
returns-clause-lost c past e legal i off = lost-where-silent c.args.config past e i legal off
