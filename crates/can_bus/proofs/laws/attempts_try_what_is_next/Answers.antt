use Rattle.can_bus.proofs.HeadFacts.{tried_is_next, idle_without_next}
use Rattle.can_bus.proofs.laws.attempts_try_what_is_next.Goals as goal

pub returns-clause-tried : goal.returns-clause-tried
returns-clause-tried c past m v t law = tried_is_next c.args.config past m v t law

pub returns-clause-idle : goal.returns-clause-idle
returns-clause-idle c past m v none = idle_without_next c.args.config past m v none
