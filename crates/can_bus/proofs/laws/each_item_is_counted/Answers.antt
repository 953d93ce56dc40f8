use Rattle.can_bus.proofs.LifeFacts.{offered-kept, items-at-close, dropped-at-close}
use Rattle.can_bus.proofs.laws.each_item_is_counted.Goals as goal

pub returns-clause-offered : goal.returns-clause-offered
returns-clause-offered c past s = offered-kept c.args.config past s

pub returns-clause-queued : goal.returns-clause-queued
returns-clause-queued c past s k legal = items-at-close c.args.config past s k legal

pub returns-clause-dropped : goal.returns-clause-dropped
returns-clause-dropped c past s k legal = dropped-at-close c.args.config past s k legal
