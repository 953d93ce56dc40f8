use Rattle.can_bus.proofs.OffFacts.{off-all-gone, off-no-head}
use Rattle.can_bus.proofs.laws.silent_interfaces_have_nothing_to_send.Goals as goal

pub returns-clause-gone : goal.returns-clause-gone
returns-clause-gone c proper past legal i off = off-all-gone c.args.config past legal proper.few_ifaces i off

pub returns-clause-idle : goal.returns-clause-idle
returns-clause-idle c proper past legal i off = off-no-head c.args.config past legal proper.few_ifaces i off
