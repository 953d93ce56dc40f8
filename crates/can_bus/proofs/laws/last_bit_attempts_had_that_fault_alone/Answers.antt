use Rattle.can_bus.proofs.Headlines.{had-that-fault}
use Rattle.can_bus.proofs.laws.last_bit_attempts_had_that_fault_alone.Goals as goal

pub returns : goal.returns
returns c past legal = had-that-fault c.args.config past legal
