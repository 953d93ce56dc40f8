use Rattle.can_wire.proofs.Loaded.{all_busy, busy_within, shown}
use Rattle.can_wire.proofs.laws.loads_are_what_attempts_took.Goals as goal

pub returns-clause-shown : goal.returns-clause-shown
returns-clause-shown c = shown

pub returns-clause-within : goal.returns-clause-within
returns-clause-within c = busy_within

pub returns-clause-total : goal.returns-clause-total
returns-clause-total c = all_busy
