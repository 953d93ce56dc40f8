use Rattle.can_bus.proofs.SilentFacts.{silent-not-winner, silent-accepts-nothing, off-send-refused, down-send-refused, fd-send-refused, silent-counts-stay}
use Rattle.can_bus.proofs.laws.silent_interfaces_take_no_part.Goals as goal

pub returns-clause-wins : goal.returns-clause-wins
returns-clause-wins c past m v t law i off = silent-not-winner c.args.config past m v t i law off

pub returns-clause-accepts : goal.returns-clause-accepts
returns-clause-accepts c past m v t law i off = silent-accepts-nothing c.args.config past m v t i law off

pub returns-clause-off : goal.returns-clause-off
returns-clause-off c past s f there may off = off-send-refused c.args.config past s f there may off

pub returns-clause-down : goal.returns-clause-down
returns-clause-down c past s f there may down = down-send-refused c.args.config past s f there may down

pub returns-clause-fd : goal.returns-clause-fd
returns-clause-fd c past s f there lacks = fd-send-refused c.args.config past s f there lacks

pub returns-clause-counts : goal.returns-clause-counts
returns-clause-counts c past e legal i off other up = silent-counts-stay c.args.config past e i legal off other up
