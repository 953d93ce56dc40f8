use Rattle.can_fault.proofs.NamedSets.{is_in-set_named}
use Rattle.can_fault.proofs.laws.a_set_has_the_interfaces_that_are_named.Goals as goal

pub returns : goal.returns
returns c = is_in-set_named
