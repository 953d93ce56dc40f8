use Rattle.std.proofs.Common.{refl}
use Rattle.can_wire.specs.Division.{check_of, generator_15, generator_17, generator_21}
use Rattle.can_wire.proofs.laws.check_values_are_known.Goals as goal

pub returns-clause-classic : goal.returns-clause-classic
unfolding check_of generator_15
returns-clause-classic c = refl

pub returns-clause-short : goal.returns-clause-short
unfolding check_of generator_17
returns-clause-short c = refl

pub returns-clause-long : goal.returns-clause-long
unfolding check_of generator_21
returns-clause-long c = refl
