use Rattle.can_wire.proofs.Bounds.{bounded_standard, bounded_extended, classic_fast}
use Rattle.can_wire.proofs.laws.classic_frames_have_bounds.Goals as goal

pub returns-clause-standard : goal.returns-clause-standard
returns-clause-standard c = bounded_standard

pub returns-clause-extended : goal.returns-clause-extended
returns-clause-extended c = bounded_extended

pub returns-clause-one_rate : goal.returns-clause-one_rate
returns-clause-one_rate c = classic_fast
