use Rattle.can_wire.proofs.Bounds.{fd_bounded_standard, fd_bounded_extended}
use Rattle.can_wire.proofs.laws.fd_frames_have_bounds.Goals as goal

pub returns-clause-standard : goal.returns-clause-standard
returns-clause-standard c = fd_bounded_standard

pub returns-clause-extended : goal.returns-clause-extended
returns-clause-extended c = fd_bounded_extended
