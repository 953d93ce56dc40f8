use Rattle.std.proofs.Common.{refl}
use Rattle.can_frame.proofs.Winning.{fd_bits}
use Rattle.can_frame.proofs.laws.fd_frames_compete_as_data_frames.Goals as goal

pub returns-clause-bits : goal.returns-clause-bits
returns-clause-bits c = fd_bits

pub returns-clause-word : goal.returns-clause-word
returns-clause-word c = λ id flags bytes others. refl
