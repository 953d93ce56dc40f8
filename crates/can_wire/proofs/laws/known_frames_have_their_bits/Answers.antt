use Rattle.std.proofs.Common.{refl}
use Rattle.can_frame.specs.Arbitration.{arbitration_bits}
use Rattle.can_wire.specs.Division.{check_of, generator_15, generator_17, generator_21}
use Rattle.can_wire.specs.FrameBits.{classic_head, fd_head, fd_check}
use Rattle.can_wire.proofs.laws.known_frames_have_their_bits.Goals as goal

pub returns-clause-classic : goal.returns-clause-classic
unfolding arbitration_bits classic_head check_of generator_15
returns-clause-classic c = refl

pub returns-clause-short_crc : goal.returns-clause-short_crc
unfolding arbitration_bits fd_head fd_check check_of generator_17
returns-clause-short_crc c = refl

pub returns-clause-long_crc : goal.returns-clause-long_crc
unfolding arbitration_bits fd_head fd_check check_of generator_21
returns-clause-long_crc c = refl
