use Rattle.can_frame.proofs.Keys.{key_of-same, bits-from_key}
use Rattle.can_frame.proofs.Winning.{GoesBefore-key_of, key_of-GoesBefore}
use Rattle.can_frame.proofs.laws.keys_order_frames.Goals as goal

pub returns-clause-before : goal.returns-clause-before
returns-clause-before c = λ a b. (GoesBefore-key_of a b, key_of-GoesBefore a b)

pub returns-clause-same : goal.returns-clause-same
returns-clause-same c = λ a b. (bits-from_key a b, key_of-same a b)
