use Rattle.std.proofs.Common.{◌≤◌, ℕ, List, length, rules, arith}
use Rattle.can_frame.specs.Frames.{Payload, payload_bytes, payload_len}
use Rattle.can_frame.specs.Frames.Payload.{Data, Remote, Fd}

-- a payload never contains more bytes than its length says
pub bytes_fit : (p : Payload) → length (payload_bytes p) ≤ payload_len p
bytes_fit (Data bytes) = omega arith
bytes_fit (Remote len) = omega arith
bytes_fit (Fd flags bytes) = omega arith
