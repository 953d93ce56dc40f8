-- The text of a data frame has a bound.
use Rattle.std.proofs.Common.{◌≡◌, ◌≤◌, false, length, refl}
use Rattle.can_frame.specs.Frames.{Payload, is_remote, is_fd, payload_len, payload_bytes}
use Rattle.can_frame.specs.Frames.Payload.{Data, Remote, Fd}
use Rattle.can_frame.specs.FrameText.{pairs, payload_text}

pub data_text : (p : Payload) → is_remote p ≡ false → is_fd p ≡ false → payload_text p ≡ pairs (payload_bytes p)
data_text (Data bytes) h k = refl
data_text (Remote len) h k = absurd cc
data_text (Fd flags bytes) h k = absurd cc

pub data_short : (p : Payload) → is_remote p ≡ false → payload_len p ≤ 8 → length (payload_bytes p) ≤ 8
data_short (Data bytes) h k = k
data_short (Remote len) h k = absurd cc
data_short (Fd flags bytes) h k = k
