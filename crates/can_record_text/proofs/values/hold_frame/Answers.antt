use Rattle.std.proofs.Common.{◌≡◌, ◌≤◌, ◌<◌, true, false, IsTrue, refl, List, ℕ, slice_index, subst}
use Rattle.can_frame.specs.Frames.{IsIdentifier, Payload, payload_len, payload_bytes, is_fd, is_fd_length}
use Rattle.can_frame.specs.Frames.Payload.{Data, Remote, Fd}
use Rattle.can_frame.specs.FrameText.{IsPayload}
use Rattle.can_record_text.proofs.values.hold_frame.Goals as goal

holds : (p : Payload) (len : ℕ) → len ≡ payload_len p → (is_fd p ≡ false → len ≤ 8) → (is_fd p ≡ true → IsTrue (is_fd_length len)) → ((i : ℕ) → slice_index (payload_bytes p) i < 256) → IsPayload p
holds (Data bytes) len is short fd fit = (rw is at (short refl), fit)
holds (Remote n) len is short fd fit = rw is at (short refl)
holds (Fd flags bytes) len is short fd fit = (rw is at (fd refl), fit)

pub returns : goal.returns
returns c =
    let fit : (i : ℕ) → slice_index (payload_bytes c.args.frame.payload) i < 256 = subst (λ (xs : List ℕ). (i : ℕ) → slice_index xs i < 256) c.bytes.ensures c.hold_bytes.ensures in
    (subst IsIdentifier c.id.ensures c.number-number.ensures.below, holds c.args.frame.payload _ c.len-len.ensures.length c.len-len.ensures.classic c.len-len.ensures.fd fit)
