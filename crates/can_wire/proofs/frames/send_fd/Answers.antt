use Rattle.std.proofs.Common.{◌∷◌, ◌++◌, List, ℕ, refl, sym, ◌∙◌, append_assoc}
use Rattle.can_frame.specs.Frames.{payload_len, payload_bytes, payload_flags}
use Rattle.can_frame.specs.Arbitration.{low_bits}
use Rattle.can_wire.specs.FrameBits.{byte_bits, bit_of, fd_head, fd_code, fd_rest}
use Rattle.can_wire.proofs.Fields.{sent_two, inside_count}
use Rattle.can_wire.proofs.frames.send_fd.Goals as goal

pub returns-clause-brs : goal.returns-clause-brs
returns-clause-brs c =
    let head = rw (c.fd_head.ensures.bits, c.new-counter.ensures) at c.send.ensures.sent in
    c.count-to_brs.ensures ∙ inside_count (fd_head c.args.frame.now) _ head

pub returns-clause-whole : goal.returns-clause-whole
returns-clause-whole c =
    let f = c.args.frame.now in
    let first : List ℕ = fd_head f in
    let control : List ℕ = bit_of (payload_flags f.payload).esi ∷ low_bits 4 (fd_code (payload_len f.payload)) in
    let bytes : List ℕ = byte_bits (payload_bytes f.payload) in
    let head = rw (c.fd_head.ensures.bits, c.new-counter.ensures) at c.send.ensures.sent in
    let next = rw c.fd_control.ensures.bits at c.send-2.ensures.sent in
    let carried = rw c.bytes.ensures at c.send_bytes.ensures.sent in
    let both = sent_two first control (first ++ control) _ _ head next refl in
    let whole = sent_two (first ++ control) bytes (first ++ fd_rest f) _ _ both carried (sym (append_assoc first control bytes)) in
    c.count.ensures ∙ inside_count (first ++ fd_rest f) _ whole
