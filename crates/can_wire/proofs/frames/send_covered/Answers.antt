use Rattle.std.proofs.Common.{refl}
use Rattle.can_frame.specs.Frames.{payload_bytes}
use Rattle.can_wire.specs.FrameBits.{byte_bits, classic_head, covered_bits}
use Rattle.can_wire.proofs.Fields.{sent_two}
use Rattle.can_wire.proofs.frames.send_covered.Goals as goal

pub returns-clause-sent : goal.returns-clause-sent
returns-clause-sent c =
    let f = c.args.frame.now in
    let head = rw (c.classic_head.ensures.bits, c.new-counter.ensures) at c.send.ensures.sent in
    let bytes = rw c.bytes.ensures at c.send_bytes.ensures.sent in
    sent_two (classic_head f) (byte_bits (payload_bytes f.payload)) (covered_bits f) _ _ head bytes refl
