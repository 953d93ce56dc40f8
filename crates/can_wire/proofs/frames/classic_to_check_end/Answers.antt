use Rattle.std.proofs.Common.{refl, ◌∙◌}
use Rattle.can_wire.specs.Division.{check_of, generator_15}
use Rattle.can_wire.specs.FrameBits.{covered_bits, checked_bits}
use Rattle.can_wire.proofs.Fields.{sent_two, all_count}
use Rattle.can_wire.proofs.frames.classic_to_check_end.Goals as goal

pub returns-clause-bits : goal.returns-clause-bits
returns-clause-bits c =
    let f = c.args.frame.now in
    let check = rw (c.check_sequence.ensures.bits, c.classic_head.ensures.bits, c.bytes.ensures) at c.send.ensures.sent in
    c.finish.ensures.bits ∙ all_count (checked_bits f) _ _ (sent_two (covered_bits f) (check_of generator_15 (covered_bits f)) (checked_bits f) _ _ c.send_covered-counter.ensures.sent check refl) refl
