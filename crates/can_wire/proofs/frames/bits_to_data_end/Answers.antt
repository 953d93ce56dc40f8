use Rattle.std.proofs.Common.{sym, ◌∙◌}
use Rattle.can_wire.specs.FrameBits.{covered_bits}
use Rattle.can_wire.proofs.Fields.{inside_count}
use Rattle.can_wire.proofs.Widths.{classic_carried}
use Rattle.can_wire.proofs.frames.bits_to_data_end.Goals as goal

pub returns-else-is_fd-clause-bits : goal.returns-else-is_fd-clause-bits
returns-else-is_fd-clause-bits c = classic_carried c.args.frame.now c.count.result (sym c.is_fd.ensures ∙ c.if-is_fd.false) (c.count.ensures ∙ inside_count (covered_bits c.args.frame.now) _ c.send_covered.ensures.sent)
