use Rattle.std.proofs.Common.{◌+◌, ap, sym, ◌∙◌}
use Rattle.can_frame.specs.declared.fd_flags.FdFlags.{FdFlags}
use Rattle.can_wire.specs.FrameBits.{by_rates}
use Rattle.can_wire.specs.inner.Sending.{fd_check_width}
use Rattle.can_wire.proofs.Widths.{fd_checked}
use Rattle.can_wire.proofs.frames.bits_to_check_end.Goals as goal

pub returns-then-is_fd-clause-bits : goal.returns-then-is_fd-clause-bits
returns-then-is_fd-clause-bits c =
    let sent = c.send_fd-sent.result in
    let switches = ap (λ (flags : FdFlags). by_rates flags.brs sent.to_brs (sent.to_data_end + c.fd_check_width.result)) c.flags.ensures in
    c.by_rates.ensures ∙ switches ∙ fd_checked c.args.frame.now sent.to_brs sent.to_data_end c.fd_check_width.result (sym c.is_fd.ensures ∙ c.if-is_fd.true) c.send_fd-sent.ensures.brs c.send_fd-sent.ensures.whole (c.fd_check_width.ensures.width ∙ ap fd_check_width c.len.ensures.length)
