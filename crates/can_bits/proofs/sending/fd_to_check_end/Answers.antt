use Rattle.std.proofs.Common.{◌≡◌, ◌-◌, Bool, List, length, arith, sym, ap, subst}
use Rattle.can_frame.specs.declared.fd_flags.FdFlags.{FdFlags}
use Rattle.can_wire.specs.FrameBits.{fd_head, fd_rest}
use Rattle.can_bits.specs.Fields.{fd_head_fields, fd_rest_fields}
use Rattle.can_bits.specs.declared.bit.Bit.{Bit}
use Rattle.can_bits.specs.inner.Sending.{AreFields}
use Rattle.can_bits.proofs.Whole.{data_least, data_some, fd_begun, fd_done, fd_sent}
use Rattle.can_bits.proofs.sending.fd_to_check_end.Goals as goal

pub overflow_sub-stuff_bits : goal.overflow_sub-stuff_bits
overflow_sub-stuff_bits c =
    let head = c.deref.result.now in
    let rest = c.deref-2.result.now in
    let fast = c.flags-is_fast.result.brs in
    let are = fd_begun fast head rest _ _ _ _ _ _ c.new-sender.ensures.bits c.new-sender.ensures.run c.in_ok-send.ensures.bits c.in_ok-send.ensures.run c.in_ok-send-2.ensures.bits c.in_ok-send-2.ensures.run in
    let all : length c.send-2.new.self.bits.items ≡ length (fd_sent fast head rest) = ap (λ (bits : List Bit). length bits) are.bits in
    let ok = c.send-2.new.self.bits.ok in
    omega (arith, all, data_least fast head rest)

pub overflow_sub-stuff_bits-2 : goal.overflow_sub-stuff_bits-2
overflow_sub-stuff_bits-2 c =
    let head = c.deref.result.now in
    let rest = c.deref-2.result.now in
    let fast = c.flags-is_fast.result.brs in
    let are = fd_begun fast head rest _ _ _ _ _ _ c.new-sender.ensures.bits c.new-sender.ensures.run c.in_ok-send.ensures.bits c.in_ok-send.ensures.run c.in_ok-send-2.ensures.bits c.in_ok-send-2.ensures.run in
    let all : length c.send-2.new.self.bits.items ≡ length (fd_sent fast head rest) = ap (λ (bits : List Bit). length bits) are.bits in
    let ok = c.send-2.new.self.bits.ok in
    omega (arith, all, data_least fast head rest)

pub fd_check-requires : goal.fd_check-requires
fd_check-requires c =
    let f = c.args.frame.now in
    let head = c.deref.result.now in
    let rest = c.deref-2.result.now in
    let fast = c.flags-is_fast.result.brs in
    let are = fd_begun fast head rest _ _ _ _ _ _ c.new-sender.ensures.bits c.new-sender.ensures.run c.in_ok-send.ensures.bits c.in_ok-send.ensures.run c.in_ok-send-2.ensures.bits c.in_ok-send-2.ensures.run in
    let first = subst (λ bits. AreFields bits (fd_head_fields f) (fd_head f)) (sym c.deref.ensures.value) c.in_ok-head.ensures in
    let all : length c.deref-3.result.now ≡ length (fd_sent fast head rest) = rw c.deref-3.ensures.value (ap (λ (bits : List Bit). length bits) are.bits) in
    omega (arith, all, data_some f fast head rest first.values)

pub returns : goal.returns
returns c =
    let f = c.args.frame.now in
    let head = c.deref.result.now in
    let rest = c.deref-2.result.now in
    let fast = c.flags-is_fast.result.brs in
    let are = fd_begun fast head rest _ _ _ _ _ _ c.new-sender.ensures.bits c.new-sender.ensures.run c.in_ok-send.ensures.bits c.in_ok-send.ensures.run c.in_ok-send-2.ensures.bits c.in_ok-send-2.ensures.run in
    let first = subst (λ bits. AreFields bits (fd_head_fields f) (fd_head f)) (sym c.deref.ensures.value) c.in_ok-head.ensures in
    let second = subst (λ bits. AreFields bits (fd_rest_fields f) (fd_rest f)) (sym c.deref-2.ensures.value) c.in_ok-rest.ensures in
    let brs = ap (λ (flags : FdFlags). flags.brs) c.flags-is_fast.ensures in
    let ok = c.send-2.new.self.bits.ok in
    let count : c.len.result - c.len-2.result - c.len-3.result ≡ length c.send-2.new.self.bits.items - length head - length rest = omega arith in
    fd_done f fast head rest c.send-2.new.self.bits.items c.in_ok-check.check.items _ c.send-2.new.self.run c.len-4.result (c.len.result - c.len-2.result - c.len-3.result) c.requires brs c.len-4.ensures.length first second are count (rw c.deref-3.ensures.value at c.in_ok-check.ensures) (rw c.deref-4.ensures.value at c.in_ok-send_fixed.ensures)
