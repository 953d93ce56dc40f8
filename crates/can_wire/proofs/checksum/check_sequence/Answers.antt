use Rattle.std.proofs.Common.{◌≡◌, ◌++◌, arith, sym, replicate, ◌∙◌}
use Rattle.std.proofs.lemmas.List.{drop_all}
use Rattle.can_frame.proofs.Bits.{IsBits-append, IsBits-low_bits}
use Rattle.can_wire.specs.Division.{generator_15}
use Rattle.can_wire.specs.FrameBits.{byte_bits}
use Rattle.can_wire.specs.inner.Sending.{bits_of, register_bits, shifted_all}
use Rattle.can_wire.proofs.Divided.{divided, shifted_all-append, IsBits-byte_bits}
use Rattle.can_wire.proofs.Fields.{checked_byte}
use Rattle.can_wire.proofs.checksum.check_sequence.Goals as goal

pub loop-byte-init : goal.loop-byte-init
loop-byte-init c = rw (c.take.ensures, c.new-register.ensures) (sym (shifted_all-append generator_15 (bits_of c.args.head) (byte_bits c.args.bytes.now) (replicate 15 0)))

pub loop-byte-preserved : goal.loop-byte-preserved
loop-byte-preserved c = checked_byte generator_15 c.args.bytes.now c.loop-byte.byte-index _ _ (omega (arith, c.loop-byte-test.true)) (rw (c.then.ensures.bits, c.none.ensures.bits, c.from.ensures) at c.take-in-loop-byte.ensures) ∙ c.loop-byte.invariant

pub returns-clause-bits : goal.returns-clause-bits
unfolding register_bits
returns-clause-bits c =
    let head = bits_of c.args.head in
    let bytes = byte_bits c.args.bytes.now in
    let all = IsBits-append head bytes (IsBits-low_bits c.args.head.count c.args.head.number) (IsBits-byte_bits c.args.bytes.now) in
    let whole : c.loop-byte.register ≡ shifted_all generator_15 (head ++ bytes) (replicate 15 0) = rw (drop_all c.loop-byte.byte-index c.args.bytes.now (omega (arith, c.loop-byte-test.false))) at c.loop-byte.invariant in
    rw (c.then-2.ensures.bits, c.none-2.ensures.bits, c.from-2.ensures) (c.register.view_is ∙ (whole ∙ divided (head ++ bytes) all))
