use Rattle.std.proofs.Common.{take, sym, arith}
use Rattle.can_session.proofs.HeldBytes.{read_on}
use Rattle.can_session.proofs.read_buffer.read_behind.Goals as goal

pub returns-clause-ok : goal.returns-clause-ok
returns-clause-ok g c =
    let n = c.in_ok-read.read in
    let bound = c.in_ok-read.ensures.bound in
    record {
      bytes = take n c.read.new.buf;
      counted = sym bound.1;
      behind = read_on c.args.bytes.now c.read.new.buf _ c.args.end n (omega arith) bound.0;
      taken = c.in_ok-read.ensures.bytes.0;
    }
