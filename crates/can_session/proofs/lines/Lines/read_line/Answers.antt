use Rattle.can_session.proofs.Inputs.{takes}
use Rattle.can_session.proofs.lines.Lines.read_line.Goals as goal

pub returns-in-Line-clause-ok : goal.returns-in-Line-clause-ok
returns-in-Line-clause-ok g c = takes c.args.self.now c.loop-len.self c.give.new.self c.in-Line.len c.loop-len.invariant.began c.loop-len.invariant.fine c.loop-len.invariant.waits (rw c.held.ensures at c.in-Line.ensures) c.give.ensures.given
