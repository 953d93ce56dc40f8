use Rattle.std.proofs.Common.{[], sym}
use Rattle.std.proofs.lemmas.List.{append-nil}
use Rattle.can_session.proofs.turns.carry_out.Goals as goal

pub returns-in-Drain : goal.returns-in-Drain
returns-in-Drain c = rw c.in-Drain.is c.drain.ensures

pub returns-in-End : goal.returns-in-End
returns-in-End c = rw c.in-End.is ([], c.end.ensures, sym (append-nil c.args.said.now.items))
