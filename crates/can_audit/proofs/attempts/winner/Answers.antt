use Rattle.std.proofs.Common.{reverse}
use Rattle.can_audit.proofs.Competing.{winner-of}
use Rattle.can_audit.proofs.attempts.winner.Goals as goal

pub returns : goal.returns
returns c = λ config h. winner-of config (reverse c.args.past.now) c.in_ok-first.first h c.in_ok-first.ensures.first c.in_ok-first.ensures.none
