use Rattle.std.proofs.Common.{◌≡◌, Option, None, replicate}
use Rattle.can_dialog.specs.Sessions.{SessionState}
use Rattle.can_session.proofs.bench_start.no_sessions.Given as goal

abbrev pub invariant-loop : goal.invariant-loop
invariant-loop l = l.sessions.items ≡ replicate {A = Option SessionState} l.counter None
