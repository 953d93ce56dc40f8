use Rattle.std.proofs.Common.{ℕ, ◌-◌, length}
use Rattle.canbusd_c.specs.Locals.{AreLocalTries}
use Rattle.canbusd_c.proofs.local_bus.LocalBus.make_due.Given as goal

abbrev pub invariant-loop-moment : goal.invariant-loop-moment
invariant-loop-moment l = (count : ℕ) × AreLocalTries l.fn.moment count l.fn.self l.self

abbrev pub decreases-loop-moment : goal.decreases-loop-moment
decreases-loop-moment l = l.self.bus.journal.config.limit - length l.self.bus.journal.history
