use Rattle.std.proofs.Common.{length, arith, ap}
use Rattle.can_bus.specs.Long.{LongJournal}
use Rattle.can_bus.proofs.Bounds.{legal-short}
use Rattle.can_bus.proofs.long_bus.LongEnd.len.Goals as goal

pub overflow_add-result : goal.overflow_add-result
overflow_add-result c =
    let end = c.self.invariant in
    omega (arith, end.holds.counted, legal-short c.self.inside.config c.self.inside.history end.legal, end.proper.few_entries, c.len.ensures)

pub returns : goal.returns
returns c = omega (arith, c.self.invariant.holds.counted, c.len.ensures, ap (λ (j : LongJournal). length j.history) c.self.view_is)
