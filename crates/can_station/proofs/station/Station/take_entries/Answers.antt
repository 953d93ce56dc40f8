use Rattle.std.proofs.Common.{sym, subst}
use Rattle.can_station.specs.Held.{Held}
use Rattle.can_station.specs.Passes.{IsStateOf}
use Rattle.can_station.proofs.station.Station.take_entries.Goals as goal

pub returns-clause-taken : goal.returns-clause-taken
returns-clause-taken g c = (
  c.deref_mut.result.now,
  subst (λ (h : Held g.row.F.Denot). IsStateOf c.args.self.now h) (sym c.deref_mut.ensures.value) c.hold.ensures,
  record {
    entries = c.take_entries.ensures.taken;
    after = c.take_entries.new.self;
    changes = c.take_entries.ensures.changes;
  },
)
