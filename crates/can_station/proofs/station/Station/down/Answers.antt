use Rattle.std.proofs.Common.{rules}
use Rattle.can_record.specs.Outcomes.{done_reply}
use Rattle.can_event.specs.declared.event.Event.TheVariants as event
use Rattle.can_station.specs.Passes.{ReportsReply}
use Rattle.can_station.proofs.Answering.{answered}
use Rattle.can_station.proofs.station.Station.down.Goals as goal

pub returns-clause-answered : goal.returns-clause-answered
returns-clause-answered g c =
    let reports : ReportsReply done_reply c.map_err.result c.in_ok-call.field-0 = search rules in
    answered g.row.F.Denot done_reply c.args.self.now (event.Down c.args.iface c.args.moment) _ c.map_err.result reports c.in_ok-call.ensures.answered
