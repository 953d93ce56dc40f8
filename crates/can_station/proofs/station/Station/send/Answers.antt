use Rattle.std.proofs.Common.{rules}
use Rattle.can_event.specs.declared.event.Event.TheVariants as event
use Rattle.can_event.specs.declared.reply.Reply.TheVariants as reply
use Rattle.can_station.specs.Passes.{ReportsReply}
use Rattle.can_station.proofs.Answering.{answered}
use Rattle.can_station.proofs.station.Station.send.Goals as goal

pub returns-clause-answered : goal.returns-clause-answered
returns-clause-answered g c =
    let reports : ReportsReply (λ x. reply.Sent x) c.map_err.result c.in_ok-call.field-0 = search rules in
    answered g.row.F.Denot (λ x. reply.Sent x) c.args.self.now (event.Send c.args.socket c.args.frame) _ c.map_err.result reports c.in_ok-call.ensures.answered
