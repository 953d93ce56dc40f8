use Rattle.std.proofs.Common.{ap, sym, ◌∙◌, rules}
use Rattle.can_event.specs.declared.reply.Reply.TheVariants as reply
use Rattle.can_station.specs.Held.{StationSeen}
use Rattle.can_station.specs.Passes.{PassSeen, ReportsReply, calls_listed, next_attempt, pass_after, pass_seen}
use Rattle.can_station.proofs.Listing.{seen_after}
use Rattle.can_station.proofs.Stepping.{stepped}
use Rattle.can_station.proofs.station.Station.step.Goals as goal

pub returns : goal.returns
returns g c =
    let reports : ReportsReply (λ x. reply.Attempted x) c.map_err.result c.in-Some.reply = search rules in
    stepped g.F.FaultSource.verdicts c.lock-hold.result _ _ c.args.moment _ c.lock-hold.ensures
    (sym (ap (λ (p : PassSeen). p.number) c.pass.view_is) ∙ cc (c.number.ensures, c.if-self-number.false, ap (λ (s : StationSeen). s.number) c.self.view_is))
    c.map_err.result c.in-Some.reply reports c.in-Some.ensures.carried.answer
    (seen_after _ _ (calls_listed c.make_ready.new.calls) _ (next_attempt g.F.FaultSource.verdicts c.lock-hold.result c.args.moment) c.in-Some.reply c.in-Some.ensures.carried.noted c.in-Some.ensures.calls
    ∙ ap (pass_after (next_attempt g.F.FaultSource.verdicts c.lock-hold.result c.args.moment) c.in-Some.reply) (ap (pass_seen c.pass.inside.slip) c.make_ready.ensures.same ∙ c.pass.view_is))
