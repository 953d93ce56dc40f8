use Rattle.canbusd_c.proofs.Runs.{tried_by}
use Rattle.canbusd_c.proofs.local_bus.LocalBus.attempt.Goals as goal

pub returns : goal.returns
returns c =
    tried_by c.args.self.now c.next_verdict-verdict.new.self c.try_head-outcome.new.self c.pass.new.self c.waits_in_time-waits.result
    c.next_moment-moment.result c.next_verdict-verdict.result c.try_head-outcome.result c.waits_in_time-waits.ensures c.next_moment-moment.ensures
    c.next_verdict-verdict.ensures.verdict c.next_verdict-verdict.ensures.after c.try_head-outcome.ensures c.pass.ensures
