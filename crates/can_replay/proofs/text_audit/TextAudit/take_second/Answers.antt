use Rattle.can_replay.proofs.EventLines.{begins}
use Rattle.can_replay.proofs.text_audit.TextAudit.take_second.Goals as goal

pub returns-clause-taken : goal.returns-clause-taken
returns-clause-taken c = λ is. (c.in_ok-audit.ensures.taken is).going

pub returns-clause-written : goal.returns-clause-written
returns-clause-written c = λ is w cleared complete wanted.
    begins w c.args.version c.args.line.now cleared c.in_ok-audit.audit c.begin_events.new.events (c.in_ok-audit.ensures.taken is) (c.in_ok-begin_events.ensures.begun cleared complete) (c.begin_events.ensures.wanted w wanted)
