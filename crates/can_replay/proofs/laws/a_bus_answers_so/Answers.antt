use Rattle.can_replay.proofs.Answering.{answers_all}
use Rattle.can_replay.proofs.laws.a_bus_answers_so.Goals as goal

pub returns : goal.returns
returns c = answers_all c.args.config
