use Rattle.std.proofs.Common.{length, arith}
use Rattle.std.proofs.lemmas.List.{take_all}
use Rattle.can_replay.proofs.changed.all_sockets.Goals as goal

pub returns-clause-queued : goal.returns-clause-queued
returns-clause-queued c = take_all (length c.args.before.now) c.args.before.now (omega arith)

pub returns-clause-refused : goal.returns-clause-refused
returns-clause-refused c = take_all (length c.args.before.now) c.args.before.now (omega arith)
