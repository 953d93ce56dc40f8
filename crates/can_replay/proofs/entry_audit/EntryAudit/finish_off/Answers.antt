use Rattle.std.proofs.Common.{inr}
use Rattle.can_replay.proofs.Ending.{cut_legal, cut_wrong, off_at}
use Rattle.can_replay.proofs.entry_audit.EntryAudit.finish_off.Goals as goal

pub returns-in-None-clause-found : goal.returns-in-None-clause-found
returns-in-None-clause-found c = λ text g torn. cut_legal text c.args.torn.now c.args.self g c.requires torn c.in-None.is

pub returns-in-None-clause-reached : goal.returns-in-None-clause-reached
returns-in-None-clause-reached c = λ text g torn. off_at text c.args.torn.now c.args.self g c.requires torn c.in-None.is

pub returns-clause-found : goal.returns-clause-found
returns-clause-found c = λ text g torn. inr (cut_wrong text c.args.torn.now c.args.self c.in-Some.first g c.requires torn c.in-Some.is)
