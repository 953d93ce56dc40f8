use Rattle.can_replay.proofs.entry_audit.EntryAudit.finish_cut.Goals as goal

pub returns-then-self-clause-reached : goal.returns-then-self-clause-reached
returns-then-self-clause-reached c = λ text g torn. c.finish_whole.ensures.reached text g
