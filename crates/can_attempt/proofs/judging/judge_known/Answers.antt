use Rattle.can_attempt.proofs.judging.judge_known.Goals as goal

pub returns-then-is_fault_free : goal.returns-then-is_fault_free
returns-then-is_fault_free c = c.judge_fault_free.ensures c.args.verdict c.args.ack (c.requires.calm c.if-is_fault_free.true)
