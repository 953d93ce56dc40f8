use Rattle.std.proofs.Common.{sym, ◌∙◌, arith}
use Rattle.can_session.proofs.Heard.{last_decides, last_leaves}
use Rattle.can_session.proofs.ignored_input.is_begun_after.Goals as goal

pub returns-in-60 : goal.returns-in-60
returns-in-60 c = sym (last_decides c.args.was_begun c.loop-rest.rest.now 60 c.in-len1-up.len_at_least c.in-60.is) ∙ c.loop-rest.invariant

pub returns-in-62 : goal.returns-in-62
returns-in-62 c = sym (last_decides c.args.was_begun c.loop-rest.rest.now 62 c.in-len1-up.len_at_least c.in-62.is) ∙ c.loop-rest.invariant

pub loop-rest-preserved : goal.loop-rest-preserved
loop-rest-preserved c = last_leaves c.args.was_begun c.loop-rest.rest.now c.in-len1-up.len_at_least (omega arith) (omega arith) ∙ c.loop-rest.invariant
