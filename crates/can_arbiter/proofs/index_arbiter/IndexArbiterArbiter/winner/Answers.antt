use Rattle.std.proofs.Common.{rules}
use Rattle.can_arbiter.proofs.Ranking.{answers_first, answers_some, answers_none}
use Rattle.can_arbiter.proofs.index_arbiter.IndexArbiterArbiter.winner.Goals as goal

pub returns-in_err-first-clause-none : goal.returns-in_err-first-clause-none
returns-in_err-first-clause-none c = (λ none. answers_none _ (search rules), λ idle. search rules)

pub returns-clause-first : goal.returns-clause-first
returns-clause-first c = answers_first c.args.self.now.row.items c.in_ok-first.first.now c.new.result c.args.self.now.in_order (search rules) c.new.ensures

pub returns-clause-none : goal.returns-clause-none
returns-clause-none c = answers_some c.args.self.now.row.items c.in_ok-first.first.now c.new.result (search rules) c.new.ensures
