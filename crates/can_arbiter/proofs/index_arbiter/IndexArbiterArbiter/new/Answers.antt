use Rattle.std.proofs.Common.{ap, ◌∙◌}
use Rattle.can_arbiter.specs.Ranks.{keys_in}
use Rattle.can_arbiter.proofs.Ranking.{no_keys-empty}
use Rattle.can_arbiter.proofs.index_arbiter.IndexArbiterArbiter.new.Goals as goal

pub returns : goal.returns
returns c = ap keys_in c.new.ensures ∙ no_keys-empty
