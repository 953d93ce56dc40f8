use Rattle.std.proofs.Common.{rules}
use Rattle.arrayvec.proofs.ArrayVecLemmas.{filter-from_retain}
use Rattle.can_arbiter.proofs.Ranking.{is_others, clears, keeps_order}
use Rattle.can_arbiter.proofs.index_arbiter.IndexArbiterArbiter.clear.Goals as goal

pub invariant_of-self : goal.invariant_of-self
invariant_of-self c = record { in_order = keeps_order _ _ c.args.iface (filter-from_retain _ (is_others c.args.iface) _ (λ x b f' y called. search rules) _ _ c.retain.ensures.filtered) c.args.self.now.in_order }

pub returns : goal.returns
returns c = clears _ _ c.args.iface (search rules) (filter-from_retain _ (is_others c.args.iface) _ (λ x b f' y called. search rules) _ _ c.retain.ensures.filtered)
