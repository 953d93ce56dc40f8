use Rattle.std.proofs.Common.{ℕ, List, Option, IfSome, IsNone, ap, subst}
use Rattle.can_arbiter.specs.Keys.{IsWinner, IsIdle}
use Rattle.can_bus.specs.State.{Parts}
use Rattle.can_bus.proofs.Winning.{answered-is}
use Rattle.can_bus.proofs.journaled.Journaled.next_winner.Goals as goal

pub returns : goal.returns
returns g c =
    let kept = c.state.ensures in
    let keys = ap (λ (q : Parts). q.keys) kept.of_parts in
    answered-is _ _ kept.legal kept.proper.few_ifaces c.winner.result
    (subst (λ (ks : List (Option ℕ)). IfSome c.winner.result (IsWinner ks)) keys c.winner.ensures.first)
    (subst (λ (ks : List (Option ℕ)). IsNone c.winner.result → IsIdle ks) keys c.winner.ensures.none.0)
