use Rattle.std.proofs.Common.{ℕ, List, Option, IfSome, IsNone, ap, ◌∙◌, subst}
use Rattle.can_arbiter.specs.Keys.{IsWinner, IsIdle}
use Rattle.can_bus.specs.Attempts.{winner}
use Rattle.can_record.specs.Journal.{Journal}
use Rattle.can_bus.specs.State.{Parts}
use Rattle.can_bus.proofs.Winning.{answered-is}
use Rattle.can_bus.proofs.bus.Bus.next_winner.Goals as goal

pub returns : goal.returns
returns g c =
    let keys = ap (λ (q : Parts). q.keys) c.self.invariant.of_parts in
    answered-is c.self.inside.record.config c.self.inside.record.history c.self.invariant.legal c.self.invariant.proper.few_ifaces c.winner.result
    (subst (λ (ks : List (Option ℕ)). IfSome c.winner.result (IsWinner ks)) keys c.winner.ensures.first)
    (subst (λ (ks : List (Option ℕ)). IsNone c.winner.result → IsIdle ks) keys c.winner.ensures.none.0)
    ∙ ap (λ (j : Journal). winner j.config j.history) c.self.view_is
