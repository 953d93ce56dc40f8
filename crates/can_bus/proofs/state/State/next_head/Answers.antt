use Rattle.std.proofs.Common.{subst, sym, refl, arith}
use Rattle.can_bus.specs.Heads.{IsNext}
use Rattle.can_bus.specs.State.{Parts}
use Rattle.can_bus.proofs.Reading.{winner-ready, interface-at, heads-there}
use Rattle.can_bus.proofs.state.State.next_head.Goals as goal

pub index-interface-requires : goal.index-interface-requires
index-interface-requires g c = omega (arith, (winner-ready _ _ _ c.self.view_is c.requires c.in_ok-winner.ensures.first).there, c.number.ensures.number)

pub returns-in_err-pending : goal.returns-in_err-pending
returns-in_err-pending g c =
    let ready = winner-ready _ _ _ c.self.view_is c.requires c.in_ok-winner.ensures.first in
    absurd (heads-there _ _ _ ready (interface-at _ _ _ _ c.number.ensures.number ready c.index-interface.ensures) c.in_err-pending.ensures)

pub returns : goal.returns
returns g c =
    let ready = winner-ready _ _ _ c.self.view_is c.requires c.in_ok-winner.ensures.first in
    subst (λ (p : Parts). IsNext p (c.in_ok-winner.winner, c.in_ok-pending.pending.frame)) c.self.view_is (record {
      interface = c.index-interface.result.now;
      pending = c.in_ok-pending.pending;
      wins = c.in_ok-winner.ensures.first;
      there = interface-at _ _ _ _ c.number.ensures.number ready c.index-interface.ensures;
      oldest = sym c.in_ok-pending.ensures;
      frame = refl;
    })
