use Rattle.std.proofs.Common.{◌+◌, ◌^◌, ◌<◌, Some, None, All, refl, sym, subst}
use Rattle.can_bus.specs.Changes.{AreReady}
use Rattle.can_bus.specs.State.{InterfaceState, SocketState, Parts}
use Rattle.can_bus.proofs.Between.{came, fewer_three, ready_left, small_between}
use Rattle.can_bus.proofs.state.State.attempt.Goals as goal

pub try_head-tried-requires-clause-ready : goal.try_head-tried-requires-clause-ready
try_head-tried-requires-clause-ready g c = ready_left _ c.count-restarted.new.self (subst AreReady (sym c.self.view_is) c.requires.ready)

pub try_head-tried-requires-clause-gone : goal.try_head-tried-requires-clause-gone
try_head-tried-requires-clause-gone g c = subst (λ (p : Parts). All (λ (l : InterfaceState). l.gone + 1 < 2 ^ 64) p.interfaces) (sym c.self.view_is) c.requires.gone

pub try_head-tried-requires-clause-done : goal.try_head-tried-requires-clause-done
try_head-tried-requires-clause-done g c = subst (λ (p : Parts). All (λ (l : InterfaceState). l.done + 1 < 2 ^ 64) p.interfaces) (sym c.self.view_is) c.requires.done

pub try_head-tried-requires-clause-dropped : goal.try_head-tried-requires-clause-dropped
try_head-tried-requires-clause-dropped g c = fewer_three _ (subst (λ (p : Parts). All (λ (v : SocketState). v.dropped + 4 < 2 ^ 64) p.sockets) (sym c.self.view_is) c.requires.dropped)

pub restart_all-requires-clause-dropped : goal.restart_all-requires-clause-dropped
restart_all-requires-clause-dropped g c =
    small_between _ _ c.args.config c.args.moment c.args.verdict _ _ c.try_head-tried.ensures
    (subst (λ (p : Parts). All (λ (v : SocketState). v.dropped + 4 < 2 ^ 64) p.sockets) (sym c.self.view_is) c.requires.dropped)

pub returns-in-Some : goal.returns-in-Some
returns-in-Some g c = came _ c.args.self.now c.args.config c.args.moment c.args.verdict _ _ (Some c.in-Some.tried) _ _ _ c.self.view_is c.count-restarted.ensures.rest c.count-restarted.ensures.due c.in-Some.ensures refl c.restart_all.ensures

pub returns-in-None : goal.returns-in-None
returns-in-None g c = came _ c.args.self.now c.args.config c.args.moment c.args.verdict _ _ None _ _ _ c.self.view_is c.count-restarted.ensures.rest c.count-restarted.ensures.due c.in-None.ensures refl c.restart_all.ensures
