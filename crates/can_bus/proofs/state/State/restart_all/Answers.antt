use Rattle.std.proofs.Common.{◌+◌, ◌^◌, ◌<◌, All, sym, subst, arith}
use Rattle.can_bus.specs.State.{SocketState, Parts}
use Rattle.can_bus.proofs.Between.{none-restarted}
use Rattle.can_bus.proofs.state.State.restart_all.Goals as goal

pub returns-then-is_empty : goal.returns-then-is_empty
returns-then-is_empty g c = none-restarted c.args.self.now c.args.restarted c.args.moment (grind (arith, c.is_empty.ensures, c.if-is_empty.true)) c.requires.sixteen

pub post_restarts-requires : goal.post_restarts-requires
post_restarts-requires g c =
    let dropped = subst (λ (p : Parts). All (λ (v : SocketState). v.dropped + 1 < 2 ^ 64) p.sockets) (sym c.self.view_is) c.requires.dropped in
    subst (All (λ (v : SocketState). v.dropped + 1 < 2 ^ 64)) (sym c.deref_mut.ensures.value) dropped
