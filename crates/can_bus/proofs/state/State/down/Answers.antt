use Rattle.std.proofs.Common.{◌≡◌, ℕ, ◌<◌, ◌≤◌, length, slice_get, slice_set, slice_index_or, Some, sym, ap, ◌∙◌, refl, subst, arith}
use Rattle.std.proofs.lemmas.Option.{slice_get-get_or}
use Rattle.can_confine.specs.Confinement.{ErrorCounts, stepped}
use Rattle.can_confine.specs.Confinement.Step.{TakenDown}
use Rattle.can_bus.specs.Changes.{GoesDown, after_down}
use Rattle.can_bus.specs.State.{InterfaceState, Parts, fresh_interface}
use Rattle.can_bus.proofs.Keeping.{parts-are}
use Rattle.can_bus.proofs.state.State.down.Goals as goal

pub returns : goal.returns
returns g c =
    let p : Parts = record { interfaces = c.self.inside.interfaces.items; keys = g.A.Arbiter.keys_of c.self.inside.arbiter; nodes = c.self.inside.nodes; left = c.self.inside.countdown; sockets = c.self.inside.sockets.items; opened = c.self.inside.opened; tried = c.self.inside.tried } in
    let i = c.args.iface in
    let counters = slice_set p.nodes.counters c.number-place.result c.take_down.result in
    let new : Parts = record { interfaces = c.lose_all.new.interfaces.items; keys = g.A.Arbiter.keys_of c.lose_all.new.arbiter; nodes = record p.nodes { counters = counters }; left = c.stop.new.self; sockets = p.sockets; opened = p.opened; tried = p.tried } in
    let few : p.nodes.count ≤ length p.interfaces = subst (λ (o : Parts). o.nodes.count ≤ length o.interfaces) (sym c.self.view_is) c.requires in
    let counted : i < p.nodes.count = omega (arith, c.if-place-self.false, c.number-place.ensures.number) in
    let l : InterfaceState = slice_index_or p.interfaces i (fresh_interface 0) in
    let there : slice_get p.interfaces i ≡ Some l = slice_get-get_or p.interfaces i (fresh_interface 0) (omega (arith, few, counted)) in
    subst (λ (o : Parts). GoesDown o i new) c.self.view_is
    (record {
      interface = l;
      counted = counted;
      there = there;
      after = parts-are new (after_down p i l)
          (c.lose_all.ensures.interfaces l there)
          c.lose_all.ensures.keys
          (ap (λ (n : ℕ). record p.nodes { counters = slice_set p.nodes.counters n c.take_down.result }) c.number-place.ensures.number
          ∙ ap (λ (k : ErrorCounts). record p.nodes { counters = slice_set p.nodes.counters i k }) (c.take_down.ensures ∙ ap (λ (k : ErrorCounts). stepped k TakenDown) c.counters_of.ensures))
          c.stop.ensures refl refl refl;
    })
