use Rattle.std.proofs.Common.{◌≡◌, ◌+◌, ◌<◌, ◌^◌, true, [], ◌∷◌, ◌++◌, sym, ap, ◌∙◌, refl, arith}
use Rattle.can_filter.specs.declared.options.Options.{Options}
use Rattle.can_confine.specs.Confinement.{ErrorCounts, state_of, is_down, is_off}
use Rattle.can_attempt.specs.Attempts.{counts_at}
use Rattle.can_bus.specs.Changes.{pending_of}
use Rattle.can_bus.specs.State.{InterfaceState}
use Rattle.can_bus.proofs.Reading.{found-at, fd-off-for, off-for, down-for, live-there, on-interface, of-interface, interface-of, found_full, took}
use Rattle.can_bus.proofs.state.State.send.Goals as goal

pub returns-then-lacks_fd : goal.returns-then-lacks_fd
returns-then-lacks_fd g c =
    let is_at = found-at _ _ _ _ _ c.deref.ensures.value c.in-Some.ensures.within c.in-Some.ensures.found c.index-socket.ensures in
    (fd-off-for _ _ _ _ (pending_of c.args.frame c.args.id) _ c.self.view_is is_at (sym c.lacks_fd.ensures ∙ c.if-lacks_fd.true), refl)

pub returns-in-Off : goal.returns-in-Off
returns-in-Off g c =
    let is_at = found-at _ _ _ _ _ c.deref.ensures.value c.in-Some.ensures.within c.in-Some.ensures.found c.index-socket.ensures in
    let off : is_off (state_of (counts_at c.self.inside.nodes c.iface-iface.result)) ≡ true = ap (λ (k : ErrorCounts). is_off (state_of k)) (sym c.counters_of.ensures) ∙ ap is_off (sym c.state.ensures ∙ c.in-Off.is) in
    (off-for _ _ _ _ _ (pending_of c.args.frame c.args.id) _ c.self.view_is is_at c.iface-iface.ensures (sym c.lacks_fd.ensures ∙ c.if-lacks_fd.false) off, refl)

pub returns-in-Down : goal.returns-in-Down
returns-in-Down g c =
    let is_at = found-at _ _ _ _ _ c.deref.ensures.value c.in-Some.ensures.within c.in-Some.ensures.found c.index-socket.ensures in
    let down : is_down (state_of (counts_at c.self.inside.nodes c.iface-iface.result)) ≡ true = ap (λ (k : ErrorCounts). is_down (state_of k)) (sym c.counters_of.ensures) ∙ ap is_down (sym c.state.ensures ∙ c.in-Down.is) in
    (down-for _ _ _ _ _ (pending_of c.args.frame c.args.id) _ c.self.view_is is_at c.iface-iface.ensures (sym c.lacks_fd.ensures ∙ c.if-lacks_fd.false) down, refl)

pub index_mut-interface-requires : goal.index_mut-interface-requires
index_mut-interface-requires g c =
    let within = on-interface _ _ _ _ _ _ _ c.self.view_is c.requires.known c.deref.ensures.value c.in-Some.ensures.within c.index-socket.ensures c.number.ensures.number c.iface-iface.ensures in
    omega (arith, within)

pub send-requires-clause-sent : goal.send-requires-clause-sent
send-requires-clause-sent g c =
    let within = on-interface _ _ _ _ _ _ _ c.self.view_is c.requires.known c.deref.ensures.value c.in-Some.ensures.within c.index-socket.ensures c.number.ensures.number c.iface-iface.ensures in
    of-interface (λ (l : InterfaceState). l.sent + 1 < 2 ^ 64) _ _ _ _ c.self.view_is c.requires.sent within c.index_mut-interface.ensures.value

pub send-requires-clause-refused : goal.send-requires-clause-refused
send-requires-clause-refused g c =
    let within = on-interface _ _ _ _ _ _ _ c.self.view_is c.requires.known c.deref.ensures.value c.in-Some.ensures.within c.index-socket.ensures c.number.ensures.number c.iface-iface.ensures in
    of-interface (λ (l : InterfaceState). l.refused + 1 < 2 ^ 64) _ _ _ _ c.self.view_is c.requires.refused within c.index_mut-interface.ensures.value

pub returns-in_default-send : goal.returns-in_default-send
returns-in_default-send g c =
    let is_at = found-at _ _ _ _ _ c.deref.ensures.value c.in-Some.ensures.within c.in-Some.ensures.found c.index-socket.ensures in
    let within = on-interface _ _ _ _ _ _ _ c.self.view_is c.requires.known c.deref.ensures.value c.in-Some.ensures.within c.index-socket.ensures c.number.ensures.number c.iface-iface.ensures in
    let is_interface = interface-of _ _ _ _ _ _ _ is_at c.number.ensures.number c.iface-iface.ensures within c.index_mut-interface.ensures.value in
    let full = c.in_default-send.ensures.full in
    found_full _ _ _ _ _ (pending_of c.args.frame c.args.id) _ _ _ c.self.view_is is_interface c.number.ensures.number c.iface-iface.ensures (sym c.lacks_fd.ensures ∙ c.if-lacks_fd.false) (live-there c.self.inside.nodes c.iface-iface.result _ _ c.counters_of.ensures c.state.ensures c.in-Active.is) full.0 full.1

pub returns : goal.returns
returns g c =
    let l = c.index_mut-interface.result.now in
    let is_at = found-at _ _ _ _ _ c.deref.ensures.value c.in-Some.ensures.within c.in-Some.ensures.found c.index-socket.ensures in
    let within = on-interface _ _ _ _ _ _ _ c.self.view_is c.requires.known c.deref.ensures.value c.in-Some.ensures.within c.index-socket.ensures c.number.ensures.number c.iface-iface.ensures in
    let is_interface = interface-of _ _ _ _ _ _ _ is_at c.number.ensures.number c.iface-iface.ensures within c.index_mut-interface.ensures.value in
    let sent = c.in-Some-send.ensures.sent in
    let taken : c.send.new.self ≡ record l { waiting = l.waiting ++ pending_of c.args.frame c.args.id c.index-socket.result.now ∷ []; sent = l.sent + 1 } =
    sent.2 ∙ ap (λ (o : Options). record l { waiting = l.waiting ++ record { frame = c.args.frame; socket = c.args.id; loopback = o.loopback } ∷ []; sent = l.sent + 1 }) c.options.ensures in
    took _ _ _ _ _ _ (pending_of c.args.frame c.args.id) _ _ _ _ _ c.self.view_is is_interface c.number.ensures.number c.iface-iface.ensures
    (sym c.lacks_fd.ensures ∙ c.if-lacks_fd.false) (live-there c.self.inside.nodes c.iface-iface.result _ _ c.counters_of.ensures c.state.ensures c.in-Active.is) sent.1 sent.0 taken c.head_key-key.ensures c.set_key.ensures
