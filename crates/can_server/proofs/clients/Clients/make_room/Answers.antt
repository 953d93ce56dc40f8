use Rattle.std.proofs.Common.{◌∙◌, length, option_map, ap, arith, rules}
use Rattle.can_server.specs.Clients.{ClientsSeen, asked_for_room}
use Rattle.can_server.proofs.Rooms.{map_next, map_all, seen_as}
use Rattle.can_server.proofs.clients.Clients.make_room.Goals as goal

pub loop-place-preserved : goal.loop-place-preserved
loop-place-preserved c = record {
  places = map_next (option_map (asked_for_room c.args.now)) c.loop-place.place c.args.self.now.places c.loop-place.self-inside.places.items c.index_mut.result.now c.ask_for_room.new.place c.loop-place.invariant.places (let seen = ap (λ (g : ClientsSeen). length g.places) c.self.view_is in omega (arith, seen)) (search rules) c.ask_for_room.ensures;
  closed = c.loop-place.invariant.closed;
}

pub returns-clause-clients : goal.returns-clause-clients
returns-clause-clients c =
    let seen = ap (λ (g : ClientsSeen). length g.places) c.self.view_is in
    seen_as _ _ _ _ (c.loop-place.invariant.places ∙ map_all (option_map (asked_for_room c.args.now)) c.loop-place.place c.args.self.now.places (omega (arith, seen))) c.loop-place.invariant.closed
