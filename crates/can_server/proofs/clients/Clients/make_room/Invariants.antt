use Rattle.std.proofs.Common.{◌≡◌, option_map}
use Rattle.can_server.specs.Clients.{asked_for_room}
use Rattle.can_server.proofs.Rooms.{map_first}
use Rattle.can_server.proofs.clients.Clients.make_room.Given as goal

abbrev pub invariant-loop-place : goal.invariant-loop-place
invariant-loop-place l = record {
  places : l.self-inside.places.items ≡ map_first (option_map (asked_for_room l.now)) l.place l.fn.self.places;
  closed : l.self-inside.is_closed ≡ l.fn.self.is_closed;
}
