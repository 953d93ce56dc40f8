use Rattle.std.specs.Prelude.{◌≡◌, ℕ, ◌+◌, ◌-◌, List, length}
use Rattle.can_event.specs.declared.entry.Entry.{Entry}
use Rattle.can_bus.specs.Queues.{taken_from}
use Rattle.can_bus.specs.Sockets.{capacity_of, open_after, places_after}
use Rattle.can_audit.specs.declared.sockets.Sockets.{Sockets}

-- The effect of an entry on the sockets, and the free space in a socket's queue (own choice).

-- the sockets opened so far, and the numbers of those that are open, after one more entry
pub record IsNoted (e : Entry) (old new : Sockets) : Type 0 where
  pub places : new.places.items ≡ places_after e.event e.reply old.places.items
  pub numbers : new.numbers.items ≡ open_after (length old.places.items) e.event e.reply old.numbers.items

-- how many more items can be queued on socket s after `queued` items were queued
abbrev pub room_after : List Entry → ℕ → ℕ → ℕ
room_after past s queued = capacity_of past s + length (taken_from past s) - queued
