use Rattle.std.specs.Prelude.{ℕ, ◌+◌, nat_lt, List, [], ◌∷◌, ◌++◌, length, map, if◌then◌else◌}
use Rattle.can_event.specs.declared.bus_config.BusConfig.{BusConfig}
use Rattle.can_event.specs.declared.entry.Entry.{Entry}
use Rattle.can_event.specs.declared.received.Received.{Received}
use Rattle.can_bus.specs.Queues.{candidates_of, taken_from}

-- The items offered to a socket that find room, item by item.

-- An item offered to a socket, and the number of items taken from the socket before.
pub record Offer : Type 0 where
  pub item : Received
  pub taken : ℕ

-- The item, offered after this many items were taken.
abbrev pub offer_after : ℕ → Received → Offer
offer_after taken r = record { item = r; taken = taken }

-- All items offered to socket s, in order.
abbrev pub offers_to : BusConfig → List Entry → ℕ → List Offer
offers_to c [] s = []
offers_to c (e ∷ past) s =
    offers_to c past s ++ map (offer_after (length (taken_from past s))) (candidates_of c past s e.event e.reply)

-- The items that find room, after n items found room. An item finds room if fewer items found room before it than the
-- capacity plus the items taken by then.
abbrev pub with_room : ℕ → ℕ → List Offer → List Received
with_room capacity n [] = []
with_room capacity n (o ∷ os) =
    if nat_lt n (capacity + o.taken) then o.item ∷ with_room capacity (n + 1) os else with_room capacity n os

-- The items that find no room, after n items found room.
abbrev pub without_room : ℕ → ℕ → List Offer → List Received
without_room capacity n [] = []
without_room capacity n (o ∷ os) =
    if nat_lt n (capacity + o.taken) then without_room capacity (n + 1) os else o.item ∷ without_room capacity n os
