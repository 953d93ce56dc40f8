use Rattle.std.specs.Prelude.{ℕ, ◌-◌, Bool, true, false, List, ◌∷◌, length, drop}
use Rattle.can_event.specs.declared.bus_config.BusConfig.{BusConfig}
use Rattle.can_event.specs.declared.entry.Entry.{Entry}
use Rattle.can_event.specs.declared.event.Event.{Event}
use Rattle.can_event.specs.declared.event.Event.TheVariants.{Attempt, Restart, Down}
use Rattle.can_event.specs.declared.received.Received.{Received}
use Rattle.can_bus.specs.Queues.{queued_to, dropped_at}
use Rattle.can_bus.specs.Transmit.{lost_count}

-- The effects of an entry of a bus's record. The history before the entry is `past`, with the newest entry first. The
-- history after the entry is `e ∷ past`.

-- The event is an attempt, a restart or a down. Only these events can queue items on a socket, lose a waiting frame, or
-- change an error count.
abbrev pub is_step : Event → Bool
is_step (Attempt m v) = true
is_step (Restart i m) = true
is_step (Down i m) = true
is_step _ = false

-- The items that the entry queued on socket s, in the order of the queue.
abbrev pub put_to : BusConfig → List Entry → Entry → ℕ → List Received
put_to c past e s = drop (length (queued_to c past s)) (queued_to c (e ∷ past) s)

-- How many of the entry's items were dropped because socket s had no room.
abbrev pub dropped_by : BusConfig → List Entry → Entry → ℕ → ℕ
dropped_by c past e s = length (dropped_at c (e ∷ past) s) - length (dropped_at c past s)

-- How many frames of interface i were lost because the entry made the interface go bus off or down.
abbrev pub lost_by : List Entry → Entry → ℕ → ℕ
lost_by past e i = lost_count (e ∷ past) i - lost_count past i
