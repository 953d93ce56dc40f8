use Rattle.std.specs.Prelude.{ℕ, List, Vec, Result}
use Rattle.can_event.specs.declared.bus_config.BusConfig.{BusConfig}
use Rattle.can_event.specs.declared.entry.Entry.{Entry}
use Rattle.can_event.specs.declared.received.Received.{Received}
use Rattle.can_bus.specs.Posts.{Post, posts_of}
use Rattle.can_bus.specs.Queues.{candidates_of}
use Rattle.can_audit.specs.Histories.{BeforeEntry, ReturnsList}

-- The items that an entry posts, if a bus can have this entry after the entries before it (own choice).

-- the call returned the items that the entry posts at an interface
abbrev pub ReturnsPosts : {G E : Type 0} → BusConfig → List Entry → ℕ → Entry → Result (Vec Post G) E → Type 0
ReturnsPosts c entries iface e result =
    BeforeEntry c entries e (λ past. ReturnsList result (posts_of c past iface e.event e.reply))

-- the call returned the items that the entry offers to socket s
abbrev pub ReturnsCandidates : {G E : Type 0} → BusConfig → List Entry → ℕ → Entry → Result (Vec Received G) E → Type 0
ReturnsCandidates c entries s e result =
    BeforeEntry c entries e (λ past. ReturnsList result (candidates_of c past s e.event e.reply))
