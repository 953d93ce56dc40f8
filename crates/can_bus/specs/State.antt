use Rattle.std.specs.Prelude.{◌≡◌, ℕ, ◌+◌, ◌-◌, ◌≤◌, List, [], ◌++◌, length, map, take, drop, Option}
use Rattle.std.specs.List.{range_with_len}
use Rattle.std.specs.Option.{option_map}
use Rattle.can_filter.specs.Filters.{CanFilter}
use Rattle.can_filter.specs.declared.options.Options.{Options}
use Rattle.can_frame.specs.Arbitration.{key_of}
use Rattle.can_attempt.specs.declared.nodes.Nodes.{Nodes}
use Rattle.can_event.specs.declared.entry.Entry.{Entry}
use Rattle.can_event.specs.declared.received.Received.{Received}
use Rattle.can_event.specs.declared.pending.Pending.{Pending}
use Rattle.can_event.specs.declared.bus_config.BusConfig.{BusConfig}
use Rattle.can_record.specs.Journal.{Kept}
use Rattle.can_event.specs.Events.{IsLongConfig}
use Rattle.can_bus.specs.Sockets.{places, open_sockets, iface_of, capacity_of, filters_of, options_of}
use Rattle.can_bus.specs.Transmit.{sent_by, gone_count, done_count, refused_count, head_of}
use Rattle.can_record.specs.Tapes.{tape}
use Rattle.can_bus.specs.Counters.{counts_of}
use Rattle.can_bus.specs.AutoRestart.{attempts_left}
use Rattle.can_bus.specs.Posts.{Post}
use Rattle.can_bus.specs.Queues.{queued_to, taken_from, dropped_at, passing}
use Rattle.can_bus.specs.Legal.{IsLegal}

-- The state that a bus keeps for fast calls, and its relation to the history.

-- The state of an interface.
pub record InterfaceState : Type 0 where
  pub waiting : List Pending
  pub room : ℕ
  pub sent : ℕ
  pub gone : ℕ
  pub done : ℕ
  pub refused : ℕ

-- An interface of a new bus (own choice).
abbrev pub fresh_interface : ℕ → InterfaceState
fresh_interface capacity = record { waiting = []; room = capacity; sent = 0; gone = 0; done = 0; refused = 0 }

-- The state of an open socket.
pub record SocketState : Type 0 where
  pub number : ℕ
  pub iface : ℕ
  pub capacity : ℕ
  pub filters : List CanFilter
  pub options : Options
  pub waiting : List Received
  pub taken : ℕ
  pub dropped : ℕ

-- The socket after these items arrive: items that fit wait, and the others are counted as dropped.
abbrev pub filled : SocketState → List Received → SocketState
filled v rs = record v {
  waiting = v.waiting ++ take (v.capacity - length v.waiting) rs;
  dropped = v.dropped + length (drop (v.capacity - length v.waiting) rs);
}

-- The socket after these posts, of which those that pass its filters and options arrive (own choice).
abbrev pub offered : List Post → SocketState → SocketState
offered posts v = filled v (passing v.filters v.options v.number posts)

-- The socket after the posts at its interface.
abbrev pub reached : (ℕ → List Post) → SocketState → SocketState
reached posts v = offered (posts v.iface) v

-- The arbitration key of a waiting frame.
abbrev pub key_in : Option Pending → Option ℕ
key_in p = option_map (λ (q : Pending). key_of q.frame) p

-- The state of an interface after a history.
abbrev pub kept_interface : BusConfig → List Entry → ℕ → InterfaceState
kept_interface c past i = record {
  waiting = drop (gone_count past i) (sent_by past i);
  room = c.tx_capacity;
  sent = length (sent_by past i);
  gone = gone_count past i;
  done = done_count past i;
  refused = refused_count past i;
}

-- The state of an open socket after a history.
abbrev pub kept_socket : BusConfig → List Entry → ℕ → SocketState
kept_socket c past s = record {
  number = s;
  iface = iface_of past s;
  capacity = capacity_of past s;
  filters = filters_of past s;
  options = options_of past s;
  waiting = drop (length (taken_from past s)) (queued_to c past s);
  taken = length (taken_from past s);
  dropped = length (dropped_at c past s);
}

-- The state of the interfaces after a history, by number (own choice).
unfoldable pub kept_interfaces : BusConfig → List Entry → List InterfaceState
kept_interfaces c past = map (kept_interface c past) (range_with_len 0 c.ifaces)

-- The state of the open sockets after a history, by increasing number (own choice).
unfoldable pub kept_sockets : BusConfig → List Entry → List SocketState
kept_sockets c past = map (kept_socket c past) (open_sockets past)

-- The arbitration keys of the first waiting frames, by interface.
unfoldable pub kept_keys : List Entry → List (Option ℕ)
kept_keys past = map (λ i. key_in (head_of past i)) (range_with_len 0 16)

-- The error counts, by interface.
unfoldable pub kept_nodes : BusConfig → List Entry → Nodes
kept_nodes c past = record { count = c.ifaces; counters = map (counts_of c past) (range_with_len 0 16) }

-- The number of attempts until the restart of each interface.
unfoldable pub kept_left : BusConfig → List Entry → List ℕ
kept_left c past = map (attempts_left c past) (range_with_len 0 16)

-- The parts of a bus besides its record.
pub record Parts : Type 0 where
  pub interfaces : List InterfaceState
  pub keys : List (Option ℕ)
  pub nodes : Nodes
  pub left : List ℕ
  pub sockets : List SocketState
  pub opened : ℕ
  pub tried : ℕ

-- The parts after a history.
abbrev pub kept_parts : BusConfig → List Entry → Parts
kept_parts c past = record {
  interfaces = kept_interfaces c past;
  keys = kept_keys past;
  nodes = kept_nodes c past;
  left = kept_left c past;
  sockets = kept_sockets c past;
  opened = length (places past);
  tried = length (tape past);
}

-- The parts are the state after the history, and there is memory for all entries up to the limit.
pub record IsKept (j : Kept) (parts : Parts) : Type 0 where
  pub of_parts : parts ≡ kept_parts j.config j.history
  pub legal : IsLegal j.config j.history
  pub proper : IsLongConfig j.config
  pub room : j.config.limit ≤ j.room
