use Rattle.std.specs.Prelude.{◌≡◌, ℕ, ◌+◌, List, Bool, true, false, nat_le, if◌then◌else◌, map, Option, None}
use Rattle.std.specs.Prelude.{Some, option_map, Result, Ok, Err, set, replicate, slice_get, slice_index_or}
use Rattle.std.specs.declared.sync.Arc.{Arc}
use Rattle.std.specs.declared.alloc.Global.{Global}
use Rattle.can_server.specs.declared.conn.Conn.{Conn}
use Rattle.can_server.specs.declared.clients.Client.{Client}
use Rattle.can_server.specs.declared.clients.NotAdmitted.{NotAdmitted}
use Rattle.can_server.specs.declared.clients.NotAdmitted.TheVariants as refused
use Rattle.can_server.specs.declared.clients.Phase.{Phase}
use Rattle.can_server.specs.declared.clients.Phase.TheVariants as stay

-- The clients of a server, each with a session (own choice).

-- a connection that is shared between threads
abbrev pub Shared : Type 0
Shared = Arc Conn Global

-- the client in each slot, and whether the server is closed to new clients
pub record ClientsSeen : Type 0 where
  pub places : List (Option Client)
  pub is_closed : Bool

-- a server without clients: 64 free slots
abbrev pub no_clients : ClientsSeen
no_clients = record { places = replicate 64 None; is_closed = false }

-- the slot exists, and it has no client
abbrev pub IsFree : List (Option Client) → ℕ → Type 0
IsFree places place = slice_get places place ≡ Some None

-- every slot has a client
abbrev pub NoneFree : List (Option Client) → Type 0
NoneFree places = (place : ℕ) → ¬ IsFree places place

-- a new connection gets a free slot; if the server is closed or no slot is free, nothing changes
abbrev pub Admits : ClientsSeen → Shared → ℕ → Result ℕ NotAdmitted → ClientsSeen → Type 0
Admits old conn now (Ok place) new =
    (old.is_closed ≡ false)
    × IsFree old.places place
    × (new ≡ record {
      places = set old.places place (Some (record { conn = conn; stay = stay.New now }));
      is_closed = false;
    })
Admits old conn now (Err refused.Closed) new = (old.is_closed ≡ true) × (new ≡ old)
Admits old conn now (Err refused.Full) new =
    (old.is_closed ≡ false) × NoneFree old.places × (new ≡ old)

-- whether a client connected at least 60 seconds ago and its session has not entered raw mode
abbrev pub is_idle : ℕ → Phase → Bool
is_idle now (stay.New came) = nat_le (came + 60000000) now
is_idle now stay.Raw = false
is_idle now stay.ShutOut = false

-- the client after its session entered raw mode
abbrev pub raw : Client → Client
raw client = record { conn = client.conn; stay = stay.Raw }

-- the slots after the session of the client in this slot entered raw mode
abbrev pub raw_at : List (Option Client) → ℕ → List (Option Client)
raw_at places place = set places place (option_map raw (slice_index_or places place None))

-- a client after another client found no free slot: an idle client is shut out
abbrev pub asked_for_room : ℕ → Client → Client
asked_for_room now client = record {
  conn = client.conn;
  stay = if is_idle now client.stay then stay.ShutOut else client.stay;
}

-- all clients after another client found no free slot
abbrev pub all_asked : ℕ → List (Option Client) → List (Option Client)
all_asked now places = map (option_map (asked_for_room now)) places

-- there is a client in this slot, and the server has shut it out
abbrev pub IsShutOut : Option Client → Type 0
IsShutOut None = ⊥
IsShutOut (Some client) = client.stay ≡ stay.ShutOut
