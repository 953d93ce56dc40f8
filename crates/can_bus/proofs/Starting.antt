use Rattle.std.proofs.Common.{◌≡◌, ℕ, zero, suc, ◌+◌, ◌≤◌, List, [], ◌∷◌, map, replicate, Option, refl, sym, ap, ◌∙◌, subst}
use Rattle.std.specs.List.{range_with_len}
use Rattle.can_arbiter.specs.Keys.{no_keys}
use Rattle.can_confine.specs.Confinement.{ErrorCounts, at_start}
use Rattle.can_attempt.specs.declared.nodes.Nodes.{Nodes}
use Rattle.can_event.specs.declared.entry.Entry.{Entry}
use Rattle.can_event.specs.declared.bus_config.BusConfig.{BusConfig}
use Rattle.can_record.specs.Journal.{Kept}
use Rattle.can_event.specs.Events.{IsLongConfig}
use Rattle.can_bus.specs.State.{InterfaceState, SocketState, Parts, fresh_interface, kept_interface, kept_interfaces, kept_sockets, kept_keys, kept_nodes, kept_left, kept_parts, IsKept}
use Rattle.can_bus.proofs.Keeping.{parts-are}

all_fresh : (c : BusConfig) (a n : ℕ) → replicate n (fresh_interface c.tx_capacity) ≡ map (kept_interface c []) (range_with_len a n)
all_fresh c a zero = refl
all_fresh c a (suc n) = ap (λ (ls : List InterfaceState). fresh_interface c.tx_capacity ∷ ls) (all_fresh c (a + 1) n)

none_open : (c : BusConfig) → ◌≡◌ {A = List SocketState} [] (kept_sockets c [])
unfolding kept_sockets
none_open c = refl

first_interfaces : (c : BusConfig) → replicate c.ifaces (fresh_interface c.tx_capacity) ≡ kept_interfaces c []
unfolding kept_interfaces
first_interfaces c = all_fresh c 0 c.ifaces

first_keys : no_keys ≡ kept_keys []
unfolding kept_keys
first_keys = refl

abbrev all_at : BusConfig → ErrorCounts → Nodes
all_at c z = record { count = c.ifaces; counters = z ∷ z ∷ z ∷ z ∷ z ∷ z ∷ z ∷ z ∷ z ∷ z ∷ z ∷ z ∷ z ∷ z ∷ z ∷ z ∷ [] }

first_nodes : (c : BusConfig) → all_at c at_start ≡ kept_nodes c []
unfolding kept_nodes
first_nodes c = refl

first_left : (c : BusConfig) → replicate 16 0 ≡ kept_left c []
unfolding kept_left
first_left c = refl

-- the state of a bus without events
pub started : (c : BusConfig) (interfaces : List InterfaceState) (keys : List (Option ℕ)) (z : ErrorCounts) (left : List ℕ) (sockets : List SocketState)
    → interfaces ≡ replicate c.ifaces (fresh_interface c.tx_capacity) → keys ≡ no_keys → z ≡ at_start → left ≡ replicate 16 0 → sockets ≡ []
    → record { interfaces = interfaces; keys = keys; nodes = all_at c z; left = left; sockets = sockets; opened = 0; tried = 0 } ≡ kept_parts c []
started c interfaces keys z left sockets interfaces_are keys_are zero_is left_is sockets_are =
    parts-are (record { interfaces = interfaces; keys = keys; nodes = all_at c z; left = left; sockets = sockets; opened = 0; tried = 0 }) (kept_parts c []) (interfaces_are ∙ first_interfaces c) (keys_are ∙ first_keys) (ap (all_at c) zero_is ∙ first_nodes c) (left_is ∙ first_left c) (sockets_are ∙ none_open c) refl refl

-- the state for an empty record
pub made : (j : Kept) (parts : Parts) (c : BusConfig) → j.config ≡ c → j.history ≡ [] → c.limit ≤ j.room → IsLongConfig c → parts ≡ kept_parts c [] → IsKept j parts
made j parts c config history room proper parts_are =
    let is : ◌≡◌ {A = Kept} (record { config = c; history = []; room = j.room }) j = ap (λ (k : BusConfig). record { config = k; history = []; room = j.room }) (sym config) ∙ ap (λ (h : List Entry). record { config = j.config; history = h; room = j.room }) (sym history) in
    subst (λ k. IsKept k parts) is (record { of_parts = parts_are; legal = tt; proper = proper; room = room })
