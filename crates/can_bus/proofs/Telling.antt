use Rattle.std.proofs.Common.{◌≡◌, ℕ, ◌+◌, ◌-◌, ◌<◌, ◌≤◌, nat_lt, Bool, true, false, List, length, drop, slice_get, Option, Some, None, refl, sym, ap, ◌∙◌, arith}
use Rattle.std.specs.Option.{option_map}
use Rattle.std.specs.List.{range_with_len}
use Rattle.std.proofs.lemmas.Bool.{cond-true, cond-false, ltb-true}
use Rattle.std.proofs.lemmas.List.{length-drop}
use Rattle.std.proofs.lemmas.Option.{slice_get-map, slice_get_past}
use Rattle.can_confine.specs.Confinement.{ErrorCounts}
use Rattle.can_attempt.specs.Attempts.{counts_at}
use Rattle.can_event.specs.declared.bus_config.BusConfig.{BusConfig}
use Rattle.can_event.specs.declared.entry.Entry.{Entry}
use Rattle.can_event.specs.declared.stats.SocketStats.{SocketStats}
use Rattle.can_event.specs.declared.stats.IfaceStats.{IfaceStats}
use Rattle.can_bus.specs.Counters.{counts_of}
use Rattle.can_event.specs.Events.{IsLongConfig}
use Rattle.can_bus.specs.Legal.{IsLegal}
use Rattle.can_bus.specs.Queues.{queued_to, taken_from, dropped_at}
use Rattle.can_bus.specs.Sockets.{is_open}
use Rattle.can_bus.specs.Transmit.{sent_by, gone_count}
use Rattle.can_bus.specs.State.{SocketState, kept_interface, kept_interfaces, kept_nodes, kept_sockets}
use Rattle.can_bus.specs.Stats.{ReportsSocket, socket_stats_of, told_interface, iface_stats_of}
use Rattle.can_bus.proofs.Lawful.{taken_from-le-queued}
use Rattle.can_bus.proofs.InterfaceFacts.{length-kept_interfaces}
use Rattle.can_bus.proofs.Lists.{slice_get-range}
use Rattle.can_bus.proofs.NodeFacts.{counts_at-kept}
use Rattle.can_bus.proofs.Opened.{IsThere-at, closed-nowhere}

-- The counts that the state reports are the counts that the history gives.

-- ---- sockets

abbrev counted : SocketState → SocketStats
counted v = record { queued = v.taken + length v.waiting; dropped = v.dropped; taken = v.taken }

pub told_socket : (c : BusConfig) (past : List Entry) (s : ℕ) (stats : Option SocketStats) → IsLegal c past → ReportsSocket (kept_sockets c past) s stats → stats ≡ socket_stats_of c past s
told_socket c past s None legal nowhere = sym (cond-false (is_open past s) _ _ (closed-nowhere c past (kept_sockets c past) s refl nowhere))
told_socket c past s (Some stats) legal tells =
    let at = IsThere-at c past (kept_sockets c past) s tells.place tells.socket refl tells.is_at in
    let all : length (taken_from past s) + length (drop (length (taken_from past s)) (queued_to c past s)) ≡ length (queued_to c past s) = omega (arith, length-drop (length (taken_from past s)) (queued_to c past s), taken_from-le-queued c past legal s) in
    let told : stats ≡ record { queued = length (queued_to c past s); dropped = length (dropped_at c past s); taken = length (taken_from past s) } =
    tells.told ∙ ap counted at.left ∙ ap (λ (n : ℕ). record { queued = n; dropped = length (dropped_at c past s); taken = length (taken_from past s) }) all in
    ap (λ (t : SocketStats). Some t) told ∙ sym (cond-true (is_open past s) _ _ at.is_there)

-- ---- interfaces

interface-there : (c : BusConfig) (past : List Entry) (i : ℕ) → i < c.ifaces → slice_get (kept_interfaces c past) i ≡ Some (kept_interface c past i)
unfolding kept_interfaces
interface-there c past i below =
    slice_get-map (kept_interface c past) (range_with_len 0 c.ifaces) i
    ∙ ap (option_map (kept_interface c past)) (slice_get-range 0 c.ifaces i below)
    ∙ ap (λ (n : ℕ). Some (kept_interface c past n)) (omega arith)

counted-interface : (c : BusConfig) (past : List Entry) (i : ℕ) → i < 16 → told_interface (counts_at (kept_nodes c past) i) (kept_interface c past i) ≡ record (told_interface (counts_of c past i) (kept_interface c past i)) { waiting = length (sent_by past i) - gone_count past i }
counted-interface c past i few =
    ap (λ (k : ErrorCounts). told_interface k (kept_interface c past i)) (counts_at-kept c past i few)
    ∙ ap (λ (n : ℕ). record (told_interface (counts_of c past i) (kept_interface c past i)) { waiting = n }) (length-drop (gone_count past i) (sent_by past i))

kept_iface : (c : BusConfig) (past : List Entry) (i : ℕ) (there : Bool) → IsLongConfig c → nat_lt i c.ifaces ≡ there → option_map (told_interface (counts_at (kept_nodes c past) i)) (slice_get (kept_interfaces c past) i) ≡ iface_stats_of c past i
kept_iface c past i true proper is =
    let below : i < c.ifaces = ltb-true i c.ifaces is in
    let few : i < 16 = omega (arith, below, proper.few_ifaces) in
    ap (option_map (told_interface (counts_at (kept_nodes c past) i))) (interface-there c past i below)
    ∙ ap (λ (t : IfaceStats). Some t) (counted-interface c past i few)
    ∙ sym (cond-true (nat_lt i c.ifaces) _ _ is)
kept_iface c past i false proper is =
    let beyond : c.ifaces ≤ i = grind (arith, is) in
    let past_end : length (kept_interfaces c past) ≤ i = omega (arith, length-kept_interfaces c past, beyond) in
    ap (option_map (told_interface (counts_at (kept_nodes c past) i))) (slice_get_past (kept_interfaces c past) i past_end)
    ∙ sym (cond-false (nat_lt i c.ifaces) _ _ is)

pub told_iface : (c : BusConfig) (past : List Entry) (i : ℕ) → IsLongConfig c → option_map (told_interface (counts_at (kept_nodes c past) i)) (slice_get (kept_interfaces c past) i) ≡ iface_stats_of c past i
told_iface c past i proper = kept_iface c past i (nat_lt i c.ifaces) proper refl
