use Rattle.std.proofs.Common.{◌≡◌, ℕ, ◌+◌, ◌^◌, ◌<◌, ◌≤◌, List, [], ◌∷◌, length, get_or, slice_get, Some, All, sym, ap, ◌∙◌, subst, arith}
use Rattle.std.specs.List.{range_with_len}
use Rattle.std.proofs.lemmas.List.Elements.{All-map}
use Rattle.std.proofs.lemmas.Option.{slice_get-get_or}
use Rattle.std.proofs.lemmas.List.{length_push, length-drop}
use Rattle.can_event.specs.declared.entry.Entry.{Entry}
use Rattle.can_event.specs.declared.bus_config.BusConfig.{BusConfig}
use Rattle.can_event.specs.declared.event.Event.{Event}
use Rattle.can_event.specs.declared.event.Event.TheVariants.{Open}
use Rattle.can_event.specs.declared.attempt.Tried.{Tried}
use Rattle.can_event.specs.declared.attempt.Attempt.TheVariants as attempt
use Rattle.can_event.specs.declared.reply.Reply.{Reply}
use Rattle.can_event.specs.declared.reply.Reply.TheVariants as reply
use Rattle.can_event.specs.Events.{max_long_limit}
use Rattle.can_record.specs.Journal.{Kept}
use Rattle.can_bus.specs.Sockets.{Place, places, places_after, open_sockets, iface_of}
use Rattle.can_record.specs.Tapes.{tape, tape_after}
use Rattle.can_bus.specs.Queues.{queued_to, taken_from}
use Rattle.can_bus.specs.Legal.{IsLegal}
use Rattle.can_bus.specs.State.{InterfaceState, SocketState, Parts, kept_interface, kept_interfaces, kept_socket, kept_sockets, IsKept}
use Rattle.can_bus.proofs.InterfaceFacts.{length-kept_interfaces}
use Rattle.can_bus.proofs.Lawful.{sent_by-le, gone-le-sent, done-le-gone, refused-le, dropped-le, queued-le, taken_from-le-queued, open-iface}

-- The counts of a bus are small, because the number of its entries is at most its limit.

pub legal-short : (c : BusConfig) (past : List Entry) → IsLegal c past → length past ≤ c.limit
legal-short c [] legal = omega arith
legal-short c (e ∷ past) legal = omega (arith, legal.0)

pub short : (j : Kept) (parts : Parts) → IsKept j parts → length j.history ≤ max_long_limit
short j parts kept = omega (arith, legal-short j.config j.history kept.legal, kept.proper.few_entries)

all_interfaces : (P : InterfaceState → Type 0) (j : Kept) (parts : Parts) → IsKept j parts → ((i : ℕ) → P (kept_interface j.config j.history i)) → All P parts.interfaces
unfolding kept_interfaces
all_interfaces P j parts kept each =
    subst (All P) (sym (ap (λ (q : Parts). q.interfaces) kept.of_parts))
    (All-map P (kept_interface j.config j.history) (range_with_len 0 j.config.ifaces) (λ k d lt. each (get_or (range_with_len 0 j.config.ifaces) k d)))

all_sockets : (P : SocketState → Type 0) (j : Kept) (parts : Parts) → IsKept j parts → ((k s : ℕ) → slice_get (open_sockets j.history) k ≡ Some s → P (kept_socket j.config j.history s)) → All P parts.sockets
unfolding kept_sockets
all_sockets P j parts kept each =
    subst (All P) (sym (ap (λ (q : Parts). q.sockets) kept.of_parts))
    (All-map P (kept_socket j.config j.history) (open_sockets j.history) (λ k d lt. each k (get_or (open_sockets j.history) k d) (slice_get-get_or (open_sockets j.history) k d lt)))

-- ---- interfaces

pub small_sent : (j : Kept) (parts : Parts) → IsKept j parts → All (λ (l : InterfaceState). l.sent + 1 < 2 ^ 64) parts.interfaces
small_sent j parts kept = all_interfaces (λ (l : InterfaceState). l.sent + 1 < 2 ^ 64) j parts kept (λ i. omega (arith, sent_by-le j.history i, short j parts kept))

pub small_refused : (j : Kept) (parts : Parts) → IsKept j parts → All (λ (l : InterfaceState). l.refused + 1 < 2 ^ 64) parts.interfaces
small_refused j parts kept = all_interfaces (λ (l : InterfaceState). l.refused + 1 < 2 ^ 64) j parts kept (λ i. omega (arith, refused-le j.history i, short j parts kept))

pub small_gone : (j : Kept) (parts : Parts) → IsKept j parts → All (λ (l : InterfaceState). l.gone + 1 < 2 ^ 64) parts.interfaces
small_gone j parts kept = all_interfaces (λ (l : InterfaceState). l.gone + 1 < 2 ^ 64) j parts kept (λ i. omega (arith, sent_by-le j.history i, gone-le-sent j.config j.history kept.legal i, short j parts kept))

pub small_done : (j : Kept) (parts : Parts) → IsKept j parts → All (λ (l : InterfaceState). l.done + 1 < 2 ^ 64) parts.interfaces
small_done j parts kept = all_interfaces (λ (l : InterfaceState). l.done + 1 < 2 ^ 64) j parts kept (λ i. omega (arith, sent_by-le j.history i, gone-le-sent j.config j.history kept.legal i, done-le-gone j.config j.history kept.legal i, short j parts kept))

pub done_and_lost : (j : Kept) (parts : Parts) → IsKept j parts → All (λ (l : InterfaceState). l.done ≤ l.gone) parts.interfaces
done_and_lost j parts kept = all_interfaces (λ (l : InterfaceState). l.done ≤ l.gone) j parts kept (λ i. done-le-gone j.config j.history kept.legal i)

pub count_of_interfaces : (j : Kept) (parts : Parts) → IsKept j parts → length parts.interfaces ≡ j.config.ifaces
count_of_interfaces j parts kept = ap (λ (q : Parts). length q.interfaces) kept.of_parts ∙ length-kept_interfaces j.config j.history

-- ---- sockets

pub small_taken : (j : Kept) (parts : Parts) → IsKept j parts → All (λ (v : SocketState). v.taken + 1 < 2 ^ 64) parts.sockets
small_taken j parts kept = all_sockets (λ (v : SocketState). v.taken + 1 < 2 ^ 64) j parts kept (λ k s at. omega (arith, taken_from-le-queued j.config j.history kept.legal s, queued-le j.config j.history s, short j parts kept))

pub small_queued : (j : Kept) (parts : Parts) → IsKept j parts → All (λ (v : SocketState). v.taken + length v.waiting < 2 ^ 64) parts.sockets
small_queued j parts kept =
    all_sockets (λ (v : SocketState). v.taken + length v.waiting < 2 ^ 64) j parts kept (λ k s at. omega (arith, length-drop (length (taken_from j.history s)) (queued_to j.config j.history s), taken_from-le-queued j.config j.history kept.legal s, queued-le j.config j.history s, short j parts kept))

pub small_dropped : (j : Kept) (parts : Parts) → IsKept j parts → All (λ (v : SocketState). v.dropped + 4 < 2 ^ 64) parts.sockets
small_dropped j parts kept = all_sockets (λ (v : SocketState). v.dropped + 4 < 2 ^ 64) j parts kept (λ k s at. omega (arith, dropped-le j.config j.history s, short j parts kept))

pub small_dropped_one : (j : Kept) (parts : Parts) → IsKept j parts → All (λ (v : SocketState). v.dropped + 1 < 2 ^ 64) parts.sockets
small_dropped_one j parts kept = all_sockets (λ (v : SocketState). v.dropped + 1 < 2 ^ 64) j parts kept (λ k s at. omega (arith, dropped-le j.config j.history s, short j parts kept))

pub known_ifaces : (j : Kept) (parts : Parts) → IsKept j parts → All (λ (v : SocketState). v.iface < length parts.interfaces) parts.sockets
known_ifaces j parts kept = all_sockets (λ (v : SocketState). v.iface < length parts.interfaces) j parts kept (λ k s at. subst (λ n. iface_of j.history s < n) (sym (count_of_interfaces j parts kept)) (open-iface j.config j.history kept.legal k s at))

-- ---- attempts, and sockets ever opened

tape-step : (r : Reply) (before : List Tried) → length (tape_after r before) ≤ length before + 1
tape-step (reply.Attempted (attempt.Tried t)) before = omega (arith, length_push before t)
tape-step _ before = omega arith

tape-le : (past : List Entry) → length (tape past) ≤ length past
tape-le [] = omega arith
tape-le (e ∷ past) = omega (arith, tape-step e.reply (tape past), tape-le past)

pub small_tried : (j : Kept) (parts : Parts) → IsKept j parts → parts.tried + 1 < 2 ^ 64
small_tried j parts kept = omega (arith, ap (λ (q : Parts). q.tried) kept.of_parts, tape-le j.history, short j parts kept)

places-step : (e : Event) (r : Reply) (before : List Place) → length (places_after e r before) ≤ length before + 1
places-step (Open i k) (reply.Opened s) before = omega (arith, length_push before (record { iface = i; capacity = k }))
places-step _ _ before = omega arith

places-le : (past : List Entry) → length (places past) ≤ length past
places-le [] = omega arith
places-le (e ∷ past) = omega (arith, places-step e.event e.reply (places past), places-le past)

pub small_opened : (j : Kept) (parts : Parts) → IsKept j parts → parts.opened + 1 < 2 ^ 32
small_opened j parts kept = omega (arith, ap (λ (q : Parts). q.opened) kept.of_parts, places-le j.history, short j parts kept)
