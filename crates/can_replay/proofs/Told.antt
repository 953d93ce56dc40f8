use Rattle.std.proofs.Common.{◌≡◌, ℕ, ◌+◌, ◌-◌, ◌<◌, Bool, true, false, IsTrue, if◌then◌else◌, List, [], ◌∷◌, ◌++◌, codes, length, map, drop, slice_get, get_or, Option, Some, refl, sym, ap, ◌∙◌, arith}
use Rattle.std.specs.List.{flat_map, range_with_len}
use Rattle.std.specs.Option.{option_map}
use Rattle.std.proofs.lemmas.List.{drop-drop, length-drop}
use Rattle.std.proofs.lemmas.List.FromFn.{get_or-map-range_with_len, length-map-range_with_len}
use Rattle.std.proofs.lemmas.Option.{slice_get-map}
use Rattle.can_confine.specs.Confinement.{ErrorCounts}
use Rattle.can_event.specs.declared.bus_config.BusConfig.{BusConfig}
use Rattle.can_event.specs.declared.entry.Entry.{Entry}
use Rattle.can_event.specs.declared.event.Event.{Event}
use Rattle.can_event.specs.declared.event.Event.TheVariants.{Open, Close, SetFilters, SetOption, Send, Receive, Attempt, Restart, Down}
use Rattle.can_event.specs.declared.received.Received.{Received}
use Rattle.can_event.specs.declared.reply.Closed.{Closed}
use Rattle.can_event.specs.declared.reply.Reply.{Reply}
use Rattle.can_bus.specs.Counters.{counts_of}
use Rattle.can_bus.specs.Legal.{IsLegal, counts_at_close}
use Rattle.can_bus.specs.Queues.{queued_to, taken_from, taken_after, dropped_at}
use Rattle.can_bus.specs.Sockets.{open_sockets, open_after, places}
use Rattle.can_bus.specs.State.{InterfaceState, kept_interface, kept_interfaces, kept_nodes, kept_parts, kept_socket, kept_sockets}
use Rattle.can_bus.specs.Stats.{all_counts, lost_of}
use Rattle.can_bus.specs.Transmit.{lost_count}
use Rattle.can_bus.proofs.Lawful.{taken_from-le-queued}
use Rattle.can_bus.proofs.Lists.{slice_get-range}
use Rattle.can_bus.proofs.NodeFacts.{counters-kept, counts_at-kept}
use Rattle.can_replay.specs.Brought.{is_step, put_to, dropped_by, lost_by}
use Rattle.can_replay.specs.EventsText.{counts_parts, lost_parts, put_words, parts_of}
use Rattle.can_replay.specs.Words.{counts_part, lost_part, part_named, dropped_words}
use Rattle.can_replay.specs.inner.Seen.{Seen, counts_at, counts_in, dropped_in, lost_in, nothing_seen, put_in, seen_after, seen_in, told_counts, told_counts_at, told_dropped, told_dropped_at, told_lost, told_lost_at, told_parts, told_put, told_put_at}
use Rattle.can_replay.proofs.Lists.{by_place, same_below, same_each, same_map}

-- The effects that are computed from the state of a bus equal the effects of its entries.

-- ---- the state that is stored before an entry

seen_lost : (c : BusConfig) (past : List Entry) → map lost_of (kept_interfaces c past) ≡ map (lost_count past) (range_with_len 0 c.ifaces)
unfolding kept_interfaces
seen_lost c past = same_map lost_of (kept_interface c past) (lost_count past) (range_with_len 0 c.ifaces) (λ i. refl)

seen_sockets : (c : BusConfig) (past : List Entry) → map counts_in (kept_sockets c past) ≡ map (counts_at_close c past) (open_sockets past)
unfolding kept_sockets
seen_sockets c past = same_map counts_in (kept_socket c past) (counts_at_close c past) (open_sockets past) one
  where
    one : (s : ℕ) → counts_in (kept_socket c past s) ≡ counts_at_close c past s
    one s = ap (λ (n : ℕ). record { unread = n; dropped = length (dropped_at c past s) }) (length-drop (length (taken_from past s)) (queued_to c past s))

abbrev made : List ErrorCounts → List ℕ → List Closed → Seen
made counters lost sockets = record { counters = counters; lost = lost; sockets = sockets }

pub seen_is : (c : BusConfig) (past : List Entry) → seen_in (kept_parts c past) ≡ seen_after c past
unfolding seen_after
seen_is c past =
    ap (λ (k : List ErrorCounts). made k (map lost_of (kept_interfaces c past)) (map counts_in (kept_sockets c past))) (counters-kept c past)
    ∙ ap (λ (l : List ℕ). made (all_counts c past) l (map counts_in (kept_sockets c past))) (seen_lost c past)
    ∙ ap (λ (k : List Closed). made (all_counts c past) (map (lost_count past) (range_with_len 0 c.ifaces)) k) (seen_sockets c past)

-- ---- an attempt, a restart or a down does not open or close a socket, and takes no item from one

open_stays : (n : ℕ) (e : Event) (r : Reply) (before : List ℕ) → IsTrue (is_step e) → open_after n e r before ≡ before
open_stays n (Attempt m v) r before step = refl
open_stays n (Restart i m) r before step = refl
open_stays n (Down i m) r before step = refl
open_stays n (Open i k) r before step = cc
open_stays n (Close s) r before step = cc
open_stays n (SetFilters s f) r before step = cc
open_stays n (SetOption s o) r before step = cc
open_stays n (Send s f) r before step = cc
open_stays n (Receive s) r before step = cc

taken_stays : (e : Event) (r : Reply) (s : ℕ) (before : List Received) → IsTrue (is_step e) → taken_after e r s before ≡ before
taken_stays (Attempt m v) r s before step = refl
taken_stays (Restart i m) r s before step = refl
taken_stays (Down i m) r s before step = refl
taken_stays (Open i k) r s before step = cc
taken_stays (Close s') r s before step = cc
taken_stays (SetFilters s' f) r s before step = cc
taken_stays (SetOption s' o) r s before step = cc
taken_stays (Send s' f) r s before step = cc
taken_stays (Receive s') r s before step = cc

-- ---- the parts

counts_told : (c : BusConfig) (past : List Entry) (e : Entry) → told_counts (all_counts c past) (kept_nodes c (e ∷ past)).counters ≡ counts_parts c past e
unfolding told_counts
counts_told c past e = same_below (told_counts_at (all_counts c past) (kept_nodes c (e ∷ past)).counters) (λ i. counts_part i (counts_of c past i) (counts_of c (e ∷ past) i)) 0 16 16 (omega arith) one
  where
    one : (i : ℕ) → i < 16 → told_counts_at (all_counts c past) (kept_nodes c (e ∷ past)).counters i ≡ counts_part i (counts_of c past i) (counts_of c (e ∷ past) i)
    one i few =
        let old : counts_at (all_counts c past) i ≡ counts_of c past i = ap (λ (ks : List ErrorCounts). counts_at ks i) (sym (counters-kept c past)) ∙ counts_at-kept c past i few in
        ap (λ (k : ErrorCounts). counts_part i k (counts_at (kept_nodes c (e ∷ past)).counters i)) old
        ∙ ap (λ (k : ErrorCounts). counts_part i (counts_of c past i) k) (counts_at-kept c (e ∷ past) i few)

lost_told : (c : BusConfig) (past : List Entry) (e : Entry) → told_lost (map (lost_count past) (range_with_len 0 c.ifaces)) (kept_interfaces c (e ∷ past)) ≡ lost_parts c past e
unfolding told_lost kept_interfaces
lost_told c past e =
    ap (λ (n : ℕ). flat_map told (range_with_len 0 n)) (length-map-range_with_len (lost_count past) 0 c.ifaces)
    ∙ same_below told (λ i. lost_part i (lost_by past e i)) 0 c.ifaces c.ifaces (omega arith) one
  where
    interfaces : List InterfaceState
    interfaces = map (kept_interface c (e ∷ past)) (range_with_len 0 c.ifaces)

    told : ℕ → List ℕ
    told = told_lost_at (map (lost_count past) (range_with_len 0 c.ifaces)) interfaces

    one : (i : ℕ) → i < c.ifaces → told i ≡ lost_part i (lost_by past e i)
    one i below =
        let there : slice_get interfaces i ≡ Some (kept_interface c (e ∷ past) i) =
        slice_get-map (kept_interface c (e ∷ past)) (range_with_len 0 c.ifaces) i
        ∙ ap (option_map (kept_interface c (e ∷ past))) (slice_get-range 0 c.ifaces i below)
        ∙ ap (λ (n : ℕ). Some (kept_interface c (e ∷ past) n)) (omega arith) in
        let old : get_or (map (lost_count past) (range_with_len 0 c.ifaces)) i 0 ≡ lost_count past i = get_or-map-range_with_len (lost_count past) 0 c.ifaces i i 0 below (omega arith) in
        ap (λ (o : Option InterfaceState). lost_part i (lost_in o - get_or (map (lost_count past) (range_with_len 0 c.ifaces)) i 0)) there
        ∙ ap (λ (n : ℕ). lost_part i (lost_count (e ∷ past) i - n)) old

-- The items that were added to the waiting items are the items that the entry queued.
new_items : (c : BusConfig) (past : List Entry) (e : Entry) → IsLegal c past → IsTrue (is_step e.event) → (s : ℕ) → drop (length (queued_to c past s) - length (taken_from past s)) (drop (length (taken_from (e ∷ past) s)) (queued_to c (e ∷ past) s)) ≡ put_to c past e s
new_items c past e legal step s =
    let q = length (queued_to c past s) in
    let t = length (taken_from past s) in
    let all : t + (q - t) ≡ q = omega (arith, taken_from-le-queued c past legal s) in
    ap (λ (ts : List Received). drop (q - t) (drop (length ts) (queued_to c (e ∷ past) s))) (taken_stays e.event e.reply s (taken_from past s) step)
    ∙ drop-drop (q - t) t (queued_to c (e ∷ past) s)
    ∙ ap (λ (n : ℕ). drop n (queued_to c (e ∷ past) s)) all

put_told : (c : BusConfig) (past : List Entry) (e : Entry) → IsLegal c past → IsTrue (is_step e.event) → told_put (map (counts_at_close c past) (open_sockets past)) (kept_sockets c (e ∷ past)) ≡ flat_map (λ s. put_words s (put_to c past e s)) (open_sockets past)
unfolding told_put kept_sockets
put_told c past e legal step =
    let before = map (counts_at_close c past) (open_sockets past) in
    let same : open_sockets (e ∷ past) ≡ open_sockets past = open_stays (length (places past)) e.event e.reply (open_sockets past) step in
    ap (λ (ss : List ℕ). flat_map (told_put_at before (map (kept_socket c (e ∷ past)) ss)) (range_with_len 0 (length before))) same
    ∙ by_place put_in nothing_seen (counts_at_close c past) (kept_socket c (e ∷ past)) (open_sockets past)
    ∙ same_each (λ s. put_in (Some (kept_socket c (e ∷ past) s)) (counts_at_close c past s)) (λ s. put_words s (put_to c past e s)) (open_sockets past) (λ s. ap (put_words s) (new_items c past e legal step s))

dropped_told : (c : BusConfig) (past : List Entry) (e : Entry) → IsTrue (is_step e.event) → told_dropped (map (counts_at_close c past) (open_sockets past)) (kept_sockets c (e ∷ past)) ≡ flat_map (λ s. dropped_words s (dropped_by c past e s)) (open_sockets past)
unfolding told_dropped kept_sockets
dropped_told c past e step =
    let before = map (counts_at_close c past) (open_sockets past) in
    let same : open_sockets (e ∷ past) ≡ open_sockets past = open_stays (length (places past)) e.event e.reply (open_sockets past) step in
    ap (λ (ss : List ℕ). flat_map (told_dropped_at before (map (kept_socket c (e ∷ past)) ss)) (range_with_len 0 (length before))) same
    ∙ by_place dropped_in nothing_seen (counts_at_close c past) (kept_socket c (e ∷ past)) (open_sockets past)

-- The effects of an entry equal the effects that are computed from the states before and after it.
pub parts_told : (c : BusConfig) (past : List Entry) (e : Entry) → IsLegal c past → IsTrue (is_step e.event) → told_parts (seen_after c past) (kept_parts c (e ∷ past)) ≡ parts_of c past e
unfolding told_parts seen_after parts_of
parts_told c past e legal step = whole (is_step e.event) step
  where
    parts : List ℕ
    parts =
        counts_parts c past e ++ lost_parts c past e
        ++ part_named (codes "put") (flat_map (λ s. put_words s (put_to c past e s)) (open_sockets past))
        ++ part_named (codes "dropped") (flat_map (λ s. dropped_words s (dropped_by c past e s)) (open_sockets past))

    whole : (is : Bool) → IsTrue is → told_parts (seen_after c past) (kept_parts c (e ∷ past)) ≡ (if is then parts else [])
    whole false h = cc
    whole true h =
        ap (λ (a : List ℕ). a ++ told_lost (map (lost_count past) (range_with_len 0 c.ifaces)) (kept_interfaces c (e ∷ past)) ++ part_named (codes "put") (told_put (map (counts_at_close c past) (open_sockets past)) (kept_sockets c (e ∷ past))) ++ part_named (codes "dropped") (told_dropped (map (counts_at_close c past) (open_sockets past)) (kept_sockets c (e ∷ past)))) (counts_told c past e)
        ∙ ap (λ (a : List ℕ). counts_parts c past e ++ a ++ part_named (codes "put") (told_put (map (counts_at_close c past) (open_sockets past)) (kept_sockets c (e ∷ past))) ++ part_named (codes "dropped") (told_dropped (map (counts_at_close c past) (open_sockets past)) (kept_sockets c (e ∷ past)))) (lost_told c past e)
        ∙ ap (λ (ws : List (List ℕ)). counts_parts c past e ++ lost_parts c past e ++ part_named (codes "put") ws ++ part_named (codes "dropped") (told_dropped (map (counts_at_close c past) (open_sockets past)) (kept_sockets c (e ∷ past)))) (put_told c past e legal step)
        ∙ ap (λ (ws : List (List ℕ)). counts_parts c past e ++ lost_parts c past e ++ part_named (codes "put") (flat_map (λ s. put_words s (put_to c past e s)) (open_sockets past)) ++ part_named (codes "dropped") ws) (dropped_told c past e step)
