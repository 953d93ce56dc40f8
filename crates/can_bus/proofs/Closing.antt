use Rattle.std.proofs.Common.{◌≡◌, ℕ, ◌==◌, not, List, ◌∷◌, length, map, filter, drop, remove, refl, sym, ap, ◌∙◌}
use Rattle.std.proofs.lemmas.Bool.{cond-true}
use Rattle.std.proofs.lemmas.List.{length-drop}
use Rattle.can_event.specs.declared.entry.Entry.{Entry}
use Rattle.can_event.specs.declared.bus_config.BusConfig.{BusConfig}
use Rattle.can_event.specs.declared.reply.Closed.{Closed}
use Rattle.can_event.specs.declared.reply.Reply.{Reply}
use Rattle.can_event.specs.declared.socket_id.SocketId.{SocketId}
use Rattle.can_event.specs.declared.event.Event.TheVariants.{Close}
use Rattle.can_event.specs.declared.reply.Reply.TheVariants as reply
use Rattle.can_bus.specs.Sockets.{places, open_sockets, is_open}
use Rattle.can_bus.specs.Queues.{queued_to, taken_from, dropped_at}
use Rattle.can_bus.specs.Legal.{legal_reply}
use Rattle.can_bus.specs.State.{SocketState, Parts, kept_socket, kept_sockets, kept_interfaces, kept_keys, kept_nodes, kept_left, kept_parts}
use Rattle.can_bus.specs.Changes.{IsAt, Removes, Closes}
use Rattle.can_bus.proofs.Keeping.{Follows, IsStill, map_same}
use Rattle.can_bus.proofs.Lists.{filter_one, map-remove}
use Rattle.can_bus.proofs.Opened.{IsThere-at}
use Rattle.can_bus.proofs.Quiet.{queued_to-quiet, dropped_at-quiet}
use Rattle.can_bus.proofs.Rising.{open_sockets-rise}
use Rattle.can_bus.proofs.SocketFacts.{follows_at_sockets, none_follows}

abbrev pub entry : SocketId → Reply → Entry
entry s r = record { event = Close s; reply = r }

left-same : (c : BusConfig) (past : List Entry) (s : SocketId) (n : Closed) (o : ℕ) → kept_socket c (entry s (reply.Closed n) ∷ past) o ≡ kept_socket c past o
left-same c past s n o =
    let q = queued_to-quiet c past (entry s (reply.Closed n)) o refl in
    let d = dropped_at-quiet c past (entry s (reply.Closed n)) o refl in
    cc

sockets-closed : (c : BusConfig) (past : List Entry) (s : SocketId) (n : Closed) (k : ℕ) (v : SocketState) → IsAt (kept_sockets c past) s.0 k v → remove (kept_sockets c past) k ≡ kept_sockets c (entry s (reply.Closed n) ∷ past)
unfolding kept_sockets
sockets-closed c past s n k v is_at =
    let at = IsThere-at c past (kept_sockets c past) s.0 k v refl is_at in
    sym (map-remove (kept_socket c past) (open_sockets past) k)
    ∙ ap (map (kept_socket c past)) (sym (filter_one s.0 k 0 (length (places past)) (open_sockets past) at.listed (open_sockets-rise past)))
    ∙ sym (map_same (kept_socket c past) (kept_socket c (entry s (reply.Closed n) ∷ past)) (filter (λ k. not (k == s.0)) (open_sockets past)) (left-same c past s n))

reply-closed : (c : BusConfig) (past : List Entry) (s : SocketId) (n : Closed) (new : Parts) → Removes (kept_parts c past) s.0 n new → reply.Closed n ≡ legal_reply c past (Close s)
reply-closed c past s n new removes =
    let at = IsThere-at c past (kept_sockets c past) s.0 removes.place removes.socket refl removes.is_at in
    let counts : n ≡ record { unread = length (drop (length (taken_from past s.0)) (queued_to c past s.0)); dropped = length (dropped_at c past s.0) } = removes.counts ∙ ap (λ (v : SocketState). record { unread = length v.waiting; dropped = v.dropped }) at.left in
    ap (λ (k : Closed). reply.Closed k) (counts ∙ ap (λ (u : ℕ). record { unread = u; dropped = length (dropped_at c past s.0) }) (length-drop (length (taken_from past s.0)) (queued_to c past s.0)))
    ∙ sym (cond-true (is_open past s.0) _ _ at.is_there)

still : (c : BusConfig) (past : List Entry) (s : SocketId) (n : Closed) → IsStill c past (entry s (reply.Closed n))
unfolding kept_interfaces kept_keys kept_nodes kept_left
still c past s n = record { of_interfaces = refl; of_keys = refl; of_nodes = refl; of_left = refl }

-- after a socket is closed, or that is refused, the state is the one that the longer history gives
pub closed_follows : (c : BusConfig) (past : List Entry) (s : SocketId) (r : Reply) (new : Parts) → Closes (kept_parts c past) s.0 r new → Follows c past (entry s r) new
closed_follows c past s (reply.Closed n) new removes = follows_at_sockets c past (entry s (reply.Closed n)) new _ _ (reply-closed c past s n new removes) (still c past s n) refl refl (sockets-closed c past s n removes.place removes.socket removes.is_at) removes.after
closed_follows c past s (reply.Refused why) new none = none_follows c past (Close s) s.0 _ why new refl tt none
closed_follows c past s _ new closes = absurd closes
