use Rattle.std.proofs.Common.{◌≡◌, ◌≢◌, ℕ, List, ◌∷◌, length, map, slice_set, if◌then◌else◌, refl, sym, ap, ◌∙◌}
use Rattle.std.proofs.lemmas.Bool.{cond-false}
use Rattle.std.proofs.lemmas.List.{length-map}
use Rattle.can_event.specs.declared.entry.Entry.{Entry}
use Rattle.can_event.specs.declared.bus_config.BusConfig.{BusConfig}
use Rattle.can_event.specs.declared.event.Event.{Event}
use Rattle.can_event.specs.declared.reply.Reply.{Reply}
use Rattle.can_event.specs.declared.reply.Reply.TheVariants as reply
use Rattle.can_event.specs.declared.refusal.Refusal.{Refusal}
use Rattle.can_event.specs.declared.refusal.Refusal.TheVariants as refusal
use Rattle.can_bus.specs.Sockets.{places, open_sockets, is_open}
use Rattle.can_record.specs.Tapes.{tape}
use Rattle.can_bus.specs.Legal.{legal_reply}
use Rattle.can_bus.specs.State.{SocketState, Parts, kept_socket, kept_sockets, kept_parts}
use Rattle.can_bus.specs.Changes.{IsAt, FindsNone}
use Rattle.can_bus.proofs.Lists.{map_one}
use Rattle.can_bus.proofs.Opened.{IsThere-at, closed-nowhere}
use Rattle.can_bus.proofs.Rising.{open_sockets-rise}
use Rattle.can_bus.proofs.Keeping.{Follows, IsStill, IsUncounted, refused, follows_refused, parts-are}

pub length-kept_sockets : (c : BusConfig) (past : List Entry) → length (kept_sockets c past) ≡ length (open_sockets past)
unfolding kept_sockets
length-kept_sockets c past = length-map (open_sockets past) (kept_socket c past)

-- an entry that changes only one open socket
pub kept_sockets-one : (c : BusConfig) (past : List Entry) (e : Entry) (old new : List SocketState) (s k : ℕ) (v : SocketState) (change : SocketState → SocketState)
    → old ≡ kept_sockets c past → open_sockets (e ∷ past) ≡ open_sockets past → IsAt old s k v
    → ((o : ℕ) → o ≢ s → kept_socket c (e ∷ past) o ≡ kept_socket c past o) → change (kept_socket c past s) ≡ kept_socket c (e ∷ past) s
    → new ≡ slice_set old k (change v) → new ≡ kept_sockets c (e ∷ past)
unfolding kept_sockets
kept_sockets-one c past e old new s k v change are same_open is_at others here after =
    let at = IsThere-at c past old s k v are is_at in
    let set = map_one (kept_socket c past) (kept_socket c (e ∷ past)) s k 0 (length (places past)) (open_sockets past) at.listed (open_sockets-rise past) others in
    after
    ∙ ap (λ (vs : List SocketState). slice_set vs k (change v)) are
    ∙ ap (λ (w : SocketState). slice_set (map (kept_socket c past) (open_sockets past)) k (change w)) at.left
    ∙ ap (slice_set (map (kept_socket c past) (open_sockets past)) k) here
    ∙ sym set
    ∙ sym (ap (λ (os : List ℕ). map (kept_socket c (e ∷ past)) os) same_open)

-- an entry that changes only the sockets
pub follows_at_sockets : (c : BusConfig) (past : List Entry) (e : Entry) (new : Parts) (sockets : List SocketState) (opened : ℕ)
    → e.reply ≡ legal_reply c past e.event → IsStill c past e → tape (e ∷ past) ≡ tape past → opened ≡ length (places (e ∷ past))
    → sockets ≡ kept_sockets c (e ∷ past) → new ≡ record (kept_parts c past) { sockets = sockets; opened = opened } → Follows c past e new
follows_at_sockets c past e new sockets opened lawful still same_tape opened_is sockets_are after = record {
  lawful = lawful;
  after = after ∙ parts-are (record (kept_parts c past) { sockets = sockets; opened = opened }) (kept_parts c (e ∷ past)) (sym still.of_interfaces) (sym still.of_keys) (sym still.of_nodes) (sym still.of_left) sockets_are opened_is (ap length (sym same_tape));
}

-- a call on a socket that is not open
pub none_follows : (c : BusConfig) (past : List Entry) (e : Event) (s : ℕ) (given : Reply) (why : Refusal) (new : Parts)
    → legal_reply c past e ≡ (if is_open past s then given else reply.Refused refusal.NoSocket) → IsUncounted e why
    → FindsNone (kept_parts c past) s why new → Follows c past (refused e why) new
none_follows c past e s given why new law uncounted none =
    let shut = closed-nowhere c past (kept_sockets c past) s refl none.1 in
    follows_refused c past e why new uncounted none.2 (ap (λ (w : Refusal). reply.Refused w) none.0 ∙ sym (law ∙ cond-false (is_open past s) given _ shut))
