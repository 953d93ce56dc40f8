use Rattle.std.proofs.Common.{◌≡◌, ◌≢◌, ℕ, ◌+◌, ◌==◌, Bool, List, [], ◌∷◌, ◌++◌, length, drop, slice_get, Option, Some, None, Result, Ok, Err, refl, sym, ap, ◌∙◌}
use Rattle.std.proofs.lemmas.Bool.{eq-eqb, ne_eqb, cond-true, cond-false}
use Rattle.std.proofs.lemmas.List.{drop-drop, length_push}
use Rattle.can_event.specs.declared.entry.Entry.{Entry}
use Rattle.can_event.specs.declared.bus_config.BusConfig.{BusConfig}
use Rattle.can_event.specs.declared.received.Received.{Received}
use Rattle.can_event.specs.declared.refusal.Refusal.{Refusal}
use Rattle.can_event.specs.declared.socket_id.SocketId.{SocketId}
use Rattle.can_event.specs.declared.event.Event.TheVariants.{Receive}
use Rattle.can_event.specs.declared.reply.Reply.{Reply}
use Rattle.can_event.specs.declared.reply.Reply.TheVariants as reply
use Rattle.can_event.specs.Replies.{entry_of, taken_reply}
use Rattle.can_bus.specs.Answer.{Answers}
use Rattle.can_event.specs.Replies.{received_into}
use Rattle.can_record.specs.Journal.{Journal}
use Rattle.can_bus.specs.Sockets.{is_open}
use Rattle.can_bus.specs.Queues.{taken_from, queued_to, dropped_at}
use Rattle.can_bus.specs.Legal.{legal_reply}
use Rattle.can_bus.specs.State.{SocketState, Parts, kept_socket, kept_sockets, kept_interfaces, kept_keys, kept_nodes, kept_left, kept_parts}
use Rattle.can_bus.specs.Changes.{Gives, Receives, relieved}
use Rattle.can_bus.proofs.Keeping.{Follows, IsStill}
use Rattle.can_bus.proofs.Lists.{slice_get-drop}
use Rattle.can_bus.proofs.Opened.{IsThere-at}
use Rattle.can_bus.proofs.Quiet.{queued_to-quiet, dropped_at-quiet}
use Rattle.can_bus.proofs.SocketFacts.{kept_sockets-one, follows_at_sockets, none_follows}

abbrev given : SocketId → Option Received → Entry
given s item = entry_of (Receive s) (reply.Received item)

taken_from-other : (past : List Entry) (s : SocketId) (item : Option Received) (o : ℕ) → o ≢ s.0 → taken_from (given s item ∷ past) o ≡ taken_from past o
taken_from-other past s None o differ = refl
taken_from-other past s (Some r) o differ = cond-false (o == s.0) _ _ (ne_eqb o s.0 differ)

other : (c : BusConfig) (past : List Entry) (s : SocketId) (item : Option Received) (o : ℕ) → o ≢ s.0 → kept_socket c (given s item ∷ past) o ≡ kept_socket c past o
other c past s item o differ =
    let t : taken_from (given s item ∷ past) o ≡ taken_from past o = taken_from-other past s item o differ in
    let q : queued_to c (given s item ∷ past) o ≡ queued_to c past o = queued_to-quiet c past (given s item) o refl in
    let d : dropped_at c (given s item ∷ past) o ≡ dropped_at c past o = dropped_at-quiet c past (given s item) o refl in
    cc

-- the socket from which an item was taken, as the history gives it
same : (c : BusConfig) (past : List Entry) (s : SocketId) (item : Option Received) → relieved item (kept_socket c past s.0) ≡ kept_socket c (given s item ∷ past) s.0
same c past s None =
    let q : queued_to c (given s None ∷ past) s.0 ≡ queued_to c past s.0 = queued_to-quiet c past (given s None) s.0 refl in
    let d : dropped_at c (given s None ∷ past) s.0 ≡ dropped_at c past s.0 = dropped_at-quiet c past (given s None) s.0 refl in
    cc
same c past s (Some r) =
    let q : queued_to c (given s (Some r) ∷ past) s.0 ≡ queued_to c past s.0 = queued_to-quiet c past (given s (Some r)) s.0 refl in
    let d : dropped_at c (given s (Some r) ∷ past) s.0 ≡ dropped_at c past s.0 = dropped_at-quiet c past (given s (Some r)) s.0 refl in
    let t : taken_from (given s (Some r) ∷ past) s.0 ≡ taken_from past s.0 ++ r ∷ [] = cond-true (s.0 == s.0) _ _ (eq-eqb s.0 s.0 refl) in
    let n : length (taken_from (given s (Some r) ∷ past) s.0) ≡ length (taken_from past s.0) + 1 = ap (λ (rs : List Received). length rs) t ∙ length_push (taken_from past s.0) r in
    let w : drop (length (taken_from past s.0) + 1) (queued_to c past s.0) ≡ drop 1 (drop (length (taken_from past s.0)) (queued_to c past s.0)) = sym (drop-drop 1 (length (taken_from past s.0)) (queued_to c past s.0)) in
    cc

still : (c : BusConfig) (past : List Entry) (s : SocketId) (item : Option Received) → IsStill c past (given s item)
unfolding kept_interfaces kept_keys kept_nodes kept_left
still c past s item = record { of_interfaces = refl; of_keys = refl; of_nodes = refl; of_left = refl }

reply-given : (c : BusConfig) (past : List Entry) (s : SocketId) (item : Option Received) (new : Parts) → Gives (kept_parts c past) s.0 item new → reply.Received item ≡ legal_reply c past (Receive s)
reply-given c past s item new gives =
    let at = IsThere-at c past (kept_sockets c past) s.0 gives.place gives.socket refl gives.is_at in
    let oldest : item ≡ slice_get (queued_to c past s.0) (length (taken_from past s.0)) = gives.oldest ∙ ap (λ (v : SocketState). slice_get v.waiting 0) at.left ∙ slice_get-drop (length (taken_from past s.0)) (queued_to c past s.0) in
    ap (λ (i : Option Received). reply.Received i) oldest ∙ sym (cond-true (is_open past s.0) _ _ at.is_there)

-- after an item is taken, or that is refused, the state is the one that the longer history gives
pub received_follows : (c : BusConfig) (past : List Entry) (s : SocketId) (r : Reply) (new : Parts) → Receives (kept_parts c past) s.0 r new → Follows c past (entry_of (Receive s) r) new
received_follows c past s (reply.Received item) new gives =
    follows_at_sockets c past (given s item) new _ _ (reply-given c past s item new gives) (still c past s item) refl refl
    (kept_sockets-one c past (given s item) (kept_sockets c past) _ s.0 gives.place gives.socket (relieved item) refl refl gives.is_at (other c past s item) (same c past s item) refl)
    gives.after
received_follows c past s (reply.Refused why) new none = none_follows c past (Receive s) s.0 _ why new refl tt none
received_follows c past s _ new never = absurd never

-- the answer of a receive call into a room, as the answer of one that returns the item
pub answers_item : (old new : Journal) (s : SocketId) (room : Received) (outcome : Result Bool Refusal) → Answers (taken_reply room) old (Receive s) outcome new → Answers reply.Received old (Receive s) (received_into room outcome) new
answers_item old new s room (Ok taken) answers = answers
answers_item old new s room (Err why) answers = answers
