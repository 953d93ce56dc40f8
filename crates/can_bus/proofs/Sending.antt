use Rattle.std.proofs.Common.{◌≡◌, ◌≢◌, ℕ, Bool, ◌+◌, ◌-◌, ◌<◌, ◌==◌, true, false, List, [], ◌∷◌, ◌++◌, length, drop, slice_get, slice_set, Option, Result, Ok, Err, refl, sym, ap, ◌∙◌, arith}
use Rattle.std.proofs.lemmas.Bool.{eq-eqb, ne_eqb, cond-true, cond-false}
use Rattle.std.proofs.lemmas.List.{length_push, length-drop, drop-append-le}
use Rattle.can_frame.specs.Frames.{CanFrame}
use Rattle.can_confine.specs.Confinement.{is_down, is_off, is_silent}
use Rattle.can_event.specs.declared.entry.Entry.{Entry}
use Rattle.can_event.specs.declared.bus_config.BusConfig.{BusConfig}
use Rattle.can_event.specs.declared.pending.Pending.{Pending}
use Rattle.can_event.specs.declared.refusal.Refusal.{Refusal}
use Rattle.can_event.specs.declared.refusal.Refusal.TheVariants as refusal
use Rattle.can_event.specs.declared.socket_id.SocketId.{SocketId}
use Rattle.can_event.specs.declared.event.Event.TheVariants.{Send}
use Rattle.can_event.specs.declared.reply.Reply.TheVariants as reply
use Rattle.can_event.specs.Replies.{told}
use Rattle.can_bus.specs.Counters.{state_at}
use Rattle.can_event.specs.Events.{IsLongConfig}
use Rattle.can_bus.specs.Legal.{lacks_fd, legal_reply, IsLegal}
use Rattle.can_bus.specs.Sockets.{iface_of, is_open, options_of}
use Rattle.can_bus.specs.Transmit.{sent_by, gone_count, head_of}
use Rattle.can_bus.specs.State.{InterfaceState, SocketState, Parts, key_in, kept_interface, kept_interfaces, kept_keys, kept_nodes, kept_left, kept_socket, kept_sockets, kept_parts}
use Rattle.can_bus.specs.Changes.{IsInterfaceOf, Takes, FindsFull, IsFdOffFor, IsOffFor, IsDownFor, Sends, pending_of, with_interface, is_down_at, is_off_at, is_silent_at}
use Rattle.can_bus.proofs.Keeping.{Follows, IsQuiet, kept_sockets-quiet, refused-quiet, follows_refused, parts-are}
use Rattle.can_bus.proofs.KeyFacts.{kept_keys-one}
use Rattle.can_bus.proofs.Lawful.{gone-le-sent, open-iface}
use Rattle.can_bus.proofs.InterfaceFacts.{IsInterface-at, kept_interfaces-one}
use Rattle.can_bus.proofs.Lists.{slice_get-drop}
use Rattle.can_bus.proofs.NodeFacts.{is_down_at-kept, is_off_at-kept, is_silent_at-kept}
use Rattle.can_bus.proofs.Opened.{IsThere-at, closed-nowhere}
use Rattle.can_bus.proofs.Silence.{down-not-off, live-not-down, live-not-off}

abbrev pub entry : SocketId → CanFrame → Result ℕ Refusal → Entry
entry s f r = record { event = Send s f; reply = told reply.Sent r }

abbrev full_entry : SocketId → CanFrame → Entry
full_entry s f = record { event = Send s f; reply = reply.Refused refusal.NoBuffers }

-- ---- the socket and the interface of a send call, as the history gives them

record IsSender (c : BusConfig) (past : List Entry) (s : ℕ) (v : SocketState) (l : InterfaceState) : Type 0 where
  there : is_open past s ≡ true
  socket : v ≡ kept_socket c past s
  iface : v.iface ≡ iface_of past s
  below : iface_of past s < c.ifaces
  interface : l ≡ kept_interface c past (iface_of past s)

sender : (c : BusConfig) (past : List Entry) (s : ℕ) (v : SocketState) (l : InterfaceState) → IsInterfaceOf (kept_parts c past) s v l → IsSender c past s v l
sender c past s v l is_interface =
    let at = IsThere-at c past (kept_sockets c past) s is_interface.place v refl is_interface.is_at in
    let iface : v.iface ≡ iface_of past s = ap (λ (w : SocketState). w.iface) at.left in
    let interface = IsInterface-at c past (kept_interfaces c past) (iface_of past s) l refl (ap (slice_get (kept_interfaces c past)) (sym iface) ∙ is_interface.interface) in
    record { there = at.is_there; socket = at.left; iface = iface; below = interface.below; interface = interface.left }

off-is : (c : BusConfig) (past : List Entry) (k i : ℕ) → k ≡ i → i < 16 → is_off_at (kept_nodes c past) k ≡ is_off (state_at c past i)
off-is c past k i same below = ap (is_off_at (kept_nodes c past)) same ∙ is_off_at-kept c past i below

down-is : (c : BusConfig) (past : List Entry) (k i : ℕ) → k ≡ i → i < 16 → is_down_at (kept_nodes c past) k ≡ is_down (state_at c past i)
down-is c past k i same below = ap (is_down_at (kept_nodes c past)) same ∙ is_down_at-kept c past i below

silent-is : (c : BusConfig) (past : List Entry) (k i : ℕ) → k ≡ i → i < 16 → is_silent_at (kept_nodes c past) k ≡ is_silent (state_at c past i)
silent-is c past k i same below = ap (is_silent_at (kept_nodes c past)) same ∙ is_silent_at-kept c past i below

may-send : (c : BusConfig) (past : List Entry) (s : ℕ) (f : CanFrame) (v : SocketState) (b : Bool) → v ≡ kept_socket c past s → lacks_fd f v.options ≡ b → lacks_fd f (options_of past s) ≡ b
may-send c past s f v b is h = ap (λ (w : SocketState). lacks_fd f w.options) (sym is) ∙ h

-- ---- the reply

waits-is : (c : BusConfig) (past : List Entry) (s : ℕ) (v : SocketState) (l : InterfaceState) → IsSender c past s v l → length l.waiting ≡ length (sent_by past (iface_of past s)) - gone_count past (iface_of past s)
waits-is c past s v l is = ap (λ (k : InterfaceState). length k.waiting) is.interface ∙ length-drop (gone_count past (iface_of past s)) (sent_by past (iface_of past s))

reply-sent : (c : BusConfig) (past : List Entry) (s : SocketId) (f : CanFrame) (v : SocketState) (l : InterfaceState) → IsSender c past s.0 v l
    → lacks_fd f (options_of past s.0) ≡ false → is_silent (state_at c past (iface_of past s.0)) ≡ false → length l.waiting < l.room → reply.Sent l.sent ≡ legal_reply c past (Send s f)
reply-sent c past s f v l is may live room =
    let i = iface_of past s.0 in
    let number : l.sent ≡ length (sent_by past i) = ap (λ (k : InterfaceState). k.sent) is.interface in
    let waits = waits-is c past s.0 v l is in
    let capacity : l.room ≡ c.tx_capacity = ap (λ (k : InterfaceState). k.room) is.interface in
    ap (λ (n : ℕ). reply.Sent n) number
    ∙ sym (cond-false (length (sent_by past i) - gone_count past i == c.tx_capacity) (reply.Refused refusal.NoBuffers) (reply.Sent (length (sent_by past i))) (ne_eqb _ _ (omega arith)))
    ∙ sym (cond-false (is_down (state_at c past i)) _ _ (live-not-down (state_at c past i) live))
    ∙ sym (cond-false (is_off (state_at c past i)) _ _ (live-not-off (state_at c past i) live))
    ∙ sym (cond-false (lacks_fd f (options_of past s.0)) _ _ may)
    ∙ sym (cond-true (is_open past s.0) _ _ is.there)

reply-full : (c : BusConfig) (past : List Entry) (s : SocketId) (f : CanFrame) (v : SocketState) (l : InterfaceState) → IsSender c past s.0 v l
    → lacks_fd f (options_of past s.0) ≡ false → is_silent (state_at c past (iface_of past s.0)) ≡ false → length l.waiting ≡ l.room → reply.Refused refusal.NoBuffers ≡ legal_reply c past (Send s f)
reply-full c past s f v l is may live full =
    let i = iface_of past s.0 in
    let waits = waits-is c past s.0 v l is in
    let capacity : l.room ≡ c.tx_capacity = ap (λ (k : InterfaceState). k.room) is.interface in
    sym (cond-true (length (sent_by past i) - gone_count past i == c.tx_capacity) (reply.Refused refusal.NoBuffers) (reply.Sent (length (sent_by past i))) (eq-eqb _ _ (omega arith)))
    ∙ sym (cond-false (is_down (state_at c past i)) _ _ (live-not-down (state_at c past i) live))
    ∙ sym (cond-false (is_off (state_at c past i)) _ _ (live-not-off (state_at c past i) live))
    ∙ sym (cond-false (lacks_fd f (options_of past s.0)) _ _ may)
    ∙ sym (cond-true (is_open past s.0) _ _ is.there)

-- ---- a frame that was accepted

sent_by-other : (past : List Entry) (s : SocketId) (f : CanFrame) (n o : ℕ) → o ≢ iface_of past s.0 → sent_by (entry s f (Ok n) ∷ past) o ≡ sent_by past o
sent_by-other past s f n o differ = cond-false (iface_of past s.0 == o) _ _ (ne_eqb _ _ (λ e. differ (sym e)))

interface-other : (c : BusConfig) (past : List Entry) (s : SocketId) (f : CanFrame) (n o : ℕ) → o ≢ iface_of past s.0 → kept_interface c (entry s f (Ok n) ∷ past) o ≡ kept_interface c past o
interface-other c past s f n o differ = ap (λ (ps : List Pending). record (kept_interface c past o) { waiting = drop (gone_count past o) ps; sent = length ps }) (sent_by-other past s f n o differ)

head-other : (past : List Entry) (s : SocketId) (f : CanFrame) (n o : ℕ) → o ≢ iface_of past s.0 → head_of (entry s f (Ok n) ∷ past) o ≡ head_of past o
head-other past s f n o differ = ap (λ (ps : List Pending). slice_get ps (gone_count past o)) (sent_by-other past s f n o differ)

-- the frames of the sender's interface
sent_by-here : (c : BusConfig) (past : List Entry) (s : SocketId) (f : CanFrame) (n : ℕ) (v : SocketState) → v ≡ kept_socket c past s.0 → sent_by (entry s f (Ok n) ∷ past) (iface_of past s.0) ≡ sent_by past (iface_of past s.0) ++ pending_of f s v ∷ []
sent_by-here c past s f n v is =
    cond-true (iface_of past s.0 == iface_of past s.0) _ _ (eq-eqb (iface_of past s.0) (iface_of past s.0) refl)
    ∙ ap (λ (w : SocketState). sent_by past (iface_of past s.0) ++ pending_of f s w ∷ []) (sym is)

waiting-here : (c : BusConfig) (past : List Entry) (s : SocketId) (f : CanFrame) (n : ℕ) (v : SocketState) → IsLegal c past
    → v ≡ kept_socket c past s.0
    → drop (gone_count past (iface_of past s.0)) (sent_by (entry s f (Ok n) ∷ past) (iface_of past s.0)) ≡ drop (gone_count past (iface_of past s.0)) (sent_by past (iface_of past s.0)) ++ pending_of f s v ∷ []
waiting-here c past s f n v legal is =
    let i = iface_of past s.0 in
    ap (drop (gone_count past i)) (sent_by-here c past s f n v is) ∙ drop-append-le (gone_count past i) (sent_by past i) _ (gone-le-sent c past legal i)

interface-sent : (c : BusConfig) (past : List Entry) (s : SocketId) (f : CanFrame) (n : ℕ) (v : SocketState) (l : InterfaceState) → IsLegal c past → IsSender c past s.0 v l → record l { waiting = l.waiting ++ pending_of f s v ∷ []; sent = l.sent + 1 } ≡ kept_interface c (entry s f (Ok n) ∷ past) (iface_of past s.0)
interface-sent c past s f n v l legal is =
    let i = iface_of past s.0 in
    let counts : length (sent_by (entry s f (Ok n) ∷ past) i) ≡ length (sent_by past i) + 1 = ap (λ (ps : List Pending). length ps) (sent_by-here c past s f n v is.socket) ∙ length_push (sent_by past i) (pending_of f s v) in
    ap (λ (k : InterfaceState). record k { waiting = k.waiting ++ pending_of f s v ∷ []; sent = k.sent + 1 }) is.interface
    ∙ ap (λ (m : ℕ). record (kept_interface c past i) { waiting = drop (gone_count past i) (sent_by past i) ++ pending_of f s v ∷ []; sent = m }) (sym counts)
    ∙ ap (λ (ps : List Pending). record (kept_interface c past i) { waiting = ps; sent = length (sent_by (entry s f (Ok n) ∷ past) i) }) (sym (waiting-here c past s f n v legal is.socket))

head-here : (c : BusConfig) (past : List Entry) (s : SocketId) (f : CanFrame) (n : ℕ) (v : SocketState) (l : InterfaceState) → IsLegal c past → IsSender c past s.0 v l → slice_get (l.waiting ++ pending_of f s v ∷ []) 0 ≡ head_of (entry s f (Ok n) ∷ past) (iface_of past s.0)
head-here c past s f n v l legal is =
    let i = iface_of past s.0 in
    ap (λ (k : InterfaceState). slice_get (k.waiting ++ pending_of f s v ∷ []) 0) is.interface
    ∙ ap (λ (ps : List Pending). slice_get ps 0) (sym (waiting-here c past s f n v legal is.socket))
    ∙ slice_get-drop (gone_count past i) (sent_by (entry s f (Ok n) ∷ past) i)

interfaces-sent : (c : BusConfig) (past : List Entry) (s : SocketId) (f : CanFrame) (n : ℕ) (v : SocketState) (l : InterfaceState) → IsLegal c past
    → IsSender c past s.0 v l
    → slice_set (kept_interfaces c past) v.iface (record l { waiting = l.waiting ++ pending_of f s v ∷ []; sent = l.sent + 1 }) ≡ kept_interfaces c (entry s f (Ok n) ∷ past)
interfaces-sent c past s f n v l legal is =
    ap (λ (k : ℕ). slice_set (kept_interfaces c past) k (record l { waiting = l.waiting ++ pending_of f s v ∷ []; sent = l.sent + 1 })) is.iface
    ∙ ap (slice_set (kept_interfaces c past) (iface_of past s.0)) (interface-sent c past s f n v l legal is)
    ∙ sym (kept_interfaces-one c past (entry s f (Ok n)) (iface_of past s.0) is.below (interface-other c past s f n))

keys-sent : (c : BusConfig) (past : List Entry) (s : SocketId) (f : CanFrame) (n : ℕ) (v : SocketState) (l : InterfaceState) → IsLegal c past
    → iface_of past s.0 < 16 → IsSender c past s.0 v l
    → slice_set (kept_keys past) v.iface (key_in (slice_get (l.waiting ++ pending_of f s v ∷ []) 0)) ≡ kept_keys (entry s f (Ok n) ∷ past)
keys-sent c past s f n v l legal few is =
    ap (λ (k : ℕ). slice_set (kept_keys past) k (key_in (slice_get (l.waiting ++ pending_of f s v ∷ []) 0))) is.iface
    ∙ ap (λ (p : Option Pending). slice_set (kept_keys past) (iface_of past s.0) (key_in p)) (head-here c past s f n v l legal is)
    ∙ sym (kept_keys-one past (entry s f (Ok n)) (iface_of past s.0) few (head-other past s f n))

sent-quiet : (c : BusConfig) (past : List Entry) (s : SocketId) (f : CanFrame) (n : ℕ) → IsQuiet c past (entry s f (Ok n))
sent-quiet c past s f n = record { of_places = refl; of_open = refl; of_filters = λ o. refl; of_options = λ o. refl; of_taken = λ o. refl; of_posts = λ o. refl }

nodes-sent : (c : BusConfig) (past : List Entry) (s : SocketId) (f : CanFrame) (n : ℕ) → kept_nodes c (entry s f (Ok n) ∷ past) ≡ kept_nodes c past
unfolding kept_nodes
nodes-sent c past s f n = refl

left-sent : (c : BusConfig) (past : List Entry) (s : SocketId) (f : CanFrame) (n : ℕ) → kept_left c (entry s f (Ok n) ∷ past) ≡ kept_left c past
unfolding kept_left
left-sent c past s f n = refl

taken_follows : (c : BusConfig) (past : List Entry) (s : SocketId) (f : CanFrame) (n : ℕ) (new : Parts) → IsLongConfig c → IsLegal c past → Takes (kept_parts c past) s.0 n (pending_of f s) new → Follows c past (entry s f (Ok n)) new
taken_follows c past s f n new proper legal takes =
    let e = entry s f (Ok n) in
    let v = takes.socket in
    let l = takes.interface in
    let is = sender c past s.0 v l takes.is_interface in
    let few : iface_of past s.0 < 16 = omega (arith, is.below, proper.few_ifaces) in
    let live : is_silent (state_at c past (iface_of past s.0)) ≡ false = sym (silent-is c past v.iface (iface_of past s.0) is.iface few) ∙ takes.live in
    record {
      lawful = ap (λ (m : ℕ). reply.Sent m) takes.number ∙ reply-sent c past s f v l is (may-send c past s.0 f v false is.socket takes.may) live takes.room;
      after = takes.after ∙ parts-are (with_interface (kept_parts c past) v.iface (record l { waiting = l.waiting ++ pending_of f s v ∷ []; sent = l.sent + 1 })) (kept_parts c (e ∷ past))
          (interfaces-sent c past s f n v l legal is)
          (keys-sent c past s f n v l legal few is)
          (sym (nodes-sent c past s f n))
          (sym (left-sent c past s f n))
          (sym (kept_sockets-quiet c past e (sent-quiet c past s f n)))
          refl refl;
    }

-- ---- a frame that was refused because the queue was full

full-other : (c : BusConfig) (past : List Entry) (s : SocketId) (f : CanFrame) (o : ℕ) → o ≢ iface_of past s.0 → kept_interface c (full_entry s f ∷ past) o ≡ kept_interface c past o
full-other c past s f o differ = ap (λ (m : ℕ). record (kept_interface c past o) { refused = m }) (cond-false (iface_of past s.0 == o) _ _ (ne_eqb _ _ (λ e. differ (sym e))))

full-here : (c : BusConfig) (past : List Entry) (s : SocketId) (f : CanFrame) (v : SocketState) (l : InterfaceState) → IsSender c past s.0 v l → record l { refused = l.refused + 1 } ≡ kept_interface c (full_entry s f ∷ past) (iface_of past s.0)
full-here c past s f v l is =
    let i = iface_of past s.0 in
    ap (λ (k : InterfaceState). record k { refused = k.refused + 1 }) is.interface
    ∙ ap (λ (m : ℕ). record (kept_interface c past i) { refused = m }) (sym (cond-true (iface_of past s.0 == iface_of past s.0) _ _ (eq-eqb (iface_of past s.0) (iface_of past s.0) refl)))

interfaces-full : (c : BusConfig) (past : List Entry) (s : SocketId) (f : CanFrame) (v : SocketState) (l : InterfaceState) → IsSender c past s.0 v l → slice_set (kept_interfaces c past) v.iface (record l { refused = l.refused + 1 }) ≡ kept_interfaces c (full_entry s f ∷ past)
interfaces-full c past s f v l is =
    ap (λ (k : ℕ). slice_set (kept_interfaces c past) k (record l { refused = l.refused + 1 })) is.iface
    ∙ ap (slice_set (kept_interfaces c past) (iface_of past s.0)) (full-here c past s f v l is)
    ∙ sym (kept_interfaces-one c past (full_entry s f) (iface_of past s.0) is.below (full-other c past s f))

nodes-full : (c : BusConfig) (past : List Entry) (s : SocketId) (f : CanFrame) → kept_nodes c (full_entry s f ∷ past) ≡ kept_nodes c past
unfolding kept_nodes
nodes-full c past s f = refl

left-full : (c : BusConfig) (past : List Entry) (s : SocketId) (f : CanFrame) → kept_left c (full_entry s f ∷ past) ≡ kept_left c past
unfolding kept_left
left-full c past s f = refl

keys-full : (past : List Entry) (s : SocketId) (f : CanFrame) → kept_keys (full_entry s f ∷ past) ≡ kept_keys past
unfolding kept_keys
keys-full past s f = refl

full_follows : (c : BusConfig) (past : List Entry) (s : SocketId) (f : CanFrame) (new : Parts) → IsLongConfig c → FindsFull (kept_parts c past) s.0 (pending_of f s) new → Follows c past (full_entry s f) new
full_follows c past s f new proper full =
    let e = full_entry s f in
    let v = full.socket in
    let l = full.interface in
    let is = sender c past s.0 v l full.is_interface in
    let few : iface_of past s.0 < 16 = omega (arith, is.below, proper.few_ifaces) in
    let live : is_silent (state_at c past (iface_of past s.0)) ≡ false = sym (silent-is c past v.iface (iface_of past s.0) is.iface few) ∙ full.live in
    record {
      lawful = reply-full c past s f v l is (may-send c past s.0 f v false is.socket full.may) live full.full;
      after = full.after ∙ parts-are (record (kept_parts c past) { interfaces = slice_set (kept_interfaces c past) v.iface (record l { refused = l.refused + 1 }) }) (kept_parts c (e ∷ past))
          (interfaces-full c past s f v l is)
          (sym (keys-full past s f))
          (sym (nodes-full c past s f))
          (sym (left-full c past s f))
          (sym (kept_sockets-quiet c past e (refused-quiet c past (Send s f) refusal.NoBuffers)))
          refl refl;
    }

-- ---- refusals that are not counted

reply-off : (c : BusConfig) (past : List Entry) (s : SocketId) (f : CanFrame) → IsLongConfig c → IsLegal c past → IsOffFor (kept_parts c past) s.0 (pending_of f s) → reply.Refused refusal.BusOff ≡ legal_reply c past (Send s f)
reply-off c past s f proper legal off =
    let at = IsThere-at c past (kept_sockets c past) s.0 off.place off.socket refl off.is_at in
    let below = open-iface c past legal off.place s.0 at.listed in
    let few : iface_of past s.0 < 16 = omega (arith, below, proper.few_ifaces) in
    let dead : is_off (state_at c past (iface_of past s.0)) ≡ true = sym (off-is c past off.socket.iface (iface_of past s.0) (ap (λ (w : SocketState). w.iface) at.left) few) ∙ off.off in
    sym (cond-true (is_off (state_at c past (iface_of past s.0))) _ _ dead)
    ∙ sym (cond-false (lacks_fd f (options_of past s.0)) _ _ (may-send c past s.0 f off.socket false at.left off.may))
    ∙ sym (cond-true (is_open past s.0) _ _ at.is_there)

reply-down : (c : BusConfig) (past : List Entry) (s : SocketId) (f : CanFrame) → IsLongConfig c → IsLegal c past → IsDownFor (kept_parts c past) s.0 (pending_of f s) → reply.Refused refusal.Down ≡ legal_reply c past (Send s f)
reply-down c past s f proper legal is =
    let at = IsThere-at c past (kept_sockets c past) s.0 is.place is.socket refl is.is_at in
    let below = open-iface c past legal is.place s.0 at.listed in
    let few : iface_of past s.0 < 16 = omega (arith, below, proper.few_ifaces) in
    let state = state_at c past (iface_of past s.0) in
    let down : is_down state ≡ true = sym (down-is c past is.socket.iface (iface_of past s.0) (ap (λ (w : SocketState). w.iface) at.left) few) ∙ is.down in
    sym (cond-true (is_down state) _ _ down)
    ∙ sym (cond-false (is_off state) _ _ (down-not-off state down))
    ∙ sym (cond-false (lacks_fd f (options_of past s.0)) _ _ (may-send c past s.0 f is.socket false at.left is.may))
    ∙ sym (cond-true (is_open past s.0) _ _ at.is_there)

reply-fd-off : (c : BusConfig) (past : List Entry) (s : SocketId) (f : CanFrame) → IsFdOffFor (kept_parts c past) s.0 (pending_of f s) → reply.Refused refusal.FdOff ≡ legal_reply c past (Send s f)
reply-fd-off c past s f off =
    let at = IsThere-at c past (kept_sockets c past) s.0 off.place off.socket refl off.is_at in
    sym (cond-true (lacks_fd f (options_of past s.0)) _ _ (may-send c past s.0 f off.socket true at.left off.lacks)) ∙ sym (cond-true (is_open past s.0) _ _ at.is_there)

-- after a frame is sent, or that is refused, the state is the one that the longer history gives
pub sent_follows : (c : BusConfig) (past : List Entry) (s : SocketId) (f : CanFrame) (r : Result ℕ Refusal) (new : Parts) → IsLongConfig c → IsLegal c past → Sends (kept_parts c past) s.0 (pending_of f s) r new → Follows c past (entry s f r) new
sent_follows c past s f (Ok n) new proper legal takes = taken_follows c past s f n new proper legal takes
sent_follows c past s f (Err refusal.NoSocket) new proper legal refuses =
    let shut = closed-nowhere c past (kept_sockets c past) s.0 refl refuses.0 in
    follows_refused c past (Send s f) refusal.NoSocket new tt refuses.1 (sym (cond-false (is_open past s.0) _ _ shut))
sent_follows c past s f (Err refusal.FdOff) new proper legal refuses = follows_refused c past (Send s f) refusal.FdOff new tt refuses.1 (reply-fd-off c past s f refuses.0)
sent_follows c past s f (Err refusal.BusOff) new proper legal refuses = follows_refused c past (Send s f) refusal.BusOff new tt refuses.1 (reply-off c past s f proper legal refuses.0)
sent_follows c past s f (Err refusal.Down) new proper legal refuses = follows_refused c past (Send s f) refusal.Down new tt refuses.1 (reply-down c past s f proper legal refuses.0)
sent_follows c past s f (Err refusal.NoBuffers) new proper legal full = full_follows c past s f new proper full
sent_follows c past s f (Err _) new proper legal refuses = absurd refuses
