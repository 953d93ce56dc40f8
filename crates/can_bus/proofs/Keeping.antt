use Rattle.std.proofs.Common.{◌≡◌, ◌↔◌, ℕ, ◌<◌, ◌≤◌, Bool, false, IsTrue, List, [], ◌∷◌, length, map, Option, Result, Ok, Err, refl, sym, ap, ◌∙◌, subst, arith}
use Rattle.can_attempt.specs.declared.nodes.Nodes.{Nodes}
use Rattle.can_event.specs.declared.bus_config.BusConfig.{BusConfig}
use Rattle.can_event.specs.declared.entry.Entry.{Entry}
use Rattle.can_event.specs.declared.event.Event.{Event}
use Rattle.can_event.specs.declared.event.Event.TheVariants.{Open, Close, SetFilters, SetOption, Send, Receive, Attempt, Restart, Down}
use Rattle.can_event.specs.declared.reply.Reply.{Reply}
use Rattle.can_event.specs.declared.reply.Reply.TheVariants as reply
use Rattle.can_event.specs.declared.refusal.Refusal.{Refusal}
use Rattle.can_event.specs.declared.refusal.Refusal.TheVariants as refusal
use Rattle.can_event.specs.Replies.{told}
use Rattle.can_bus.specs.Answer.{Noted, Answers, Refuses}
use Rattle.can_record.specs.Journal.{Journal, Kept}
use Rattle.can_bus.specs.Sockets.{places, open_sockets, iface_of, filters_of, options_of}
use Rattle.can_bus.specs.Posts.{posts_of}
use Rattle.can_bus.specs.Queues.{taken_from}
use Rattle.can_bus.specs.Legal.{legal_reply}
use Rattle.can_bus.specs.State.{InterfaceState, SocketState, Parts, kept_socket, kept_sockets, kept_interfaces, kept_keys, kept_nodes, kept_left, kept_parts, IsKept}
use Rattle.can_record.specs.Journal.{IsLonger}
use Rattle.can_bus.proofs.Quiet.{queued_to-quiet, dropped_at-quiet}
use Rattle.can_bus.proofs.Refusing.{never_full, never_no_memory}

-- the reply of an entry is the legal one, and the state is the one that the longer history gives
pub record Follows (c : BusConfig) (past : List Entry) (e : Entry) (parts : Parts) : Type 0 where
  pub lawful : e.reply ≡ legal_reply c past e.event
  pub after : parts ≡ kept_parts c (e ∷ past)

-- the state after one more entry
pub kept_more : (j new : Kept) (e : Entry) (parts parts' : Parts) → IsKept j parts → IsLonger j e new → length j.history < j.config.limit → Follows j.config j.history e parts' → IsKept new parts'
kept_more j new e parts parts' kept longer room follows =
    let longer_config = longer.config in
    let longer_history = longer.history in
    let is : ◌≡◌ {A = Kept} (record { config = j.config; history = e ∷ j.history; room = new.room }) new =
    ap (λ (c : BusConfig). record { config = c; history = e ∷ j.history; room = new.room }) (sym longer_config) ∙ ap (λ (h : List Entry). record { config = new.config; history = h; room = new.room }) (sym longer_history) in
    subst (λ k. IsKept k parts') is (record {
      of_parts = follows.after;
      legal = (room, follows.lawful, kept.legal);
      proper = kept.proper;
      room = omega (arith, kept.room, longer.room);
    })

-- the contract of the call, for an entry that was added
pub noted : (j new : Kept) (old : Journal) (e : Entry) → ◌≡◌ {A = Journal} (record { config = j.config; history = j.history }) old → IsLonger j e new
    → length j.history < j.config.limit → e.reply ≡ legal_reply j.config j.history e.event
    → Noted old e.event e.reply (record { config = new.config; history = new.history })
noted j new old e view longer room lawful =
    let longer_config = longer.config in
    let longer_history = longer.history in
    subst (λ (o : Journal). Noted o e.event e.reply (record { config = new.config; history = new.history })) view
    (record {
      room = room;
      lawful = lawful;
      new_is = ap (λ (c : BusConfig). record { config = c; history = new.history }) longer_config ∙ ap (λ (h : List Entry). record { config = j.config; history = h }) longer_history;
    })

refuses : (before : Journal) (event : Event) (why : Refusal) (new : Journal) → Noted before event (reply.Refused why) new → Refuses before event why new
refuses before event refusal.RecordFull new n = absurd (never_full before.config before.history event n.lawful)
refuses before event refusal.NoMemory new n = absurd (never_no_memory before.config before.history event n.lawful)
refuses before event _ new n = n

-- the reply that was recorded is the answer to the call
answered : {A : Type 0} (f : A → Reply) (before : Journal) (event : Event) (r : Result A Refusal) (new : Journal) → Noted before event (told f r) new → Answers f before event r new
answered f before event (Ok a) new n = n
answered f before event (Err why) new n = refuses before event why new n

-- a call that was recorded: its record, its state and its answer
pub record IsDone {A : Type 0} (told' : A → Reply) (before : Journal) (event : Event) (r : Result A Refusal) (new : Kept) (parts : Parts) : Type 0 where
  pub kept : IsKept new parts
  pub answers : Answers told' before event r (record { config = new.config; history = new.history })

pub not_full : (full : Bool) (n limit : ℕ) → IsTrue full ↔ (limit ≤ n) → full ≡ false → n < limit
not_full full n limit test is = grind arith

-- the record had room, the state changed in this way, and the reply was recorded
pub done : {A : Type 0} {j new : Kept} {before : Journal} {event : Event} {r : Result A Refusal} {w : Reply} {full : Bool} {parts parts' : Parts} (f : A → Reply) (Changed : Parts → Type 0)
    → ◌≡◌ {A = Journal} (record { config = j.config; history = j.history }) before → IsKept j parts
    → IsTrue full ↔ (j.config.limit ≤ length j.history) → full ≡ false → Changed parts
    → w ≡ told f r → IsLonger j (record { event = event; reply = w }) new
    → (Changed (kept_parts j.config j.history) → Follows j.config j.history (record { event = event; reply = told f r }) parts')
    → IsDone f before event r new parts'
done {A} {j} {new} {before} {event} {r} {w} {full} {parts} {parts'} f Changed view kept test is changed told_is longer follows =
    let e : Entry = record { event = event; reply = told f r } in
    let room = not_full full (length j.history) j.config.limit test is in
    let next = follows (subst Changed kept.of_parts changed) in
    let noted_is : IsLonger j e new = subst (λ (x : Reply). IsLonger j (record { event = event; reply = x }) new) told_is longer in
    record {
      kept = kept_more j new e parts parts' kept noted_is room next;
      answers = answered f before event r _ (noted j new before e view noted_is room next.lawful);
    }

pub parts-are : (p q : Parts) → p.interfaces ≡ q.interfaces → p.keys ≡ q.keys → p.nodes ≡ q.nodes → p.left ≡ q.left → p.sockets ≡ q.sockets → p.opened ≡ q.opened → p.tried ≡ q.tried → p ≡ q
parts-are p q a b c n d e f =
    ap (λ (x : List InterfaceState). record p { interfaces = x }) a
    ∙ ap (λ (x : List (Option ℕ)). record p { interfaces = q.interfaces; keys = x }) b
    ∙ ap (λ (x : Nodes). record p { interfaces = q.interfaces; keys = q.keys; nodes = x }) c
    ∙ ap (λ (x : List ℕ). record q { left = x; sockets = p.sockets; opened = p.opened; tried = p.tried }) n
    ∙ ap (λ (x : List SocketState). record q { sockets = x; opened = p.opened; tried = p.tried }) d
    ∙ ap (λ (x : ℕ). record q { opened = x; tried = p.tried }) e
    ∙ ap (λ (x : ℕ). record q { tried = x }) f

pub map_same : {X : Type 0} (f g : ℕ → X) (xs : List ℕ) → ((o : ℕ) → g o ≡ f o) → map g xs ≡ map f xs
map_same f g [] same = refl
map_same f g (x ∷ xs) same = let here = same x in let rest = map_same f g xs same in cc

-- an entry that opens, closes, sets, takes and posts nothing
pub record IsQuiet (c : BusConfig) (past : List Entry) (e : Entry) : Type 0 where
  pub of_places : places (e ∷ past) ≡ places past
  pub of_open : open_sockets (e ∷ past) ≡ open_sockets past
  pub of_filters : (o : ℕ) → filters_of (e ∷ past) o ≡ filters_of past o
  pub of_options : (o : ℕ) → options_of (e ∷ past) o ≡ options_of past o
  pub of_taken : (o : ℕ) → taken_from (e ∷ past) o ≡ taken_from past o
  pub of_posts : (o : ℕ) → posts_of c past (iface_of past o) e.event e.reply ≡ []

pub kept_socket-quiet : (c : BusConfig) (past : List Entry) (e : Entry) → IsQuiet c past e → (o : ℕ) → kept_socket c (e ∷ past) o ≡ kept_socket c past o
kept_socket-quiet c past e quiet o =
    let p = quiet.of_places in
    let f = quiet.of_filters o in
    let m = quiet.of_options o in
    let t = quiet.of_taken o in
    let q = queued_to-quiet c past e o (quiet.of_posts o) in
    let d = dropped_at-quiet c past e o (quiet.of_posts o) in
    cc

pub kept_sockets-quiet : (c : BusConfig) (past : List Entry) (e : Entry) → IsQuiet c past e → kept_sockets c (e ∷ past) ≡ kept_sockets c past
unfolding kept_sockets
kept_sockets-quiet c past e quiet = ap (map (kept_socket c (e ∷ past))) quiet.of_open ∙ map_same (kept_socket c past) (kept_socket c (e ∷ past)) (open_sockets past) (kept_socket-quiet c past e quiet)

abbrev pub refused : Event → Refusal → Entry
refused event why = record { event = event; reply = reply.Refused why }

pub refused-quiet : (c : BusConfig) (past : List Entry) (event : Event) (why : Refusal) → IsQuiet c past (refused event why)
refused-quiet c past (Open i k) why = record { of_places = refl; of_open = refl; of_filters = λ o. refl; of_options = λ o. refl; of_taken = λ o. refl; of_posts = λ o. refl }
refused-quiet c past (Close s) why = record { of_places = refl; of_open = refl; of_filters = λ o. refl; of_options = λ o. refl; of_taken = λ o. refl; of_posts = λ o. refl }
refused-quiet c past (SetFilters s f) why = record { of_places = refl; of_open = refl; of_filters = λ o. refl; of_options = λ o. refl; of_taken = λ o. refl; of_posts = λ o. refl }
refused-quiet c past (SetOption s f) why = record { of_places = refl; of_open = refl; of_filters = λ o. refl; of_options = λ o. refl; of_taken = λ o. refl; of_posts = λ o. refl }
refused-quiet c past (Send s f) why = record { of_places = refl; of_open = refl; of_filters = λ o. refl; of_options = λ o. refl; of_taken = λ o. refl; of_posts = λ o. refl }
refused-quiet c past (Receive s) why = record { of_places = refl; of_open = refl; of_filters = λ o. refl; of_options = λ o. refl; of_taken = λ o. refl; of_posts = λ o. refl }
refused-quiet c past (Attempt m v) why = record { of_places = refl; of_open = refl; of_filters = λ o. refl; of_options = λ o. refl; of_taken = λ o. refl; of_posts = λ o. refl }
refused-quiet c past (Restart i m) why = record { of_places = refl; of_open = refl; of_filters = λ o. refl; of_options = λ o. refl; of_taken = λ o. refl; of_posts = λ o. refl }
refused-quiet c past (Down i m) why = record { of_places = refl; of_open = refl; of_filters = λ o. refl; of_options = λ o. refl; of_taken = λ o. refl; of_posts = λ o. refl }

-- an entry that changes no interface
pub record IsStill (c : BusConfig) (past : List Entry) (e : Entry) : Type 0 where
  pub of_interfaces : kept_interfaces c (e ∷ past) ≡ kept_interfaces c past
  pub of_keys : kept_keys (e ∷ past) ≡ kept_keys past
  pub of_nodes : kept_nodes c (e ∷ past) ≡ kept_nodes c past
  pub of_left : kept_left c (e ∷ past) ≡ kept_left c past

-- a refusal that is not counted
abbrev pub IsUncounted : Event → Refusal → Type 0
IsUncounted (Send s f) refusal.NoBuffers = ⊥
IsUncounted event why = Unit {0}

refused-still : (c : BusConfig) (past : List Entry) (event : Event) (why : Refusal) → IsUncounted event why → IsStill c past (refused event why)
unfolding kept_interfaces kept_keys kept_nodes kept_left
refused-still c past (Open i k) why u = record { of_interfaces = refl; of_keys = refl; of_nodes = refl; of_left = refl }
refused-still c past (Close s) why u = record { of_interfaces = refl; of_keys = refl; of_nodes = refl; of_left = refl }
refused-still c past (SetFilters s f) why u = record { of_interfaces = refl; of_keys = refl; of_nodes = refl; of_left = refl }
refused-still c past (SetOption s f) why u = record { of_interfaces = refl; of_keys = refl; of_nodes = refl; of_left = refl }
refused-still c past (Send s f) refusal.NoBuffers u = absurd u
refused-still c past (Send s f) _ u = record { of_interfaces = refl; of_keys = refl; of_nodes = refl; of_left = refl }
refused-still c past (Receive s) why u = record { of_interfaces = refl; of_keys = refl; of_nodes = refl; of_left = refl }
refused-still c past (Attempt m v) why u = record { of_interfaces = refl; of_keys = refl; of_nodes = refl; of_left = refl }
refused-still c past (Restart i m) why u = record { of_interfaces = refl; of_keys = refl; of_nodes = refl; of_left = refl }
refused-still c past (Down i m) why u = record { of_interfaces = refl; of_keys = refl; of_nodes = refl; of_left = refl }

-- a refusal that is not counted leaves the state as it was
pub follows_refused : (c : BusConfig) (past : List Entry) (event : Event) (why : Refusal) (new : Parts) → IsUncounted event why → new ≡ kept_parts c past → reply.Refused why ≡ legal_reply c past event → Follows c past (refused event why) new
follows_refused c past event why new u same lawful =
    let quiet = refused-quiet c past event why in
    let still = refused-still c past event why u in
    record {
      lawful = lawful;
      after = same ∙ parts-are (kept_parts c past) (kept_parts c (refused event why ∷ past)) (sym still.of_interfaces) (sym still.of_keys) (sym still.of_nodes) (sym still.of_left) (sym (kept_sockets-quiet c past (refused event why) quiet)) (ap length (sym quiet.of_places)) refl;
    }
