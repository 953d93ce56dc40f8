use Rattle.std.proofs.Common.{◌≡◌, ◌≢◌, ℕ, ◌==◌, List, ◌∷◌, length, if◌then◌else◌, refl, sym, ap, ◌∙◌}
use Rattle.std.proofs.lemmas.Bool.{eq-eqb, ne_eqb, cond-true, cond-false}
use Rattle.can_filter.specs.Filters.{CanFilter}
use Rattle.can_event.specs.declared.entry.Entry.{Entry}
use Rattle.can_event.specs.declared.bus_config.BusConfig.{BusConfig}
use Rattle.can_event.specs.declared.event.Event.{Event}
use Rattle.can_event.specs.declared.event.Event.TheVariants.{SetFilters, SetOption}
use Rattle.can_event.specs.declared.opt.Opt.{Opt}
use Rattle.can_event.specs.declared.refusal.Refusal.{Refusal}
use Rattle.can_event.specs.declared.reply.Reply.{Reply}
use Rattle.can_event.specs.declared.reply.Reply.TheVariants as reply
use Rattle.can_event.specs.declared.refusal.Refusal.TheVariants as refusal
use Rattle.can_event.specs.declared.socket_id.SocketId.{SocketId}
use Rattle.can_bus.specs.Sockets.{places, open_sockets, is_open, filters_of, options_of}
use Rattle.can_event.specs.Events.{with_option}
use Rattle.can_bus.specs.Legal.{legal_reply}
use Rattle.can_bus.specs.State.{SocketState, Parts, kept_socket, kept_sockets, kept_interfaces, kept_keys, kept_nodes, kept_left, kept_parts}
use Rattle.can_bus.specs.Changes.{Sets}
use Rattle.can_bus.proofs.Keeping.{Follows, IsStill, IsUncounted}
use Rattle.can_bus.proofs.Opened.{IsThere-at}
use Rattle.can_bus.proofs.Quiet.{queued_to-quiet, dropped_at-quiet}
use Rattle.can_bus.proofs.SocketFacts.{kept_sockets-one, follows_at_sockets, none_follows}

abbrev pub entry : Event → Reply → Entry
entry e r = record { event = e; reply = r }

abbrev done_entry : Event → Entry
done_entry e = record { event = e; reply = reply.Done }

-- an event that changes one open socket in this way, and whose reply only depends on whether the socket is open
record IsSetting (c : BusConfig) (past : List Entry) (e : Event) (s : ℕ) (change : SocketState → SocketState) : Type 0 where
  answers : legal_reply c past e ≡ (if is_open past s then reply.Done else reply.Refused refusal.NoSocket)
  still : IsStill c past (done_entry e)
  uncounted : (why : Refusal) → IsUncounted e why
  of_open : open_sockets (done_entry e ∷ past) ≡ open_sockets past
  of_places : places (done_entry e ∷ past) ≡ places past
  others : (o : ℕ) → o ≢ s → kept_socket c (done_entry e ∷ past) o ≡ kept_socket c past o
  here : change (kept_socket c past s) ≡ kept_socket c (done_entry e ∷ past) s

set_follows : (c : BusConfig) (past : List Entry) (e : Event) (s : ℕ) (change : SocketState → SocketState) (r : Reply) (new : Parts) → IsSetting c past e s change → Sets (kept_parts c past) s change r new → Follows c past (entry e r) new
set_follows c past e s change reply.Done new is alters =
    let at = IsThere-at c past (kept_sockets c past) s alters.place alters.socket refl alters.is_at in
    follows_at_sockets c past (done_entry e) new _ _ (sym (is.answers ∙ cond-true (is_open past s) _ _ at.is_there)) is.still refl (ap length (sym is.of_places))
    (kept_sockets-one c past (done_entry e) (kept_sockets c past) _ s alters.place alters.socket change refl is.of_open alters.is_at is.others is.here refl)
    alters.after
set_follows c past e s change (reply.Refused why) new is none = none_follows c past e s _ why new is.answers (is.uncounted why) none
set_follows c past e s change _ new is sets = absurd sets

-- ---- filters

still-filters : (c : BusConfig) (past : List Entry) (s : SocketId) (fs : List CanFilter) → IsStill c past (done_entry (SetFilters s fs))
unfolding kept_interfaces kept_keys kept_nodes kept_left
still-filters c past s fs = record { of_interfaces = refl; of_keys = refl; of_nodes = refl; of_left = refl }

others-filters : (c : BusConfig) (past : List Entry) (s : SocketId) (fs : List CanFilter) (o : ℕ) → o ≢ s.0 → kept_socket c (done_entry (SetFilters s fs) ∷ past) o ≡ kept_socket c past o
others-filters c past s fs o differ =
    let f : filters_of (done_entry (SetFilters s fs) ∷ past) o ≡ filters_of past o = cond-false (o == s.0) _ _ (ne_eqb o s.0 differ) in
    let q = queued_to-quiet c past (done_entry (SetFilters s fs)) o refl in
    let d = dropped_at-quiet c past (done_entry (SetFilters s fs)) o refl in
    cc

here-filters : (c : BusConfig) (past : List Entry) (s : SocketId) (fs : List CanFilter) → record (kept_socket c past s.0) { filters = fs } ≡ kept_socket c (done_entry (SetFilters s fs) ∷ past) s.0
here-filters c past s fs =
    let f : filters_of (done_entry (SetFilters s fs) ∷ past) s.0 ≡ fs = cond-true (s.0 == s.0) _ _ (eq-eqb s.0 s.0 refl) in
    let q = queued_to-quiet c past (done_entry (SetFilters s fs)) s.0 refl in
    let d = dropped_at-quiet c past (done_entry (SetFilters s fs)) s.0 refl in
    cc

sets-filters : (c : BusConfig) (past : List Entry) (s : SocketId) (fs : List CanFilter) → IsSetting c past (SetFilters s fs) s.0 (λ v. record v { filters = fs })
sets-filters c past s fs = record { answers = refl; still = still-filters c past s fs; uncounted = λ why. tt; of_open = refl; of_places = refl; others = others-filters c past s fs; here = here-filters c past s fs }

-- after filters are set, or that is refused, the state is the one that the longer history gives
pub filters_follow : (c : BusConfig) (past : List Entry) (s : SocketId) (fs : List CanFilter) (r : Reply) (new : Parts) → Sets (kept_parts c past) s.0 (λ v. record v { filters = fs }) r new → Follows c past (entry (SetFilters s fs) r) new
filters_follow c past s fs r new sets = set_follows c past (SetFilters s fs) s.0 (λ v. record v { filters = fs }) r new (sets-filters c past s fs) sets

-- ---- options

still-option : (c : BusConfig) (past : List Entry) (s : SocketId) (option : Opt) → IsStill c past (done_entry (SetOption s option))
unfolding kept_interfaces kept_keys kept_nodes kept_left
still-option c past s option = record { of_interfaces = refl; of_keys = refl; of_nodes = refl; of_left = refl }

others-option : (c : BusConfig) (past : List Entry) (s : SocketId) (option : Opt) (o : ℕ) → o ≢ s.0 → kept_socket c (done_entry (SetOption s option) ∷ past) o ≡ kept_socket c past o
others-option c past s option o differ =
    let m : options_of (done_entry (SetOption s option) ∷ past) o ≡ options_of past o = cond-false (o == s.0) _ _ (ne_eqb o s.0 differ) in
    let q = queued_to-quiet c past (done_entry (SetOption s option)) o refl in
    let d = dropped_at-quiet c past (done_entry (SetOption s option)) o refl in
    cc

here-option : (c : BusConfig) (past : List Entry) (s : SocketId) (option : Opt) → record (kept_socket c past s.0) { options = with_option option (options_of past s.0) } ≡ kept_socket c (done_entry (SetOption s option) ∷ past) s.0
here-option c past s option =
    let m : options_of (done_entry (SetOption s option) ∷ past) s.0 ≡ with_option option (options_of past s.0) = cond-true (s.0 == s.0) _ _ (eq-eqb s.0 s.0 refl) in
    let q = queued_to-quiet c past (done_entry (SetOption s option)) s.0 refl in
    let d = dropped_at-quiet c past (done_entry (SetOption s option)) s.0 refl in
    cc

sets-option : (c : BusConfig) (past : List Entry) (s : SocketId) (option : Opt) → IsSetting c past (SetOption s option) s.0 (λ v. record v { options = with_option option v.options })
sets-option c past s option = record { answers = refl; still = still-option c past s option; uncounted = λ why. tt; of_open = refl; of_places = refl; others = others-option c past s option; here = here-option c past s option }

-- after an option is set, or that is refused, the state is the one that the longer history gives
pub option_follows : (c : BusConfig) (past : List Entry) (s : SocketId) (option : Opt) (r : Reply) (new : Parts) → Sets (kept_parts c past) s.0 (λ v. record v { options = with_option option v.options }) r new → Follows c past (entry (SetOption s option) r) new
option_follows c past s option r new sets = set_follows c past (SetOption s option) s.0 (λ v. record v { options = with_option option v.options }) r new (sets-option c past s option) sets
