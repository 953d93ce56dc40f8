use Rattle.std.proofs.Common.{refl, ◌≡◌, ℕ, zero, suc, ◌+◌, ◌-◌, ◌==◌, nat_le, Bool, true, false, not, ◌&&◌, ◌||◌, List, [], ◌∷◌, ◌++◌, length, slice_get, Option, Some, None, All, IsTrue, if◌then◌else◌, filter, arith, ap, sym, subst}
use Rattle.std.specs.List.{range_with_len}
use Rattle.std.proofs.lemmas.Bool.{ne_eqb}
use Rattle.std.proofs.lemmas.List.Elements.{All-nil, All-cons, All-head, All-tail, All-append, All-take}
use Rattle.can_frame.specs.Frames.{ErrorMessage}
use Rattle.can_frame.specs.Sets.{is_in, no_ifaces}
use Rattle.can_frame.specs.declared.iface.IfaceSet.{IfaceSet}
use Rattle.can_filter.specs.Filters.{CanFilter}
use Rattle.can_filter.specs.Passing.{wants}
use Rattle.can_filter.specs.declared.options.Options.{Options}
use Rattle.can_confine.specs.Confinement.{is_down, is_off, is_silent}
use Rattle.can_fault.specs.declared.verdict.Verdict.{Verdict}
use Rattle.can_attempt.specs.Attempts.{Transmission, counts_after, set_of}
use Rattle.can_errframe.specs.ErrorMessages.{state_message, restart_message}
use Rattle.can_event.specs.declared.bus_config.BusConfig.{BusConfig}
use Rattle.can_event.specs.declared.entry.Entry.{Entry}
use Rattle.can_event.specs.declared.event.Event.{Event}
use Rattle.can_event.specs.declared.event.Event.TheVariants.{Open, Close, SetFilters, SetOption, Send, Receive, Attempt, Restart, Down}
use Rattle.can_event.specs.declared.pending.Pending.{Pending}
use Rattle.can_event.specs.declared.received.Received.{Received}
use Rattle.can_event.specs.declared.reply.Reply.{Reply}
use Rattle.can_event.specs.declared.reply.Reply.TheVariants as reply
use Rattle.can_event.specs.declared.attempt.Tried.{Tried}
use Rattle.can_event.specs.declared.attempt.Attempt.TheVariants as attempt
use Rattle.can_bus.specs.Sockets.{open_sockets, is_open, iface_of, capacity_of, filters_of, options_of}
use Rattle.can_bus.specs.Transmit.{sent_by, gone_count, head_of}
use Rattle.can_bus.specs.Counters.{state_at, transmission}
use Rattle.can_bus.specs.Attempts.{winner, attempt_reply, tried_head}
use Rattle.can_bus.specs.Posts.{Post, is_looped_back, is_own, data_posts, error_posts, attempt_posts, auto_restart_posts, posts_of, fault_message_for, role_at}
use Rattle.can_bus.specs.Queues.{passing, candidates_of, queued_to, taken_from}
use Rattle.can_bus.specs.Legal.{lacks_fd, legal_reply, IsLegal}
use Rattle.can_bus.specs.Run.{IsAnswer}
use Rattle.can_bus.specs.AutoRestart.{attempts_off, is_nth_after, is_due, restarted_next}
use Rattle.can_event.specs.Events.{max_rx_capacity, restarted_in}
use Rattle.can_event.specs.Replies.{Suits}
use Rattle.can_event.specs.Spelled.{IsNumbered, AreNumbered, FitsReply, MayRestart, IsSpelled}
use Rattle.can_frame.specs.Frames.{CanFrame, is_fd}
use Rattle.std.proofs.lemmas.Bool.{and_parts}

-- Each legal reply fits its event, so each entry of a legal history has a line.

pub if-holds : {X : Type 0} (P : X → Type 0) (b : Bool) (x y : X) → P x → P y → P (if b then x else y)
if-holds P true x y hx hy = hx
if-holds P false x y hx hy = hy

if-told : {X : Type 0} (P : X → Type 0) (b : Bool) (x y : X) → (b ≡ true → P x) → P y → P (if b then x else y)
if-told P true x y hx hy = hx refl
if-told P false x y hx hy = hy

asks-fd : (f : CanFrame) (o : Options) → lacks_fd f o ≡ true → IsTrue (is_fd f.payload)
asks-fd f o h = (and_parts (is_fd f.payload) (not o.fd) h).0

-- ---- the items that sockets receive

abbrev IsPost : Post → Type 0
IsPost p = IsNumbered p.received

abbrev ArePosts : List Post → Type 0
ArePosts ps = All IsPost ps

no-posts : ArePosts []
no-posts = All-nil IsPost

one-post : (p : Post) → IsPost p → ArePosts (p ∷ [])
one-post p h = All-cons IsPost p [] h no-posts

error-posts : (i m : ℕ) (e : Option ErrorMessage) → ArePosts (error_posts i m e)
error-posts i m None = no-posts
error-posts i m (Some e) = one-post _ refl

data-posts : (i : ℕ) (t : Tried) (p : Option Pending) → ArePosts (data_posts i t p)
data-posts i t p = if-holds ArePosts (is_in i t.accepted || ((i == t.winner) && is_looped_back t.class p)) _ _ (one-post _ tt) no-posts

attempt-posts : (reporting : IfaceSet) (sending : Transmission) (t : Tried) (p : Option Pending) (i : ℕ) → ArePosts (attempt_posts reporting sending t p i)
attempt-posts reporting sending t p i =
    let fault = fault_message_for t.class sending.verdict (role_at sending i) in
    let faults : List Post = if is_in i reporting then error_posts i t.moment fault else [] in
    let change = state_message (sending.counts i) (counts_after sending i) in
    All-append IsPost (data_posts i t p ++ faults) (error_posts i t.moment change)
    (All-append IsPost (data_posts i t p) faults (data-posts i t p) (if-holds ArePosts (is_in i reporting) (error_posts i t.moment fault) [] (error-posts i t.moment fault) no-posts))
    (error-posts i t.moment change)

auto_restart-posts : (restarted : IfaceSet) (m i : ℕ) → ArePosts (auto_restart_posts restarted m i)
auto_restart-posts restarted m i = if-holds ArePosts (is_in i restarted) _ _ (error-posts i m (Some restart_message)) no-posts

posts-numbered : (c : BusConfig) (past : List Entry) (i : ℕ) (e : Event) (r : Reply) → ArePosts (posts_of c past i e r)
posts-numbered c past i (Attempt m v) (reply.Attempted (attempt.Tried t)) =
    let p = slice_get (sent_by past t.winner) t.number in
    let tr = transmission c past t.winner v in
    All-append IsPost (attempt_posts c.reporting tr t p i) (auto_restart_posts t.restarted m i) (attempt-posts c.reporting tr t p i) (auto_restart-posts t.restarted m i)
posts-numbered c past i (Attempt m v) (reply.Attempted (attempt.Idle restarted)) = auto_restart-posts restarted m i
posts-numbered c past i (Restart k m) reply.Done = if-holds ArePosts (i == k) _ _ (error-posts i m (Some restart_message)) no-posts
posts-numbered c past i _ _ = no-posts

passing-numbered : (filters : List CanFilter) (options : Options) (s : ℕ) (ps : List Post) → ArePosts ps → All IsNumbered (passing filters options s ps)
passing-numbered filters options s [] h = All-nil IsNumbered
passing-numbered filters options s (p ∷ ps) h =
    let rest = passing-numbered filters options s ps (All-tail IsPost p ps h) in
    if-holds (All IsNumbered) (wants filters options p.received.item (is_own p.sender s)) _ _ (All-cons IsNumbered p.received (passing filters options s ps) (All-head IsPost p ps h) rest) rest

queued-numbered : (c : BusConfig) (past : List Entry) (s : ℕ) → All IsNumbered (queued_to c past s)
queued-numbered c [] s = All-nil IsNumbered
queued-numbered c (e ∷ past) s =
    All-append IsNumbered (queued_to c past s) _ (queued-numbered c past s)
    (All-take IsNumbered (capacity_of past s + length (taken_from past s) - length (queued_to c past s)) (candidates_of c past s e.event e.reply)
    (if-holds (All IsNumbered) (is_open past s) _ _ (passing-numbered (filters_of past s) (options_of past s) s (posts_of c past (iface_of past s) e.event e.reply) (posts-numbered c past (iface_of past s) e.event e.reply)) (All-nil IsNumbered)))

given-numbered : (rs : List Received) (k : ℕ) → All IsNumbered rs → AreNumbered (slice_get rs k)
given-numbered [] k h = tt
given-numbered (r ∷ rs) zero h = All-head IsNumbered r rs h
given-numbered (r ∷ rs) (suc k) h = given-numbered rs k (All-tail IsNumbered r rs h)

-- ---- the replies

head-fits : (c : BusConfig) (past : List Entry) (m : ℕ) (v : Verdict) (w : ℕ) (p : Option Pending) → FitsReply (Attempt m v) (tried_head c past m v w p)
head-fits c past m v w None = tt
head-fits c past m v w (Some p) = refl

attempt-fits : (c : BusConfig) (past : List Entry) (m : ℕ) (v : Verdict) (w : Option ℕ) → FitsReply (Attempt m v) (attempt_reply c past m v w)
attempt-fits c past m v None = tt
attempt-fits c past m v (Some w) = head-fits c past m v w (head_of past w)

legal-fits : (c : BusConfig) (past : List Entry) (e : Event) → FitsReply e (legal_reply c past e)
legal-fits c past (Open i n) = if-holds (FitsReply (Open i n)) (nat_le c.ifaces i) _ _ refl (if-holds (FitsReply (Open i n)) (not (nat_le 1 n && nat_le n max_rx_capacity)) _ _ refl (if-holds (FitsReply (Open i n)) (nat_le 64 (length (open_sockets past))) _ _ refl tt))
legal-fits c past (Close s) = if-holds (FitsReply (Close s)) (is_open past s.0) _ _ tt refl
legal-fits c past (SetFilters s f) = if-holds (FitsReply (SetFilters s f)) (is_open past s.0) _ _ tt refl
legal-fits c past (SetOption s o) = if-holds (FitsReply (SetOption s o)) (is_open past s.0) _ _ tt refl
legal-fits c past (Send s f) =
    let i = iface_of past s.0 in
    let full : Bool = length (sent_by past i) - gone_count past i == c.tx_capacity in
    if-holds (FitsReply (Send s f)) (is_open past s.0) _ _
    (if-told (FitsReply (Send s f)) (lacks_fd f (options_of past s.0)) _ _ (asks-fd f (options_of past s.0)) (if-holds (FitsReply (Send s f)) (is_off (state_at c past i)) _ _ refl (if-holds (FitsReply (Send s f)) (is_down (state_at c past i)) _ _ refl (if-holds (FitsReply (Send s f)) full _ _ refl tt))))
    refl
legal-fits c past (Receive s) = if-holds (FitsReply (Receive s)) (is_open past s.0) _ _ (given-numbered (queued_to c past s.0) (length (taken_from past s.0)) (queued-numbered c past s.0)) refl
legal-fits c past (Attempt m v) = attempt-fits c past m v (winner c past)
legal-fits c past (Restart i m) = if-holds (FitsReply (Restart i m)) (nat_le c.ifaces i) _ _ refl (if-holds (FitsReply (Restart i m)) (is_silent (state_at c past i)) _ _ tt refl)
legal-fits c past (Down i m) = if-holds (FitsReply (Down i m)) (nat_le c.ifaces i) _ _ refl tt

-- an entry with the legal reply has a line
pub legal_is_spelled : (c : BusConfig) (past : List Entry) (e : Event) (r : Reply) → r ≡ legal_reply c past e → FitsReply e r
legal_is_spelled c past e r law = subst (FitsReply e) (sym law) (legal-fits c past e)

-- an answer is a reply of its event's kind
pub answer_suits : (c : BusConfig) (past : List Entry) (e : Event) (r : Reply) → IsAnswer c past e r → Suits e r
answer_suits c past e (reply.Refused why) answer = tt
answer_suits c past e r answer = legal_is_spelled c past e r answer.1

-- ---- restarts

-- only the reply to an attempt names restarted interfaces
none-if : (b : Bool) (x y : Reply) → restarted_in x ≡ no_ifaces → restarted_in y ≡ no_ifaces → restarted_in (if b then x else y) ≡ no_ifaces
none-if b x y hx hy = if-holds (λ r. restarted_in r ≡ no_ifaces) b x y hx hy

-- on a bus without automatic restart, no restart is due
never-due : (n : ℕ) (past : List Entry) (i : ℕ) → n ≡ 0 → is_nth_after n (attempts_off past i) ≡ false
never-due n past i never = when (attempts_off past i)
  where
    when : (k : Option ℕ) → is_nth_after n k ≡ false
    when None = refl
    when (Some k) = ne_eqb (suc k) n (λ same. absurd (omega (arith, same, never)))

nobody : (c : BusConfig) (past : List Entry) (is : List ℕ) → c.auto_restart ≡ 0 → filter (is_due c past) is ≡ []
nobody c past [] never = refl
nobody c past (i ∷ is) never = let here = never-due c.auto_restart past i never in rw here (nobody c past is never)

pub never-restarted : (c : BusConfig) (past : List Entry) → c.auto_restart ≡ 0 → restarted_next c past ≡ no_ifaces
never-restarted c past never = ap set_of (nobody c past (range_with_len 0 c.ifaces) never)

head-restarts : (c : BusConfig) (past : List Entry) (m : ℕ) (v : Verdict) (w : ℕ) (p : Option Pending) → MayRestart c (tried_head c past m v w p)
head-restarts c past m v w None never = never-restarted c past never
head-restarts c past m v w (Some p) never = never-restarted c past never

attempt-restarts : (c : BusConfig) (past : List Entry) (m : ℕ) (v : Verdict) (w : Option ℕ) → MayRestart c (attempt_reply c past m v w)
attempt-restarts c past m v None never = never-restarted c past never
attempt-restarts c past m v (Some w) never = head-restarts c past m v w (head_of past w) never

legal-restarts : (c : BusConfig) (past : List Entry) (e : Event) → MayRestart c (legal_reply c past e)
legal-restarts c past (Open i n) never = none-if (nat_le c.ifaces i) _ _ refl (none-if (not (nat_le 1 n && nat_le n max_rx_capacity)) _ _ refl (none-if (nat_le 64 (length (open_sockets past))) _ _ refl refl))
legal-restarts c past (Close s) never = none-if (is_open past s.0) _ _ refl refl
legal-restarts c past (SetFilters s f) never = none-if (is_open past s.0) _ _ refl refl
legal-restarts c past (SetOption s o) never = none-if (is_open past s.0) _ _ refl refl
legal-restarts c past (Send s f) never =
    let i = iface_of past s.0 in
    let full : Bool = length (sent_by past i) - gone_count past i == c.tx_capacity in
    none-if (is_open past s.0) _ _ (none-if (lacks_fd f (options_of past s.0)) _ _ refl (none-if (is_off (state_at c past i)) _ _ refl (none-if (is_down (state_at c past i)) _ _ refl (none-if full _ _ refl refl)))) refl
legal-restarts c past (Receive s) never = none-if (is_open past s.0) _ _ refl refl
legal-restarts c past (Attempt m v) never = attempt-restarts c past m v (winner c past) never
legal-restarts c past (Restart i m) never = none-if (nat_le c.ifaces i) _ _ refl (none-if (is_silent (state_at c past i)) _ _ refl refl)
legal-restarts c past (Down i m) never = none-if (nat_le c.ifaces i) _ _ refl refl

-- an entry with the legal reply has a line in the text of a record with its configuration
pub legal_has_line : (c : BusConfig) (past : List Entry) (e : Event) (r : Reply) → r ≡ legal_reply c past e → IsSpelled c (record { event = e; reply = r })
legal_has_line c past e r law = record { fits = legal_is_spelled c past e r law; restarts = subst (MayRestart c) (sym law) (legal-restarts c past e) }

-- each entry of a legal history has a line
pub legal-spelled : (c : BusConfig) (past : List Entry) → IsLegal c past → All (IsSpelled c) past
legal-spelled c [] legal = All-nil (IsSpelled c)
legal-spelled c (e ∷ past) legal = All-cons (IsSpelled c) e past (legal_has_line c past e.event e.reply legal.1) (legal-spelled c past legal.2)
