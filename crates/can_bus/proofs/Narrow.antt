use Rattle.std.proofs.Common.{refl, ◌≡◌, ℕ, zero, suc, ◌+◌, ◌-◌, ◌^◌, ◌==◌, ◌<◌, ◌≤◌, inl, inr, nat_le, Bool, true, false, not, ◌&&◌, ◌||◌, List, [], ◌∷◌, ◌++◌, length, slice_get, Option, Some, None, All, if◌then◌else◌, arith, ap, sym, ◌∙◌}
use Rattle.std.specs.Int.Bits.{or_zero_l}
use Rattle.std.proofs.lemmas.Bool.{ne_eqb, eq-eqb, or_right, cases_eq}
use Rattle.std.proofs.lemmas.Bool.Decides.{nat_tests}
use Rattle.std.proofs.lemmas.List.Elements.{All-nil, All-cons, All-head, All-tail, All-append, All-take}
use Rattle.can_frame.specs.Frames.{ErrorMessage}
use Rattle.can_frame.specs.Sets.{is_in, bits_where}
use Rattle.can_frame.specs.declared.iface.IfaceSet.{IfaceSet}
use Rattle.can_filter.specs.Filters.{CanFilter}
use Rattle.can_filter.specs.Passing.{wants}
use Rattle.can_filter.specs.declared.options.Options.{Options}
use Rattle.can_confine.specs.Confinement.{is_down, is_off, is_silent, state_of}
use Rattle.can_fault.specs.declared.verdict.Verdict.{Verdict}
use Rattle.can_attempt.specs.Attempts.{Transmission, counts_after, set_of, off_after, is_among}
use Rattle.can_errframe.specs.ErrorMessages.{state_message, restart_message}
use Rattle.can_event.specs.declared.bus_config.BusConfig.{BusConfig}
use Rattle.can_event.specs.declared.entry.Entry.{Entry}
use Rattle.can_event.specs.declared.event.Event.{Event}
use Rattle.can_event.specs.declared.event.Event.TheVariants.{Open, Close, SetFilters, SetOption, Send, Receive, Attempt, Restart, Down}
use Rattle.can_event.specs.declared.pending.Pending.{Pending}
use Rattle.can_event.specs.declared.received.Received.{Received}
use Rattle.can_event.specs.declared.socket_id.SocketId.{SocketId}
use Rattle.can_event.specs.declared.reply.Reply.{Reply}
use Rattle.can_event.specs.declared.reply.Reply.TheVariants as reply
use Rattle.can_event.specs.declared.attempt.Tried.{Tried}
use Rattle.can_event.specs.declared.attempt.Attempt.TheVariants as attempt
use Rattle.can_event.specs.Events.{max_long_limit}
use Rattle.can_record.specs.Boxed.{needs_box, is_large, is_off_alone}
use Rattle.can_record.specs.Journal.{Kept}
use Rattle.can_bus.specs.State.{Parts, IsKept}
use Rattle.can_bus.specs.Sockets.{open_sockets, is_open, iface_of, capacity_of, filters_of, options_of}
use Rattle.can_bus.specs.Transmit.{sent_by, gone_count, head_of}
use Rattle.can_bus.specs.Counters.{state_at, transmission}
use Rattle.can_bus.specs.Attempts.{winner, attempt_reply, tried_head}
use Rattle.can_bus.specs.Posts.{Post, is_looped_back, is_own, data_posts, error_posts, attempt_posts, auto_restart_posts, posts_of, fault_message_for, role_at}
use Rattle.can_bus.specs.Queues.{passing, candidates_of, queued_to, taken_from}
use Rattle.can_bus.specs.Legal.{lacks_fd, legal_reply, IsLegal}
use Rattle.can_bus.proofs.Fitting.{if-holds}
use Rattle.can_bus.proofs.Lawful.{was_tried, sent_by-le, gone-le-sent}
use Rattle.can_bus.proofs.Bounds.{short}
use Rattle.can_bus.proofs.OffFacts.{winner-contends}

-- Every entry of a bus fits in 32 bytes, except one that sets filters: its numbers are small, and only the winner can
-- go bus off.

not_large : (n : ℕ) → n < 2 ^ 32 → is_large n ≡ false
not_large n h = grind (arith, nat_tests)

-- ---- the items that sockets receive have small numbers

abbrev IsShort : Received → Type 0
IsShort r = r.number < 2 ^ 32

abbrev IsShortPost : Post → Type 0
IsShortPost p = IsShort p.received

abbrev AreShort : List Post → Type 0
AreShort ps = All IsShortPost ps

no-posts : AreShort []
no-posts = All-nil IsShortPost

one-post : (p : Post) → IsShortPost p → AreShort (p ∷ [])
one-post p h = All-cons IsShortPost p [] h no-posts

error-posts : (i m : ℕ) (e : Option ErrorMessage) → AreShort (error_posts i m e)
error-posts i m None = no-posts
error-posts i m (Some e) = one-post _ (omega arith)

data-posts : (i : ℕ) (t : Tried) (p : Option Pending) → t.number < 2 ^ 32 → AreShort (data_posts i t p)
data-posts i t p h = if-holds AreShort (is_in i t.accepted || ((i == t.winner) && is_looped_back t.class p)) _ _ (one-post _ h) no-posts

attempt-posts : (reporting : IfaceSet) (sending : Transmission) (t : Tried) (p : Option Pending) (i : ℕ) → t.number < 2 ^ 32 → AreShort (attempt_posts reporting sending t p i)
attempt-posts reporting sending t p i h =
    let fault = fault_message_for t.class sending.verdict (role_at sending i) in
    let faults : List Post = if is_in i reporting then error_posts i t.moment fault else [] in
    let change = state_message (sending.counts i) (counts_after sending i) in
    All-append IsShortPost (data_posts i t p ++ faults) (error_posts i t.moment change)
    (All-append IsShortPost (data_posts i t p) faults (data-posts i t p h) (if-holds AreShort (is_in i reporting) (error_posts i t.moment fault) [] (error-posts i t.moment fault) no-posts))
    (error-posts i t.moment change)

auto_restart-posts : (restarted : IfaceSet) (m i : ℕ) → AreShort (auto_restart_posts restarted m i)
auto_restart-posts restarted m i = if-holds AreShort (is_in i restarted) _ _ (error-posts i m (Some restart_message)) no-posts

-- the number of frames that have left a queue is at most the number of entries
gone-short : (c : BusConfig) (past : List Entry) → IsLegal c past → length past ≤ max_long_limit → (i : ℕ) → gone_count past i < 2 ^ 32
gone-short c past legal few i = omega (arith, gone-le-sent c past legal i, sent_by-le past i)

tried-short : (c : BusConfig) (past : List Entry) (m : ℕ) (v : Verdict) (t : Tried) → IsLegal c past → length past ≤ max_long_limit → reply.Attempted (attempt.Tried t) ≡ legal_reply c past (Attempt m v) → t.number < 2 ^ 32
tried-short c past m v t legal few law =
    let was = was_tried c past m v t law in
    let is : t.number ≡ gone_count past was.place = ap (λ (u : Tried). u.number) was.is in
    omega (arith, is, gone-short c past legal few was.place)

posts-short : (c : BusConfig) (past : List Entry) (i : ℕ) (e : Event) (r : Reply) → IsLegal c past → length past ≤ max_long_limit → r ≡ legal_reply c past e → AreShort (posts_of c past i e r)
posts-short c past i (Attempt m v) (reply.Attempted (attempt.Tried t)) legal few law =
    let p = slice_get (sent_by past t.winner) t.number in
    let tr = transmission c past t.winner v in
    All-append IsShortPost (attempt_posts c.reporting tr t p i) (auto_restart_posts t.restarted m i) (attempt-posts c.reporting tr t p i (tried-short c past m v t legal few law)) (auto_restart-posts t.restarted m i)
posts-short c past i (Attempt m v) (reply.Attempted (attempt.Idle restarted)) legal few law = auto_restart-posts restarted m i
posts-short c past i (Restart k m) reply.Done legal few law = if-holds AreShort (i == k) _ _ (error-posts i m (Some restart_message)) no-posts
posts-short c past i _ _ legal few law = no-posts

passing-short : (filters : List CanFilter) (options : Options) (s : ℕ) (ps : List Post) → AreShort ps → All IsShort (passing filters options s ps)
passing-short filters options s [] h = All-nil IsShort
passing-short filters options s (p ∷ ps) h =
    let rest = passing-short filters options s ps (All-tail IsShortPost p ps h) in
    if-holds (All IsShort) (wants filters options p.received.item (is_own p.sender s)) _ _ (All-cons IsShort p.received (passing filters options s ps) (All-head IsShortPost p ps h) rest) rest

queued-short : (c : BusConfig) (past : List Entry) (s : ℕ) → IsLegal c past → length past ≤ max_long_limit → All IsShort (queued_to c past s)
queued-short c [] s legal few = All-nil IsShort
queued-short c (e ∷ past) s legal few =
    let fewer : length past ≤ max_long_limit = omega arith in
    All-append IsShort (queued_to c past s) _ (queued-short c past s legal.2 fewer)
    (All-take IsShort (capacity_of past s + length (taken_from past s) - length (queued_to c past s)) (candidates_of c past s e.event e.reply)
    (if-holds (All IsShort) (is_open past s) _ _ (passing-short (filters_of past s) (options_of past s) s (posts_of c past (iface_of past s) e.event e.reply) (posts-short c past (iface_of past s) e.event e.reply legal.2 fewer legal.1)) (All-nil IsShort)))

-- ---- only the winner can go bus off

single-below : (w n : ℕ) → n ≤ w → bits_where (λ i. is_among i (w ∷ [])) n ≡ 0
single-below w zero h = refl
single-below w (suc n) h =
    let other : (w == n) ≡ false = ne_eqb w n (λ e. absurd (omega (arith, e, h))) in
    rw other (single-below w n (omega arith))

single : (w n : ℕ) → w < n → bits_where (λ i. is_among i (w ∷ [])) n ≡ 2 ^ w
single w zero h = absurd (omega arith)
single w (suc n) h = elim (cases_eq w n) [
  | inl same ↦
      let here : (w == n) ≡ true = eq-eqb w n same in
      let below = single-below w n (omega (arith, same)) in
      rw (here, below) (or_zero_l (2 ^ n) ∙ ap (λ k. 2 ^ k) (sym same))
  | inr differ ↦
      let other : (w == n) ≡ false = ne_eqb w n differ in
      rw other (single w n (omega (arith, differ, h)))
]

alone-if : (w : ℕ) (off : Bool) → w < 16 → is_off_alone w (set_of (if off then w ∷ [] else [])) ≡ true
alone-if w false h = refl
alone-if w true h =
    let is : bits_where (λ i. is_among i (w ∷ [])) 16 ≡ 2 ^ w = single w 16 h in
    let same : (bits_where (λ i. is_among i (w ∷ [])) 16 == 2 ^ w) ≡ true = eq-eqb _ _ is in
    or_right (bits_where (λ i. is_among i (w ∷ [])) 16 == 0) _ same

off-alone : (t : Transmission) → t.winner < 16 → is_off_alone t.winner (set_of (off_after t)) ≡ true
off-alone t h = alone-if t.winner (is_off (state_of (counts_after t t.winner))) h

-- ---- the replies

narrow-if : (e : Event) (b : Bool) (x y : Reply) → needs_box e x ≡ false → needs_box e y ≡ false → needs_box e (if b then x else y) ≡ false
narrow-if e b x y hx hy = if-holds (λ r. needs_box e r ≡ false) b x y hx hy

given-narrow : (s : SocketId) (rs : List Received) (k : ℕ) → All IsShort rs → needs_box (Receive s) (reply.Received (slice_get rs k)) ≡ false
given-narrow s [] k h = refl
given-narrow s (r ∷ rs) zero h = not_large r.number (All-head IsShort r rs h)
given-narrow s (r ∷ rs) (suc k) h = given-narrow s rs k (All-tail IsShort r rs h)

head-narrow : (c : BusConfig) (past : List Entry) (m : ℕ) (v : Verdict) (w : ℕ) (p : Option Pending) → gone_count past w < 2 ^ 32 → w < 16 → needs_box (Attempt m v) (tried_head c past m v w p) ≡ false
head-narrow c past m v w None small below = refl
head-narrow c past m v w (Some p) small below =
    let number : is_large (gone_count past w) ≡ false = not_large (gone_count past w) small in
    let moment : (m == m) ≡ true = eq-eqb m m refl in
    let alone : is_off_alone w (set_of (off_after (transmission c past w v))) ≡ true = off-alone (transmission c past w v) below in
    rw (number, moment, alone) refl

attempt-narrow : (c : BusConfig) (past : List Entry) (m : ℕ) (v : Verdict) (w : Option ℕ) → winner c past ≡ w → IsLegal c past → length past ≤ max_long_limit → c.ifaces ≤ 16 → needs_box (Attempt m v) (attempt_reply c past m v w) ≡ false
attempt-narrow c past m v None who legal few most = refl
attempt-narrow c past m v (Some w) who legal few most =
    let b = (winner-contends c past w who).below in
    head-narrow c past m v w (head_of past w) (gone-short c past legal few w) (omega (arith, b, most))

-- the event sets the filters of a socket
abbrev pub SetsFilters : Event → Type 0
SetsFilters (SetFilters s f) = Unit {0}
SetsFilters _ = ⊥

legal-narrow : (c : BusConfig) (past : List Entry) (e : Event) → IsLegal c past → length past ≤ max_long_limit → c.ifaces ≤ 16 → ¬ SetsFilters e → needs_box e (legal_reply c past e) ≡ false
legal-narrow c past (Open i n) legal few most other = narrow-if (Open i n) (nat_le c.ifaces i) _ _ refl (narrow-if (Open i n) (not (nat_le 1 n && nat_le n 65536)) _ _ refl (narrow-if (Open i n) (nat_le 64 (length (open_sockets past))) _ _ refl refl))
legal-narrow c past (Close s) legal few most other = narrow-if (Close s) (is_open past s.0) _ _ refl refl
legal-narrow c past (SetFilters s f) legal few most other = absurd (other tt)
legal-narrow c past (SetOption s o) legal few most other = narrow-if (SetOption s o) (is_open past s.0) _ _ refl refl
legal-narrow c past (Send s f) legal few most other =
    let i = iface_of past s.0 in
    let small : length (sent_by past i) < 2 ^ 32 = omega (arith, sent_by-le past i) in
    let full : Bool = length (sent_by past i) - gone_count past i == c.tx_capacity in
    narrow-if (Send s f) (is_open past s.0) _ _ (narrow-if (Send s f) (lacks_fd f (options_of past s.0)) _ _ refl (narrow-if (Send s f) (is_off (state_at c past i)) _ _ refl (narrow-if (Send s f) (is_down (state_at c past i)) _ _ refl (narrow-if (Send s f) full _ _ refl (not_large (length (sent_by past i)) small))))) refl
legal-narrow c past (Receive s) legal few most other = narrow-if (Receive s) (is_open past s.0) _ _ (given-narrow s (queued_to c past s.0) (length (taken_from past s.0)) (queued-short c past s.0 legal few)) refl
legal-narrow c past (Attempt m v) legal few most other = attempt-narrow c past m v (winner c past) refl legal few most
legal-narrow c past (Restart i m) legal few most other = narrow-if (Restart i m) (nat_le c.ifaces i) _ _ refl (narrow-if (Restart i m) (is_silent (state_at c past i)) _ _ refl refl)
legal-narrow c past (Down i m) legal few most other = narrow-if (Down i m) (nat_le c.ifaces i) _ _ refl refl

-- the entry of a bus needs no box unless it sets filters
pub legal_fits : (j : Kept) (parts : Parts) (e : Event) (r : Reply) → IsKept j parts → ¬ SetsFilters e → r ≡ legal_reply j.config j.history e → needs_box e r ≡ false
legal_fits j parts e r kept other law = ap (needs_box e) law ∙ legal-narrow j.config j.history e kept.legal (short j parts kept) kept.proper.few_ifaces other
