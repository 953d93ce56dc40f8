use Rattle.std.proofs.Common.{◌≡◌, ℕ, zero, suc, ◌+◌, ◌-◌, ◌==◌, nat_lt, Bool, true, false, ◌&&◌, List, [], ◌∷◌, ◌++◌, length, map, take, filter, slice_get, Option, Some, None, if◌then◌else◌, cond, refl, sym, ap, ◌∙◌, arith, append-nil}
use Rattle.std.proofs.lemmas.List.Elements.{filter-append}
use Rattle.can_frame.specs.Frames.{ErrorMessage}
use Rattle.can_frame.specs.Sets.{is_in}
use Rattle.can_frame.specs.declared.item.Item.TheVariants as item
use Rattle.can_frame.specs.declared.iface.IfaceSet.{IfaceSet}
use Rattle.can_filter.specs.Filters.{CanFilter}
use Rattle.can_filter.specs.declared.options.Options.{Options}
use Rattle.can_filter.specs.Passing.{wants}
use Rattle.can_fault.specs.declared.verdict.Verdict.{Verdict}
use Rattle.can_attempt.specs.Attempts.{Transmission, counts_after}
use Rattle.can_errframe.specs.ErrorMessages.{state_message, restart_message}
use Rattle.can_event.specs.declared.entry.Entry.{Entry}
use Rattle.can_event.specs.declared.event.Event.{Event}
use Rattle.can_event.specs.declared.event.Event.TheVariants.{Open, Close, SetFilters, SetOption, Send, Receive, Attempt, Restart, Down}
use Rattle.can_event.specs.declared.reply.Reply.{Reply}
use Rattle.can_event.specs.declared.reply.Reply.TheVariants as reply
use Rattle.can_event.specs.declared.bus_config.BusConfig.{BusConfig}
use Rattle.can_event.specs.declared.received.Received.{Received}
use Rattle.can_event.specs.declared.attempt.Tried.{Tried}
use Rattle.can_event.specs.declared.attempt.Attempt.TheVariants as attempt
use Rattle.can_event.specs.declared.pending.Pending.{Pending}
use Rattle.can_bus.specs.Sockets.{is_open, iface_of, capacity_of, filters_of, options_of}
use Rattle.can_bus.specs.Transmit.{sent_by}
use Rattle.can_bus.specs.Counters.{transmission}
use Rattle.can_bus.specs.Posts.{Post, is_own, sender_in, posts_of, data_posts, error_posts, attempt_posts, restart_posts, auto_restart_posts, fault_message_for, role_at}
use Rattle.can_bus.specs.Queues.{taken_from, queued_to, candidates_of, passing}
use Rattle.can_bus.specs.Legal.{legal_reply, IsLegal}
use Rattle.can_bus.specs.Copies.{is_data, is_from, received_from, comes_to, has_room, is_copied, copying, copying_after, copy_of}
use Rattle.can_bus.proofs.Lawful.{by_attempt}
use Rattle.can_bus.proofs.Quiet.{take_nil}

-- ---- error message frames are not data frames

abbrev AreErrors : List Post → Type 0
AreErrors [] = Unit {0}
AreErrors (p ∷ ps) = (is_data p.received.item ≡ false) × AreErrors ps

AreErrors-posts : (i m : ℕ) (e : Option ErrorMessage) → AreErrors (error_posts i m e)
AreErrors-posts i m None = tt
AreErrors-posts i m (Some e) = (refl, tt)

AreErrors-if : (b : Bool) (ps : List Post) → AreErrors ps → AreErrors (if b then ps else [])
AreErrors-if true ps h = h
AreErrors-if false ps h = tt

AreErrors-append : (ps qs : List Post) → AreErrors ps → AreErrors qs → AreErrors (ps ++ qs)
AreErrors-append [] qs h k = k
AreErrors-append (p ∷ ps) qs h k = (h.0, AreErrors-append ps qs h.1 k)

abbrev NoData : List Received → Type 0
NoData [] = Unit {0}
NoData (r ∷ rs) = (is_data r.item ≡ false) × NoData rs

NoData-passing : (fs : List CanFilter) (o : Options) (s : ℕ) (ps : List Post) → AreErrors ps → NoData (passing fs o s ps)
NoData-passing fs o s [] h = tt
NoData-passing fs o s (p ∷ ps) h =
    elim (wants fs o p.received.item (is_own p.sender s)) as (λ b. NoData (if b then p.received ∷ passing fs o s ps else passing fs o s ps))
    [ true ↦ (h.0, NoData-passing fs o s ps h.1) | false ↦ NoData-passing fs o s ps h.1 ]

none-taken : (i n : ℕ) (rs : List Received) → NoData rs → filter (is_from i) (take n rs) ≡ []
none-taken i zero rs h = refl
none-taken i (suc n) [] h = refl
none-taken i (suc n) (r ∷ rs) h =
    let rest : filter (is_from i) (take n rs) ≡ [] = none-taken i n rs h.1 in
    ap (λ b. cond (b && (r.from == i)) (r ∷ filter (is_from i) (take n rs)) (filter (is_from i) (take n rs))) h.0 ∙ rest

-- ---- the items that one entry adds

one-taken : (i room : ℕ) (r : Received) (rs : List Received) (b : Bool) → is_data r.item ≡ true → NoData rs → nat_lt 0 room ≡ b → filter (is_from i) (take room (r ∷ rs)) ≡ (if b && (r.from == i) then r ∷ [] else [])
one-taken i zero r rs true is_sent none is = cc
one-taken i zero r rs false is_sent none is = refl
one-taken i (suc n) r rs false is_sent none is = absurd (grind (arith, is))
one-taken i (suc n) r rs true is_sent none is =
    let rest : filter (is_from i) (take n rs) ≡ [] = none-taken i n rs none in
    ap (λ b. cond (b && (r.from == i)) (r ∷ filter (is_from i) (take n rs)) (filter (is_from i) (take n rs))) is_sent
    ∙ ap (λ xs. cond (r.from == i) (r ∷ xs) xs) rest

offered : (fs : List CanFilter) (o : Options) (s i room : ℕ) (x : Post) (errs : List Post) (comes wanted fits : Bool) → is_data x.received.item ≡ true → AreErrors errs → wants fs o x.received.item (is_own x.sender s) ≡ wanted → nat_lt 0 room ≡ fits → filter (is_from i) (take room (passing fs o s ((if comes then x ∷ [] else []) ++ errs))) ≡ (if (comes && (wanted && fits)) && (x.received.from == i) then x.received ∷ [] else [])
offered fs o s i room x errs false wanted fits is_sent errors w f = none-taken i room (passing fs o s errs) (NoData-passing fs o s errs errors)
offered fs o s i room x errs true wanted fits is_sent errors w f =
    let rest : NoData (passing fs o s errs) = NoData-passing fs o s errs errors in
    ap (λ b. filter (is_from i) (take room (if b then x.received ∷ passing fs o s errs else passing fs o s errs))) w
    ∙ when wanted rest
  where
    when : (b : Bool) → NoData (passing fs o s errs) → filter (is_from i) (take room (if b then x.received ∷ passing fs o s errs else passing fs o s errs)) ≡ (if (b && fits) && (x.received.from == i) then x.received ∷ [] else [])
    when false rest = none-taken i room (passing fs o s errs) rest
    when true rest = one-taken i room x.received (passing fs o s errs) fits is_sent rest f

abbrev room_at : BusConfig → List Entry → ℕ → ℕ
room_at c past s = capacity_of past s + length (taken_from past s) - length (queued_to c past s)

room-fits : (a q : ℕ) → nat_lt 0 (a - q) ≡ nat_lt q a
room-fits a q = grind arith

-- the data frame of an attempt comes before the other items that the attempt posts on an interface
abbrev errors_at : IfaceSet → Transmission → Tried → ℕ → ℕ → List Post
errors_at reporting tr t m i =
    ((if is_in i reporting then error_posts i t.moment (fault_message_for t.class tr.verdict (role_at tr i)) else [])
    ++ error_posts i t.moment (state_message (tr.counts i) (counts_after tr i)))
    ++ auto_restart_posts t.restarted m i

append-first : (xs ys zs : List Post) → (xs ++ ys) ++ zs ≡ xs ++ (ys ++ zs)
append-first [] ys zs = refl
append-first (x ∷ xs) ys zs = ap (λ ps. x ∷ ps) (append-first xs ys zs)

errors-auto_restart : (restarted : IfaceSet) (m i : ℕ) → AreErrors (auto_restart_posts restarted m i)
errors-auto_restart restarted m i = AreErrors-if (is_in i restarted) (error_posts i m (Some restart_message)) (AreErrors-posts i m (Some restart_message))

AreErrors-at : (reporting : IfaceSet) (tr : Transmission) (t : Tried) (m i : ℕ) → AreErrors (errors_at reporting tr t m i)
AreErrors-at reporting tr t m i =
    AreErrors-append _ (auto_restart_posts t.restarted m i)
    (AreErrors-append (if is_in i reporting then error_posts i t.moment (fault_message_for t.class tr.verdict (role_at tr i)) else []) (error_posts i t.moment (state_message (tr.counts i) (counts_after tr i)))
    (AreErrors-if (is_in i reporting) (error_posts i t.moment (fault_message_for t.class tr.verdict (role_at tr i))) (AreErrors-posts i t.moment (fault_message_for t.class tr.verdict (role_at tr i))))
    (AreErrors-posts i t.moment (state_message (tr.counts i) (counts_after tr i))))
    (errors-auto_restart t.restarted m i)

-- the data frames of interface i that an entry adds to socket s
abbrev added : BusConfig → List Entry → ℕ → ℕ → Event → Reply → List Received
added c past i s e r = filter (is_from i) (take (room_at c past s) (candidates_of c past s e r))

added-tried : (c : BusConfig) (past : List Entry) (i s m : ℕ) (v : Verdict) (t : Tried) → added c past i s (Attempt m v) (reply.Attempted (attempt.Tried t)) ≡ (if is_copied c past s t (slice_get (sent_by past t.winner) t.number) && (t.winner == i) then copy_of t ∷ [] else [])
added-tried c past i s m v t = when (is_open past s)
  where
    p : Option Pending
    p = slice_get (sent_by past t.winner) t.number

    j : ℕ
    j = iface_of past s

    tr : Transmission
    tr = transmission c past t.winner v

    inside : filter (is_from i) (take (room_at c past s) (passing (filters_of past s) (options_of past s) s (attempt_posts c.reporting tr t p j ++ auto_restart_posts t.restarted m j))) ≡ (if (comes_to j t p && (wants (filters_of past s) (options_of past s) (item.Data t.frame) (is_own (sender_in p) s) && has_room c past s)) && (t.winner == i) then copy_of t ∷ [] else [])
    inside =
        ap (λ ps. filter (is_from i) (take (room_at c past s) (passing (filters_of past s) (options_of past s) s ps)))
        (ap (λ ps. ps ++ auto_restart_posts t.restarted m j) (append-first (data_posts j t p) (if is_in j c.reporting then error_posts j t.moment (fault_message_for t.class tr.verdict (role_at tr j)) else []) (error_posts j t.moment (state_message (tr.counts j) (counts_after tr j))))
        ∙ append-first (data_posts j t p) _ (auto_restart_posts t.restarted m j))
        ∙ offered (filters_of past s) (options_of past s) s i (room_at c past s) (record { received = copy_of t; sender = sender_in p }) (errors_at c.reporting tr t m j) (comes_to j t p) _ (has_room c past s) refl (AreErrors-at c.reporting tr t m j) refl (room-fits (capacity_of past s + length (taken_from past s)) (length (queued_to c past s)))

    when : (b : Bool) → filter (is_from i) (take (room_at c past s) (if b then passing (filters_of past s) (options_of past s) s (attempt_posts c.reporting tr t p j ++ auto_restart_posts t.restarted m j) else [])) ≡ (if (b && (comes_to j t p && (wants (filters_of past s) (options_of past s) (item.Data t.frame) (is_own (sender_in p) s) && has_room c past s))) && (t.winner == i) then copy_of t ∷ [] else [])
    when true = inside
    when false = ap (filter (is_from i)) (take_nil (room_at c past s))

abbrev Adds : BusConfig → List Entry → ℕ → ℕ → Event → Reply → Type 0
Adds c past i s e r = map copy_of (copying_after c past i s r (copying c past i s)) ≡ map copy_of (copying c past i s) ++ added c past i s e r

map-push : (b : Bool) (ts : List Tried) (t : Tried) → map copy_of (if b then ts ++ t ∷ [] else ts) ≡ map copy_of ts ++ (if b then copy_of t ∷ [] else [])
map-push true [] t = refl
map-push true (x ∷ ts) t = ap (λ rs. copy_of x ∷ rs) (map-push true ts t)
map-push false ts t = sym (append-nil (map copy_of ts))

adds-tried : (c : BusConfig) (past : List Entry) (i s m : ℕ) (v : Verdict) (t : Tried) → Adds c past i s (Attempt m v) (reply.Attempted (attempt.Tried t))
adds-tried c past i s m v t =
    map-push (is_copied c past s t (slice_get (sent_by past t.winner) t.number) && (t.winner == i)) (copying c past i s) t
    ∙ ap (λ rs. map copy_of (copying c past i s) ++ rs) (sym (added-tried c past i s m v t))

adds-none : (c : BusConfig) (past : List Entry) (i s : ℕ) (e : Event) (r : Reply) → added c past i s e r ≡ [] → map copy_of (copying c past i s) ≡ map copy_of (copying c past i s) ++ added c past i s e r
adds-none c past i s e r none = sym (ap (λ rs. map copy_of (copying c past i s) ++ rs) none ∙ append-nil (map copy_of (copying c past i s)))

-- if only error message frames are posted on the interface of a socket, no data frame is added
added-errors : (c : BusConfig) (past : List Entry) (i s : ℕ) (e : Event) (r : Reply) → AreErrors (posts_of c past (iface_of past s) e r) → added c past i s e r ≡ []
added-errors c past i s e r errors = when (is_open past s)
  where
    when : (b : Bool) → filter (is_from i) (take (room_at c past s) (if b then passing (filters_of past s) (options_of past s) s (posts_of c past (iface_of past s) e r) else [])) ≡ []
    when true = none-taken i (room_at c past s) (passing (filters_of past s) (options_of past s) s (posts_of c past (iface_of past s) e r)) (NoData-passing (filters_of past s) (options_of past s) s (posts_of c past (iface_of past s) e r) errors)
    when false = ap (filter (is_from i)) (take_nil (room_at c past s))

errors-restart : (k m i : ℕ) → AreErrors (restart_posts k m i)
errors-restart k m i = AreErrors-if (i == k) (error_posts i m (Some restart_message)) (AreErrors-posts i m (Some restart_message))

adds : (c : BusConfig) (past : List Entry) (i s : ℕ) (e : Event) (r : Reply) → r ≡ legal_reply c past e → Adds c past i s e r
adds c past i s e (reply.Attempted (attempt.Tried t)) law = by_attempt (λ k. Adds c past i s k (reply.Attempted (attempt.Tried t))) c past e t law (λ m v w. adds-tried c past i s m v t)
adds c past i s (Restart k m) reply.Done law = adds-none c past i s (Restart k m) reply.Done (added-errors c past i s (Restart k m) reply.Done (errors-restart k m (iface_of past s)))
adds c past i s (Attempt m v) (reply.Attempted (attempt.Idle restarted)) law = adds-none c past i s (Attempt m v) (reply.Attempted (attempt.Idle restarted)) (added-errors c past i s (Attempt m v) (reply.Attempted (attempt.Idle restarted)) (errors-auto_restart restarted m (iface_of past s)))
adds c past i s (Open x1 x2) r law = adds-none c past i s (Open x1 x2) r (added-errors c past i s (Open x1 x2) r tt)
adds c past i s (Close x1) r law = adds-none c past i s (Close x1) r (added-errors c past i s (Close x1) r tt)
adds c past i s (SetFilters x1 x2) r law = adds-none c past i s (SetFilters x1 x2) r (added-errors c past i s (SetFilters x1 x2) r tt)
adds c past i s (SetOption x1 x2) r law = adds-none c past i s (SetOption x1 x2) r (added-errors c past i s (SetOption x1 x2) r tt)
adds c past i s (Send x1 x2) r law = adds-none c past i s (Send x1 x2) r (added-errors c past i s (Send x1 x2) r tt)
adds c past i s (Receive x1) r law = adds-none c past i s (Receive x1) r (added-errors c past i s (Receive x1) r tt)
adds c past i s (Attempt x1 x2) r law = adds-none c past i s (Attempt x1 x2) r (added-errors c past i s (Attempt x1 x2) r tt)
adds c past i s (Restart x1 x2) r law = adds-none c past i s (Restart x1 x2) r (added-errors c past i s (Restart x1 x2) r tt)
adds c past i s (Down x1 x2) r law = adds-none c past i s (Down x1 x2) r (added-errors c past i s (Down x1 x2) r tt)

-- the data frames of an interface that a socket got are the copies that the interface's attempts made
pub received-copies : (c : BusConfig) (past : List Entry) → IsLegal c past → (i s : ℕ) → received_from c past i s ≡ map copy_of (copying c past i s)
received-copies c [] legal i s = refl
received-copies c (e ∷ past) legal i s =
    filter-append (is_from i) (queued_to c past s) (take (room_at c past s) (candidates_of c past s e.event e.reply))
    ∙ ap (λ rs. rs ++ added c past i s e.event e.reply) (received-copies c past legal.2 i s)
    ∙ sym (adds c past i s e.event e.reply legal.1)
