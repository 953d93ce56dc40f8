use Rattle.std.proofs.Common.{◌≡◌, ℕ, zero, suc, ◌+◌, ◌-◌, ◌<◌, ◌≤◌, ◌==◌, nat_le, Bool, true, false, not, ◌||◌, ◌&&◌, List, [], ◌∷◌, ◌++◌, length, filter, take, drop, slice_get, Some, if◌then◌else◌, cond, refl, sym, ap, ◌∙◌, arith}
use Rattle.std.specs.List.{list_any, range_with_len}
use Rattle.std.proofs.lemmas.Bool.{ne_eqb, leb-false}
use Rattle.std.proofs.lemmas.List.{length_push, length-append, length-take, length-drop}
use Rattle.can_attempt.proofs.Places.{range_more}
use Rattle.can_event.specs.declared.entry.Entry.{Entry}
use Rattle.can_event.specs.declared.event.Event.{Event}
use Rattle.can_event.specs.declared.event.Event.TheVariants.{Open, Close}
use Rattle.can_event.specs.declared.reply.Reply.{Reply}
use Rattle.can_event.specs.declared.reply.Reply.TheVariants as reply
use Rattle.can_event.specs.declared.refusal.Refusal.TheVariants as refusal
use Rattle.can_event.specs.declared.bus_config.BusConfig.{BusConfig}
use Rattle.can_event.specs.declared.reply.Closed.{Closed}
use Rattle.can_event.specs.declared.socket_id.SocketId.{SocketId}
use Rattle.can_bus.specs.Sockets.{Place, places, places_after, open_sockets, open_after, is_open, iface_of, capacity_of, filters_of, options_of}
use Rattle.can_bus.specs.Posts.{posts_of}
use Rattle.can_bus.specs.Queues.{queued_to, dropped_at, taken_from, candidates_of, candidates_for, passing}
use Rattle.can_bus.specs.Legal.{legal_reply, IsLegal}
use Rattle.can_bus.specs.Fates.{numbers_given, given_after, closing}
use Rattle.can_bus.proofs.Lists.{Rises}
use Rattle.can_bus.proofs.Rising.{open_sockets-rise}
use Rattle.can_bus.proofs.Lawful.{taken_from-le-queued}
use Rattle.can_bus.proofs.Quiet.{queued_to-unoffered, queued_to-quiet}
use Rattle.can_bus.proofs.OffFacts.{open-place}

-- ---- a socket is open from its open call to its close call

below-top : (a b s k : ℕ) (xs : List ℕ) → slice_get xs k ≡ Some s → Rises a b xs → s < b
below-top a b s k [] at h = cc
below-top a b s zero (x ∷ xs) at h = let is : x ≡ s = cc in omega (arith, is, top (x + 1) b xs h.1)
  where
    top : (a b : ℕ) (xs : List ℕ) → Rises a b xs → a ≤ b
    top a b [] h = h
    top a b (y ∷ ys) h = omega (arith, h.0, top (y + 1) b ys h.1)
below-top a b s (suc k) (x ∷ xs) at h = below-top (x + 1) b s k xs at h.1

-- an open socket was opened before
pub is_open-made : (past : List Entry) (s : ℕ) → is_open past s ≡ true → s < length (places past)
is_open-made past s is = let at = open-place s (open_sockets past) is in below-top 0 (length (places past)) s at.0 (open_sockets past) at.1 (open_sockets-rise past)

-- a socket that was never opened is not open
pub unmade-closed : (past : List Entry) (s : ℕ) → length (places past) ≤ s → is_open past s ≡ false
unmade-closed past s unmade = when (is_open past s) refl
  where
    when : (b : Bool) → is_open past s ≡ b → b ≡ false
    when true is = let made = is_open-made past s is in absurd (omega (arith, made, unmade))
    when false is = refl

pub places-grow : (e : Event) (r : Reply) (ps : List Place) → length ps ≤ length (places_after e r ps)
places-grow (Open i n) (reply.Opened s) ps = let longer = length_push ps (record { iface = i; capacity = n }) in omega (arith, longer)
places-grow _ _ ps = omega arith

-- a closed socket is never open again
any-push : (s n : ℕ) (xs : List ℕ) → s < n → list_any (λ k. k == s) xs ≡ false → list_any (λ k. k == s) (xs ++ n ∷ []) ≡ false
any-push s n [] lt h = let other : (n == s) ≡ false = ne_eqb n s (omega (arith, lt)) in ap (λ b. b || false) other
any-push s n (x ∷ xs) lt h = first (x == s) h (any-push s n xs lt)
  where
    first : (b : Bool) → (b || list_any (λ k. k == s) xs) ≡ false → (list_any (λ k. k == s) xs ≡ false → list_any (λ k. k == s) (xs ++ n ∷ []) ≡ false) → (b || list_any (λ k. k == s) (xs ++ n ∷ [])) ≡ false
    first true at rest = cc
    first false at rest = rest at

any-filter : (s : ℕ) (p : ℕ → Bool) (xs : List ℕ) → list_any (λ k. k == s) xs ≡ false → list_any (λ k. k == s) (filter p xs) ≡ false
any-filter s p [] h = refl
any-filter s p (x ∷ xs) h = first (x == s) (p x) refl h (any-filter s p xs)
  where
    first : (b q : Bool) → (x == s) ≡ b → (b || list_any (λ k. k == s) xs) ≡ false → (list_any (λ k. k == s) xs ≡ false → list_any (λ k. k == s) (filter p xs) ≡ false) → list_any (λ k. k == s) (cond q (x ∷ filter p xs) (filter p xs)) ≡ false
    first true q is at rest = cc
    first false true is at rest = ap (λ b. b || list_any (λ k. k == s) (filter p xs)) is ∙ rest at
    first false false is at rest = rest at

any-without : (s : ℕ) (xs : List ℕ) → list_any (λ k. k == s) (filter (λ k. not (k == s)) xs) ≡ false
any-without s [] = refl
any-without s (x ∷ xs) = first (x == s) refl (any-without s xs)
  where
    first : (b : Bool) → (x == s) ≡ b → list_any (λ k. k == s) (filter (λ k. not (k == s)) xs) ≡ false → list_any (λ k. k == s) (cond (not b) (x ∷ filter (λ k. not (k == s)) xs) (filter (λ k. not (k == s)) xs)) ≡ false
    first true is rest = rest
    first false is rest = ap (λ b. b || list_any (λ k. k == s) (filter (λ k. not (k == s)) xs)) is ∙ rest

closed-step : (n s : ℕ) (e : Event) (r : Reply) (xs : List ℕ) → s < n → list_any (λ k. k == s) xs ≡ false → list_any (λ k. k == s) (open_after n e r xs) ≡ false
closed-step n s (Open i m) (reply.Opened o) xs made h = any-push s n xs made h
closed-step n s (Close o) (reply.Closed c) xs made h = any-filter s (λ k. not (k == o.0)) xs h
closed-step n s _ _ xs made h = h

-- the socket was opened before, and is not open now
pub record IsClosed (past : List Entry) (s : ℕ) : Type 0 where
  pub made : s < length (places past)
  pub shut : is_open past s ≡ false

pub closed-stays : (past : List Entry) (e : Entry) (s : ℕ) → IsClosed past s → IsClosed (e ∷ past) s
closed-stays past e s h = record {
  made = let grows = places-grow e.event e.reply (places past) in let was = h.made in omega (arith, grows, was);
  shut = closed-step (length (places past)) s e.event e.reply (open_sockets past) h.made h.shut;
}

-- no item is queued to a socket that is not open
pub queued-shut : (c : BusConfig) (past : List Entry) (e : Entry) (s : ℕ) → is_open past s ≡ false → queued_to c (e ∷ past) s ≡ queued_to c past s
queued-shut c past e s shut = queued_to-unoffered c past e s (ap (λ b. if b then passing (filters_of past s) (options_of past s) s (posts_of c past (iface_of past s) e.event e.reply) else []) shut)

pub closed-after : (later past : List Entry) (s : ℕ) → IsClosed past s → IsClosed (later ++ past) s
closed-after [] past s h = h
closed-after (e ∷ later) past s h = closed-stays (later ++ past) e s (closed-after later past s h)

pub queued-closed : (c : BusConfig) (later past : List Entry) (s : ℕ) → IsClosed past s → queued_to c (later ++ past) s ≡ queued_to c past s
queued-closed c [] past s h = refl
queued-closed c (e ∷ later) past s h = queued-shut c (later ++ past) e s (closed-after later past s h).shut ∙ queued-closed c later past s h

pub legal-before : (c : BusConfig) (later past : List Entry) → IsLegal c (later ++ past) → IsLegal c past
legal-before c [] past legal = legal
legal-before c (e ∷ later) past legal = legal-before c later past legal.2

-- ---- the facts about a close call

pub record WasClosed (c : BusConfig) (past : List Entry) (s : SocketId) (k : Closed) : Type 0 where
  pub was : is_open past s.0 ≡ true
  pub counts : k ≡ record { unread = length (queued_to c past s.0) - length (taken_from past s.0); dropped = length (dropped_at c past s.0) }

was_closed : (c : BusConfig) (past : List Entry) (s : SocketId) (k : Closed) → reply.Closed k ≡ legal_reply c past (Close s) → WasClosed c past s k
was_closed c past s k law = when (is_open past s.0) refl law
  where
    when : (b : Bool) → is_open past s.0 ≡ b → reply.Closed k ≡ (if b then reply.Closed (record { unread = length (queued_to c past s.0) - length (taken_from past s.0); dropped = length (dropped_at c past s.0) }) else reply.Refused refusal.NoSocket) → WasClosed c past s k
    when true is at = record { was = is; counts = (cc) }
    when false is at = cc

is-closed : (c : BusConfig) (past : List Entry) (s : SocketId) (k : Closed) → WasClosed c past s k → IsClosed (closing s k ∷ past) s.0
is-closed c past s k h = record { made = is_open-made past s.0 h.was; shut = any-without s.0 (open_sockets past) }

pub nothing-after-close : (c : BusConfig) (later past : List Entry) (s : SocketId) (k : Closed) → IsLegal c (later ++ closing s k ∷ past) → queued_to c (later ++ closing s k ∷ past) s.0 ≡ queued_to c past s.0
nothing-after-close c later past s k legal =
    let was = was_closed c past s k (legal-before c later (closing s k ∷ past) legal).1 in
    queued-closed c later (closing s k ∷ past) s.0 (is-closed c past s k was) ∙ queued_to-quiet c past (closing s k) s.0 refl

-- ---- no item is queued to a socket before its open call

pub queued-unmade : (c : BusConfig) (past : List Entry) (s : ℕ) → length (places past) ≤ s → queued_to c past s ≡ []
queued-unmade c [] s unmade = refl
queued-unmade c (e ∷ past) s unmade =
    let grows = places-grow e.event e.reply (places past) in
    let before : length (places past) ≤ s = omega (arith, grows, unmade) in
    queued-shut c past e s (unmade-closed past s before) ∙ queued-unmade c past s before

-- ---- the reply to an open call

pub record WasOpened (past : List Entry) (s : SocketId) : Type 0 where
  pub number : s.0 ≡ length (places past)
  pub few : length (open_sockets past) < 64

was_opened : (c : BusConfig) (past : List Entry) (i n : ℕ) (s : SocketId) → reply.Opened s ≡ legal_reply c past (Open i n) → WasOpened past s
was_opened c past i n s law = when (nat_le c.ifaces i) (not (nat_le 1 n && nat_le n 65536)) (nat_le 64 (length (open_sockets past))) refl law
  where
    when : (x y z : Bool) → nat_le 64 (length (open_sockets past)) ≡ z → reply.Opened s ≡ (if x then reply.Refused refusal.NoInterface else if y then reply.Refused refusal.BadCapacity else if z then reply.Refused refusal.TooManySockets else reply.Opened (record { 0 = length (places past) })) → WasOpened past s
    when true y z is at = cc
    when false true z is at = cc
    when false false true is at = cc
    when false false false is at = let same : s ≡ record { 0 = length (places past) } = cc in record { number = ap (λ (o : SocketId). o.0) same; few = leb-false 64 (length (open_sockets past)) is }

pub nothing-before-open : (c : BusConfig) (past : List Entry) (i n : ℕ) (s : SocketId) → reply.Opened s ≡ legal_reply c past (Open i n) → queued_to c past s.0 ≡ []
nothing-before-open c past i n s law = queued-unmade c past s.0 (let number = (was_opened c past i n s law).number in omega (arith, number))

-- ---- at most 64 sockets are open

length-filter-le : (p : ℕ → Bool) (xs : List ℕ) → length (filter p xs) ≤ length xs
length-filter-le p [] = omega arith
length-filter-le p (x ∷ xs) = first (p x) (length-filter-le p xs)
  where
    first : (b : Bool) → length (filter p xs) ≤ length xs → length (cond b (x ∷ filter p xs) (filter p xs)) ≤ suc (length xs)
    first true le = omega (arith, le)
    first false le = omega (arith, le)

few-step : (c : BusConfig) (past : List Entry) (e : Event) (r : Reply) → r ≡ legal_reply c past e → length (open_sockets past) ≤ 64 → length (open_after (length (places past)) e r (open_sockets past)) ≤ 64
few-step c past (Open i n) (reply.Opened s) law le = let few = (was_opened c past i n s law).few in let longer = length_push (open_sockets past) (length (places past)) in omega (arith, few, longer)
few-step c past (Close s) (reply.Closed k) law le = let fewer = length-filter-le (λ k. not (k == s.0)) (open_sockets past) in omega (arith, fewer, le)
few-step c past _ _ law le = le

pub few-open : (c : BusConfig) (past : List Entry) → IsLegal c past → length (open_sockets past) ≤ 64
few-open c [] legal = omega arith
few-open c (e ∷ past) legal = few-step c past e.event e.reply legal.1 (few-open c past legal.2)

-- ---- the socket numbers are 0, 1, 2 and so on

given-step : (c : BusConfig) (past : List Entry) (e : Event) (r : Reply) → r ≡ legal_reply c past e → numbers_given past ≡ range_with_len 0 (length (places past)) → given_after e r (numbers_given past) ≡ range_with_len 0 (length (places_after e r (places past)))
given-step c past (Open i n) (reply.Opened s) law same =
    let number = (was_opened c past i n s law).number in
    ap (λ ns. ns ++ s.0 ∷ []) same
    ∙ ap (λ (m : ℕ). range_with_len 0 (length (places past)) ++ m ∷ []) number
    ∙ sym (range_more 0 (length (places past)) (length (places past)) (omega arith))
    ∙ ap (range_with_len 0) longer
  where
    longer : suc (length (places past)) ≡ length (places past ++ record { iface = i; capacity = n } ∷ [])
    longer = let pushed = length_push (places past) (record { iface = i; capacity = n }) in omega (arith, pushed)
given-step c past _ _ law same = same

pub numbers-rise : (c : BusConfig) (past : List Entry) → IsLegal c past → numbers_given past ≡ range_with_len 0 (length (places past))
numbers-rise c [] legal = refl
numbers-rise c (e ∷ past) legal = given-step c past e.event e.reply legal.1 (numbers-rise c past legal.2)

-- ---- each offered item is queued or dropped

pub offered-kept : (c : BusConfig) (past : List Entry) (s : ℕ) → length (candidates_for c past s) ≡ length (queued_to c past s) + length (dropped_at c past s)
offered-kept c [] s = refl
offered-kept c (e ∷ past) s =
    let room = capacity_of past s + length (taken_from past s) - length (queued_to c past s) in
    let new = candidates_of c past s e.event e.reply in
    omega (arith, offered-kept c past s, length-append (candidates_for c past s) new, length-append (queued_to c past s) (take room new), length-append (dropped_at c past s) (drop room new), length-take room new, length-drop room new)

pub items-at-close : (c : BusConfig) (past : List Entry) (s : SocketId) (k : Closed) → IsLegal c (closing s k ∷ past) → length (queued_to c past s.0) ≡ length (taken_from past s.0) + k.unread
items-at-close c past s k legal =
    let counts = (was_closed c past s k legal.1).counts in
    let unread : k.unread ≡ length (queued_to c past s.0) - length (taken_from past s.0) = ap (λ (x : Closed). x.unread) counts in
    omega (arith, unread, taken_from-le-queued c past legal.2 s.0)

pub dropped-at-close : (c : BusConfig) (past : List Entry) (s : SocketId) (k : Closed) → IsLegal c (closing s k ∷ past) → k.dropped ≡ length (dropped_at c past s.0)
dropped-at-close c past s k legal = ap (λ (x : Closed). x.dropped) (was_closed c past s k legal.1).counts
