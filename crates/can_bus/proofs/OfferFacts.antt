use Rattle.std.proofs.Common.{◌≡◌, ◌⊎◌, ℕ, zero, suc, ◌+◌, ◌-◌, ◌<◌, ◌≤◌, nat_lt, Bool, true, false, List, [], ◌∷◌, ◌++◌, length, map, take, drop, if◌then◌else◌, refl, sym, ap, ◌∙◌, subst, arith, inl, inr}
use Rattle.std.proofs.lemmas.Bool.{cases_lt}
use Rattle.can_event.specs.declared.entry.Entry.{Entry}
use Rattle.can_event.specs.declared.bus_config.BusConfig.{BusConfig}
use Rattle.can_event.specs.declared.received.Received.{Received}
use Rattle.can_bus.specs.Sockets.{places, iface_of, capacity_in, capacity_of, filters_of, options_of}
use Rattle.can_bus.specs.Posts.{posts_of}
use Rattle.can_bus.specs.Queues.{queued_to, dropped_at, taken_from, candidates_of, candidates_for, passing}
use Rattle.can_bus.specs.Offers.{Offer, offer_after, offers_to, with_room, without_room}
use Rattle.can_bus.proofs.Quiet.{take_nil}
use Rattle.can_bus.proofs.LifeFacts.{places-grow, unmade-closed, queued-unmade}
use Rattle.can_bus.proofs.OwnFacts.{places-kept}

-- ---- the items that are offered

map-append : {X Y : Type 0} (f : X → Y) (xs ys : List X) → map f (xs ++ ys) ≡ map f xs ++ map f ys
map-append f [] ys = refl
map-append f (x ∷ xs) ys = ap (λ zs. f x ∷ zs) (map-append f xs ys)

items-of : (taken : ℕ) (rs : List Received) → map (λ (o : Offer). o.item) (map (offer_after taken) rs) ≡ rs
items-of taken [] = refl
items-of taken (r ∷ rs) = ap (λ qs. r ∷ qs) (items-of taken rs)

-- the offered items are the candidates
pub offers-candidates : (c : BusConfig) (past : List Entry) (s : ℕ) → map (λ (o : Offer). o.item) (offers_to c past s) ≡ candidates_for c past s
offers-candidates c [] s = refl
offers-candidates c (e ∷ past) s =
    let new = candidates_of c past s e.event e.reply in
    let taken = length (taken_from past s) in
    map-append (λ (o : Offer). o.item) (offers_to c past s) (map (offer_after taken) new)
    ∙ ap (λ rs. map (λ (o : Offer). o.item) (offers_to c past s) ++ rs) (items-of taken new)
    ∙ ap (λ rs. rs ++ new) (offers-candidates c past s)

-- ---- items that are offered together

full-room : (capacity taken n : ℕ) → nat_lt n (capacity + taken) ≡ false → capacity + taken - n ≡ 0
full-room capacity taken n full = grind (arith, full)

some-room : (capacity taken n : ℕ) → nat_lt n (capacity + taken) ≡ true → capacity + taken - n ≡ suc (capacity + taken - (n + 1))
some-room capacity taken n room = grind (arith, room)

-- items that are offered together find room as long as there is room
abbrev FitsAt : ℕ → ℕ → List Received → ℕ → Type 0
FitsAt capacity taken rs n = with_room capacity n (map (offer_after taken) rs) ≡ take (capacity + taken - n) rs

at-once : (capacity taken n : ℕ) (rs : List Received) → FitsAt capacity taken rs n
at-once capacity taken n [] = sym (take_nil (capacity + taken - n))
at-once capacity taken n (r ∷ rs) = when (nat_lt n (capacity + taken)) refl (at-once capacity taken (n + 1) rs) (at-once capacity taken n rs)
  where
    found : Bool → List Received
    found b = if b then r ∷ with_room capacity (n + 1) (map (offer_after taken) rs) else with_room capacity n (map (offer_after taken) rs)

    when : (b : Bool) → nat_lt n (capacity + taken) ≡ b → FitsAt capacity taken rs (n + 1) → FitsAt capacity taken rs n → found b ≡ take (capacity + taken - n) (r ∷ rs)
    when true is more same = ap (λ qs. r ∷ qs) more ∙ sym (ap (λ k. take k (r ∷ rs)) (some-room capacity taken n is))
    when false is more same = same ∙ ap (λ k. take k rs) (full-room capacity taken n is) ∙ sym (ap (λ k. take k (r ∷ rs)) (full-room capacity taken n is))

drop_nil : (n : ℕ) → ◌≡◌ {A = List Received} (drop n []) []
drop_nil zero = refl
drop_nil (suc n) = refl

-- the remaining items find no room
abbrev FailsAt : ℕ → ℕ → List Received → ℕ → Type 0
FailsAt capacity taken rs n = without_room capacity n (map (offer_after taken) rs) ≡ drop (capacity + taken - n) rs

others-at-once : (capacity taken n : ℕ) (rs : List Received) → FailsAt capacity taken rs n
others-at-once capacity taken n [] = sym (drop_nil (capacity + taken - n))
others-at-once capacity taken n (r ∷ rs) = when (nat_lt n (capacity + taken)) refl (others-at-once capacity taken (n + 1) rs) (others-at-once capacity taken n rs)
  where
    others : Bool → List Received
    others b = if b then without_room capacity (n + 1) (map (offer_after taken) rs) else r ∷ without_room capacity n (map (offer_after taken) rs)

    when : (b : Bool) → nat_lt n (capacity + taken) ≡ b → FailsAt capacity taken rs (n + 1) → FailsAt capacity taken rs n → others b ≡ drop (capacity + taken - n) (r ∷ rs)
    when true is more same = more ∙ sym (ap (λ k. drop k (r ∷ rs)) (some-room capacity taken n is))
    when false is more same = ap (λ qs. r ∷ qs) (same ∙ ap (λ k. drop k rs) (full-room capacity taken n is)) ∙ sym (ap (λ k. drop k (r ∷ rs)) (full-room capacity taken n is))

-- ---- items that are offered one after another

-- the number of items that have found room after these offers, if n found room before them
abbrev then_found : ℕ → ℕ → List Offer → ℕ
then_found capacity n os = n + length (with_room capacity n os)

-- the items that find room in two groups of offers, first those of the earlier group
abbrev WithJoins : ℕ → List Offer → List Offer → ℕ → Type 0
WithJoins capacity os ps n = with_room capacity n (os ++ ps) ≡ with_room capacity n os ++ with_room capacity (then_found capacity n os) ps

with-append : (capacity n : ℕ) (os ps : List Offer) → WithJoins capacity os ps n
with-append capacity n [] ps = ap (λ k. with_room capacity k ps) (omega arith)
with-append capacity n (o ∷ os) ps = when (nat_lt n (capacity + o.taken)) (with-append capacity (n + 1) os ps) (with-append capacity n os ps)
  where
    found : Bool → List Offer → List Received
    found b qs = if b then o.item ∷ with_room capacity (n + 1) qs else with_room capacity n qs

    when : (b : Bool) → WithJoins capacity os ps (n + 1) → WithJoins capacity os ps n → found b (os ++ ps) ≡ found b os ++ with_room capacity (n + length (found b os)) ps
    when true more same = ap (λ qs. o.item ∷ qs) (more ∙ ap (λ k. with_room capacity (n + 1) os ++ with_room capacity k ps) (omega arith))
    when false more same = same

-- the items that find no room in two groups of offers, first those of the earlier group
abbrev WithoutJoins : ℕ → List Offer → List Offer → ℕ → Type 0
WithoutJoins capacity os ps n = without_room capacity n (os ++ ps) ≡ without_room capacity n os ++ without_room capacity (then_found capacity n os) ps

without-append : (capacity n : ℕ) (os ps : List Offer) → WithoutJoins capacity os ps n
without-append capacity n [] ps = ap (λ k. without_room capacity k ps) (omega arith)
without-append capacity n (o ∷ os) ps = when (nat_lt n (capacity + o.taken)) (without-append capacity (n + 1) os ps) (without-append capacity n os ps)
  where
    found : Bool → List Received
    found b = if b then o.item ∷ with_room capacity (n + 1) os else with_room capacity n os

    others : Bool → List Offer → List Received
    others b qs = if b then without_room capacity (n + 1) qs else o.item ∷ without_room capacity n qs

    when : (b : Bool) → WithoutJoins capacity os ps (n + 1) → WithoutJoins capacity os ps n → others b (os ++ ps) ≡ others b os ++ without_room capacity (n + length (found b)) ps
    when true more same = more ∙ ap (λ k. without_room capacity (n + 1) os ++ without_room capacity k ps) (omega arith)
    when false more same = ap (λ qs. o.item ∷ qs) same

-- ---- the capacity of a socket never changes, and nothing is offered before its open

no-candidates : (c : BusConfig) (past : List Entry) (e : Entry) (s : ℕ) → length (places past) ≤ s → candidates_of c past s e.event e.reply ≡ []
no-candidates c past e s unmade = ap (λ b. if b then passing (filters_of past s) (options_of past s) s (posts_of c past (iface_of past s) e.event e.reply) else []) (unmade-closed past s unmade)

no-offers : (c : BusConfig) (past : List Entry) (s : ℕ) → length (places past) ≤ s → offers_to c past s ≡ []
no-offers c [] s unmade = refl
no-offers c (e ∷ past) s unmade =
    let grows = places-grow e.event e.reply (places past) in
    let before : length (places past) ≤ s = omega (arith, grows, unmade) in
    ap (λ rs. offers_to c past s ++ map (offer_after (length (taken_from past s))) rs) (no-candidates c past e s before)
    ∙ ap (λ (os : List Offer). os ++ []) (no-offers c past s before)

-- the capacity splits the offered items into queued and dropped ones; it may come from a longer history
abbrev IsSorted : BusConfig → List Entry → ℕ → ℕ → Type 0
IsSorted c past s capacity = (queued_to c past s ≡ with_room capacity 0 (offers_to c past s)) × (dropped_at c past s ≡ without_room capacity 0 (offers_to c past s))

sorted-step : (c : BusConfig) (past : List Entry) (e : Entry) (s : ℕ) → IsSorted c past s (capacity_of past s) → IsSorted c (e ∷ past) s (capacity_of past s)
sorted-step c past e s before = (queued, dropped)
  where
    capacity : ℕ
    capacity = capacity_of past s

    taken : ℕ
    taken = length (taken_from past s)

    new : List Received
    new = candidates_of c past s e.event e.reply

    os : List Offer
    os = offers_to c past s

    found : length (queued_to c past s) ≡ then_found capacity 0 os
    found = let same : length (queued_to c past s) ≡ length (with_room capacity 0 os) = ap (λ (rs : List Received). length rs) before.0 in omega (arith, same)

    queued : queued_to c past s ++ take (capacity + taken - length (queued_to c past s)) new ≡ with_room capacity 0 (os ++ map (offer_after taken) new)
    queued =
        ap (λ k. queued_to c past s ++ take (capacity + taken - k) new) found
        ∙ ap (λ rs. rs ++ take (capacity + taken - then_found capacity 0 os) new) before.0
        ∙ ap (λ rs. with_room capacity 0 os ++ rs) (sym (at-once capacity taken (then_found capacity 0 os) new))
        ∙ sym (with-append capacity 0 os (map (offer_after taken) new))

    dropped : dropped_at c past s ++ drop (capacity + taken - length (queued_to c past s)) new ≡ without_room capacity 0 (os ++ map (offer_after taken) new)
    dropped =
        ap (λ k. dropped_at c past s ++ drop (capacity + taken - k) new) found
        ∙ ap (λ rs. rs ++ drop (capacity + taken - then_found capacity 0 os) new) before.1
        ∙ ap (λ rs. without_room capacity 0 os ++ rs) (sym (others-at-once capacity taken (then_found capacity 0 os) new))
        ∙ sym (without-append capacity 0 os (map (offer_after taken) new))

dropped-unmade : (c : BusConfig) (past : List Entry) (s : ℕ) → length (places past) ≤ s → dropped_at c past s ≡ []
dropped-unmade c [] s unmade = refl
dropped-unmade c (e ∷ past) s unmade =
    let grows = places-grow e.event e.reply (places past) in
    let before : length (places past) ≤ s = omega (arith, grows, unmade) in
    let room = capacity_of past s + length (taken_from past s) - length (queued_to c past s) in
    ap (λ rs. dropped_at c past s ++ drop room rs) (no-candidates c past e s before)
    ∙ ap (λ rs. dropped_at c past s ++ rs) (drop_nil room)
    ∙ ap (λ (rs : List Received). rs ++ []) (dropped-unmade c past s before)

sorted : (c : BusConfig) (past : List Entry) (s : ℕ) → IsSorted c past s (capacity_of past s)
sorted c [] s = (refl, refl)
sorted c (e ∷ past) s = choose (cases_lt s (length (places past))) (sorted c past s)
  where
    choose : (s < length (places past)) ⊎ (length (places past) ≤ s) → IsSorted c past s (capacity_of past s) → IsSorted c (e ∷ past) s (capacity_of (e ∷ past) s)
    choose (inl made) before = subst (IsSorted c (e ∷ past) s) (sym (ap capacity_in (places-kept e.event e.reply (places past) s made))) (sorted-step c past e s before)
    choose (inr unmade) before = nothing
      where
        grown : length (places past) ≤ s → offers_to c (e ∷ past) s ≡ []
        grown le = ap (λ rs. offers_to c past s ++ map (offer_after (length (taken_from past s))) rs) (no-candidates c past e s le) ∙ ap (λ (os : List Offer). os ++ []) (no-offers c past s le)

        room : ℕ
        room = capacity_of past s + length (taken_from past s) - length (queued_to c past s)

        none-queued : queued_to c past s ++ take room (candidates_of c past s e.event e.reply) ≡ []
        none-queued = ap (λ rs. queued_to c past s ++ take room rs) (no-candidates c past e s unmade) ∙ ap (λ rs. queued_to c past s ++ rs) (take_nil room) ∙ ap (λ (rs : List Received). rs ++ []) (queued-unmade c past s unmade)

        none-dropped : dropped_at c past s ++ drop room (candidates_of c past s e.event e.reply) ≡ []
        none-dropped = ap (λ rs. dropped_at c past s ++ drop room rs) (no-candidates c past e s unmade) ∙ ap (λ rs. dropped_at c past s ++ rs) (drop_nil room) ∙ ap (λ (rs : List Received). rs ++ []) (dropped-unmade c past s unmade)

        nothing : IsSorted c (e ∷ past) s (capacity_of (e ∷ past) s)
        nothing = (none-queued ∙ sym (ap (with_room (capacity_of (e ∷ past) s) 0) (grown unmade)), none-dropped ∙ sym (ap (without_room (capacity_of (e ∷ past) s) 0) (grown unmade)))

-- the queued items are the offers that found room
pub queued-with-room : (c : BusConfig) (past : List Entry) (s : ℕ) → queued_to c past s ≡ with_room (capacity_of past s) 0 (offers_to c past s)
queued-with-room c past s = (sorted c past s).0

-- the dropped items are the offers that found no room
pub dropped-without-room : (c : BusConfig) (past : List Entry) (s : ℕ) → dropped_at c past s ≡ without_room (capacity_of past s) 0 (offers_to c past s)
dropped-without-room c past s = (sorted c past s).1
