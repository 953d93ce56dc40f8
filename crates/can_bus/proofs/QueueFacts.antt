use Rattle.std.proofs.Common.{◌≡◌, ◌⊎◌, ℕ, zero, suc, ◌+◌, ◌-◌, ◌<◌, ◌≤◌, ◌==◌, Bool, true, false, ◌&&◌, List, [], ◌∷◌, ◌++◌, length, take, slice_get, Some, if◌then◌else◌, refl, sym, ap, ◌∙◌, subst, arith, inl, inr}
use Rattle.std.proofs.lemmas.Bool.{eqb-true, cases_lt}
use Rattle.std.proofs.lemmas.List.{length_push, length-append, length-take}
use Rattle.can_confine.specs.Confinement.{is_down, is_off}
use Rattle.can_frame.specs.Sets.{is_in}
use Rattle.can_event.specs.declared.entry.Entry.{Entry}
use Rattle.can_event.specs.declared.event.Event.{Event}
use Rattle.can_event.specs.declared.event.Event.TheVariants.{Send, Receive, Down}
use Rattle.can_event.specs.declared.reply.Reply.{Reply}
use Rattle.can_event.specs.declared.attempt.Attempt.TheVariants as attempt
use Rattle.can_event.specs.declared.reply.Reply.TheVariants as reply
use Rattle.can_event.specs.declared.refusal.Refusal.TheVariants as refusal
use Rattle.can_event.specs.declared.bus_config.BusConfig.{BusConfig}
use Rattle.can_event.specs.declared.pending.Pending.{Pending}
use Rattle.can_event.specs.declared.received.Received.{Received}
use Rattle.can_bus.specs.Sockets.{places, is_open, iface_of, capacity_in, capacity_of, options_of}
use Rattle.can_attempt.specs.Attempts.{is_done}
use Rattle.can_bus.specs.Transmit.{sent_by, sent_after, gone_count, gone_after}
use Rattle.can_bus.specs.Counters.{state_at}
use Rattle.can_bus.specs.Queues.{queued_to, taken_from, taken_after, candidates_of}
use Rattle.can_bus.specs.Legal.{lacks_fd, legal_reply, IsLegal}
use Rattle.can_bus.proofs.Lawful.{gone-le-sent}
use Rattle.can_bus.proofs.TurnFacts.{gone-grows-if, gone-grows}
use Rattle.can_bus.proofs.LifeFacts.{unmade-closed, queued-shut, queued-unmade}
use Rattle.can_bus.proofs.OwnFacts.{places-kept}

-- ---- items are taken in order

push-take : (xs q : List Received) (x : Received) → xs ≡ take (length xs) q → slice_get q (length xs) ≡ Some x → xs ++ x ∷ [] ≡ take (length (xs ++ x ∷ [])) q
push-take [] [] x h at = cc
push-take [] (y ∷ ys) x h at = let same : y ≡ x = cc in ap (λ (r : Received). r ∷ []) (sym same)
push-take (z ∷ zs) [] x h at = cc
push-take (z ∷ zs) (y ∷ ys) x h at =
    let first : z ≡ y = cc in
    let rest : zs ≡ take (length zs) ys = cc in
    let later : zs ++ x ∷ [] ≡ take (length (zs ++ x ∷ [])) ys = push-take zs ys x rest at in
    ap (λ rs. z ∷ rs) later ∙ ap (λ (r : Received). r ∷ take (length (zs ++ x ∷ [])) ys) first

take-grown : (n : ℕ) (xs ys : List Received) → n ≤ length xs → take n (xs ++ ys) ≡ take n xs
take-grown zero xs ys le = refl
take-grown (suc n) [] ys le = absurd (omega (arith, le))
take-grown (suc n) (x ∷ xs) ys le = ap (λ rs. x ∷ rs) (take-grown n xs ys (omega (arith, le)))

in-order-step : (c : BusConfig) (past : List Entry) (s : ℕ) (e : Event) (r : Reply) → r ≡ legal_reply c past e → taken_from past s ≡ take (length (taken_from past s)) (queued_to c past s) → taken_after e r s (taken_from past s) ≡ take (length (taken_after e r s (taken_from past s))) (queued_to c past s)
in-order-step c past s (Receive k) (reply.Received (Some x)) law before = when (is_open past k.0) (s == k.0) refl law
  where
    when : (opened here : Bool) → (s == k.0) ≡ here → reply.Received (Some x) ≡ (if opened then reply.Received (slice_get (queued_to c past k.0) (length (taken_from past k.0))) else reply.Refused refusal.NoSocket) → (if here then taken_from past s ++ x ∷ [] else taken_from past s) ≡ take (length (if here then taken_from past s ++ x ∷ [] else taken_from past s)) (queued_to c past s)
    when false here at l = cc
    when true false at l = before
    when true true at l =
        let item : slice_get (queued_to c past k.0) (length (taken_from past k.0)) ≡ Some x = cc in
        push-take (taken_from past s) (queued_to c past s) x before (subst (λ n. slice_get (queued_to c past n) (length (taken_from past n)) ≡ Some x) (sym (eqb-true s k.0 at)) item)
in-order-step c past s _ _ law before = before

-- the items that were taken are the first of those that were queued
pub taken-in-order : (c : BusConfig) (past : List Entry) → IsLegal c past → (s : ℕ) → taken_from past s ≡ take (length (taken_from past s)) (queued_to c past s)
taken-in-order c [] legal s = refl
taken-in-order c (e ∷ past) legal s =
    let now = in-order-step c past s e.event e.reply legal.1 (taken-in-order c past legal.2 s) in
    now ∙ sym (take-grown (length (taken_from (e ∷ past) s)) (queued_to c past s) (take (capacity_of past s + length (taken_from past s) - length (queued_to c past s)) (candidates_of c past s e.event e.reply)) (within (taken_from (e ∷ past) s) (queued_to c past s) now))
  where
    within : (xs q : List Received) → xs ≡ take (length xs) q → length xs ≤ length q
    within [] q h = omega arith
    within (x ∷ xs) [] h = cc
    within (x ∷ xs) (y ∷ ys) h = let rest : xs ≡ take (length xs) ys = cc in omega (arith, within xs ys rest)

-- ---- no queue exceeds its capacity

taken-grows : (e : Event) (r : Reply) (s : ℕ) (before : List Received) → length before ≤ length (taken_after e r s before)
taken-grows (Receive k) (reply.Received (Some x)) s before = when (s == k.0)
  where
    when : (b : Bool) → length before ≤ length (if b then before ++ x ∷ [] else before)
    when true = omega (arith, length_push before x)
    when false = omega arith
taken-grows _ _ s before = omega arith

-- the number of waiting items on a socket is at most its capacity
pub few-items-wait : (c : BusConfig) (past : List Entry) (s : ℕ) → length (queued_to c past s) ≤ capacity_of past s + length (taken_from past s)
few-items-wait c [] s = omega arith
few-items-wait c (e ∷ past) s = choose (cases_lt s (length (places past))) (few-items-wait c past s)
  where
    choose : (s < length (places past)) ⊎ (length (places past) ≤ s) → length (queued_to c past s) ≤ capacity_of past s + length (taken_from past s) → length (queued_to c (e ∷ past) s) ≤ capacity_of (e ∷ past) s + length (taken_from (e ∷ past) s)
    choose (inl made) before =
        let room = capacity_of past s + length (taken_from past s) - length (queued_to c past s) in
        let new = candidates_of c past s e.event e.reply in
        let same : capacity_of (e ∷ past) s ≡ capacity_of past s = ap capacity_in (places-kept e.event e.reply (places past) s made) in
        omega (arith, before, same, taken-grows e.event e.reply s (taken_from past s), length-append (queued_to c past s) (take room new), length-take room new)
    choose (inr unmade) before =
        let none : length (queued_to c (e ∷ past) s) ≡ 0 = ap (λ (rs : List Received). length rs) (queued-shut c past e s (unmade-closed past s unmade) ∙ queued-unmade c past s unmade) in
        omega (arith, none)

few-frames-step : (c : BusConfig) (past : List Entry) (i : ℕ) (e : Event) (r : Reply) → r ≡ legal_reply c past e → gone_count past i ≤ length (sent_by past i) → length (sent_by past i) ≤ c.tx_capacity + gone_count past i → length (sent_after past i e r (sent_by past i)) ≤ c.tx_capacity + gone_after e r i (length (sent_by past i)) (gone_count past i)
few-frames-step c past i (Send s f) (reply.Sent n) law le before = when (iface_of past s.0 == i) refl _
  where
    j : ℕ
    j = iface_of past s.0

    free : (opened lacks off down full : Bool) → (length (sent_by past j) - gone_count past j == c.tx_capacity) ≡ full
        → reply.Sent n ≡ (if opened then (if lacks then reply.Refused refusal.FdOff else if off then reply.Refused refusal.BusOff else if down then reply.Refused refusal.Down else if full then reply.Refused refusal.NoBuffers else reply.Sent (length (sent_by past j))) else reply.Refused refusal.NoSocket)
        → (length (sent_by past j) - gone_count past j == c.tx_capacity) ≡ false
    free false lacks off down full is l = cc
    free true true off down full is l = cc
    free true false true down full is l = cc
    free true false false true full is l = cc
    free true false false false true is l = cc
    free true false false false false is l = is

    when : (b : Bool) → (iface_of past s.0 == i) ≡ b → (p : Pending) → length (if b then sent_by past i ++ p ∷ [] else sent_by past i) ≤ c.tx_capacity + gone_count past i
    when true here p =
        let open_room : (length (sent_by past j) - gone_count past j == c.tx_capacity) ≡ false = free (is_open past s.0) (lacks_fd f (options_of past s.0)) (is_off (state_at c past j)) (is_down (state_at c past j)) _ refl law in
        let room : (length (sent_by past i) - gone_count past i == c.tx_capacity) ≡ false = subst (λ k. (length (sent_by past k) - gone_count past k == c.tx_capacity) ≡ false) (eqb-true j i here) open_room in
        let lt : length (sent_by past i) < c.tx_capacity + gone_count past i = fewer (length (sent_by past i)) (gone_count past i) c.tx_capacity room le before in
        omega (arith, lt, length_push (sent_by past i) p)
      where
        fewer : (a g n : ℕ) → (a - g == n) ≡ false → g ≤ a → a ≤ n + g → a < n + g
        fewer a g n differ le le' = grind (arith, differ, le, le')
    when false there p = before
few-frames-step c past i e (reply.Attempted (attempt.Tried t)) law le before = sent-stays e
  where
    grows : gone_count past i ≤ gone_after e (reply.Attempted (attempt.Tried t)) i (length (sent_by past i)) (gone_count past i)
    grows = gone-grows-if (length (sent_by past i)) (gone_count past i) (is_in i t.off) ((t.winner == i) && is_done t.class) le

    sent-stays : (k : Event) → length (sent_after past i k (reply.Attempted (attempt.Tried t)) (sent_by past i)) ≤ c.tx_capacity + gone_after e (reply.Attempted (attempt.Tried t)) i (length (sent_by past i)) (gone_count past i)
    sent-stays (Send s f) = omega (arith, grows, before)
    sent-stays _ = omega (arith, grows, before)
few-frames-step c past i (Down k m) reply.Done law le before = let grows = gone-grows past i (Down k m) reply.Done le in omega (arith, grows, before)
few-frames-step c past i _ _ law le before = before

-- the number of waiting frames of an interface is at most the capacity of its queue
pub few-frames-wait : (c : BusConfig) (past : List Entry) → IsLegal c past → (i : ℕ) → length (sent_by past i) ≤ c.tx_capacity + gone_count past i
few-frames-wait c [] legal i = omega arith
few-frames-wait c (e ∷ past) legal i = few-frames-step c past i e.event e.reply legal.1 (gone-le-sent c past legal.2 i) (few-frames-wait c past legal.2 i)
