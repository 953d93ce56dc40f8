use Rattle.std.proofs.Common.{◌≡◌, ◌≢◌, ◌⊎◌, ℕ, ◌+◌, ◌*◌, ◌<◌, ◌≤◌, ◌==◌, nat_le, Bool, true, false, ◌&&◌, List, [], ◌∷◌, ◌++◌, length, count_by, slice_get, if◌then◌else◌, cond, refl, sym, ap, ◌∙◌, subst, arith, inl, inr}
use Rattle.std.proofs.lemmas.Bool.{eqb-true, eq-eqb, ne_eqb, cases_eq, and_parts}
use Rattle.std.proofs.lemmas.List.Sums.{sum_by-append}
use Rattle.std.proofs.lemmas.Option.{slice_get_within}
use Rattle.can_frame.specs.Sets.{is_in}
use Rattle.can_confine.specs.Confinement.{ErrorCounts, all_stepped, at_start, state_of, is_passive, is_silent}
use Rattle.can_confine.specs.Confinement.Step.{TransmitError, TakenDown}
use Rattle.can_confine.specs.declared.state.State.{State}
use Rattle.can_fault.specs.declared.verdict.Verdict.{Verdict}
use Rattle.can_attempt.specs.declared.class.Class.{Class}
use Rattle.can_attempt.specs.declared.class.Class.TheVariants as class
use Rattle.can_attempt.specs.Attempts.{Transmission, is_among, is_struck, receivers, class_of, steps_at, counts_after, winner_step, receiver_step, is_done}
use Rattle.can_attempt.specs.Attempts as attempts
use Rattle.can_event.specs.declared.entry.Entry.{Entry}
use Rattle.can_event.specs.declared.event.Event.{Event}
use Rattle.can_event.specs.declared.event.Event.TheVariants.{Open, Close, SetFilters, SetOption, Send, Receive, Attempt, Restart, Down}
use Rattle.can_event.specs.declared.reply.Reply.{Reply}
use Rattle.can_event.specs.declared.reply.Reply.TheVariants as reply
use Rattle.can_event.specs.declared.refusal.Refusal.TheVariants as refusal
use Rattle.can_event.specs.declared.bus_config.BusConfig.{BusConfig}
use Rattle.can_event.specs.declared.attempt.Tried.{Tried}
use Rattle.can_event.specs.declared.attempt.Attempt.TheVariants as attempt
use Rattle.can_bus.specs.Sockets.{iface_of}
use Rattle.can_bus.specs.Transmit.{sent_by, sent_after, gone_count, gone_after}
use Rattle.can_bus.specs.Counters.{counts_of, steps_of, steps_after, state_at, transmission}
use Rattle.can_bus.specs.Copies.{copying, copying_after, is_copied, went_over}
use Rattle.can_bus.specs.Repeats.{AtMost32Copies, transmit_count, RisesAtTheHead, LastBitAdds8}
use Rattle.can_bus.specs.Legal.{legal_reply, IsLegal}
use Rattle.can_bus.proofs.CountingFacts.{live-restarted-not, idle-restarts}
use Rattle.can_bus.proofs.Lawful.{WasTried, by_attempt, tried_by, sent_by-step, gone-le-sent}
use Rattle.can_bus.proofs.OffFacts.{all_stepped-append, winner-contends, off-all-gone}
use Rattle.can_bus.proofs.TurnFacts.{Facts, facts, here, copied, comes-over, gone-grows, count-numbers}
use Rattle.can_bus.proofs.Silence.{live-not-off}

-- A frame is tried again only while it is first in its queue. During that time each fault in the last bit adds 8 to the
-- transmit error count, and nothing lowers the count. At 256 the interface is bus off and the frame is lost. So there
-- are at most 32 such faults.

abbrev sent_count : List Entry → ℕ → ℕ
sent_count past i = length (sent_by past i)

abbrev gone_then : List Entry → ℕ → Event → Reply → ℕ
gone_then past i e r = gone_after e r i (sent_count past i) (gone_count past i)

abbrev count_after : BusConfig → List Entry → ℕ → Event → Reply → ℕ
count_after c past i e r = (all_stepped at_start (steps_after c e r (counts_of c past) i (steps_of c past i))).tec

-- ---- the effect of an attempt on the transmit error counts

-- an attempt lowers only the count of its winner, and only if it is done
not-lowered : (mine heard struck : Bool) (k : Class) (s : State) (x : ErrorCounts) → (mine && is_done k) ≡ false → x.tec ≤ (all_stepped x (if mine then winner_step k s else if heard then receiver_step k struck else [])).tec
not-lowered true heard struck class.Done s x other = cc
not-lowered true heard struck class.LastBit s x other = omega arith
not-lowered true heard struck class.Destroyed s x other = omega arith
not-lowered true heard struck class.NoAck s x other = when (is_passive s)
  where
    when : (b : Bool) → x.tec ≤ (all_stepped x (if b then [] else TransmitError ∷ [])).tec
    when true = omega arith
    when false = omega arith
not-lowered false false struck k s x other = omega arith
not-lowered false true true class.Done s x other = omega arith
not-lowered false true false class.Done s x other = omega arith
not-lowered false true struck class.LastBit s x other = omega arith
not-lowered false true struck class.Destroyed s x other = omega arith
not-lowered false true true class.NoAck s x other = omega arith
not-lowered false true false class.NoAck s x other = omega arith

-- the winner counts 8 for a fault in the last bit
last_bit-step : (t : Transmission) → class_of t ≡ class.LastBit → (counts_after t t.winner).tec ≡ (t.counts t.winner).tec + 8
last_bit-step t failed =
    let mine : (t.winner == t.winner) ≡ true = eq-eqb t.winner t.winner refl in
    let steps : steps_at t.winner t ≡ TransmitError ∷ [] = rw mine (ap (λ (k : Class). winner_step k (attempts.state_at t t.winner)) failed) in
    ap (λ ss. (all_stepped (t.counts t.winner) ss).tec) steps

below-off : (x : ErrorCounts) → is_silent (state_of x) ≡ false → x.tec < 256
below-off x live = grind (arith, live)

count-tried : (c : BusConfig) (past : List Entry) (i m : ℕ) (v : Verdict) (t : Tried) → is_in i t.restarted ≡ false → count_after c past i (Attempt m v) (reply.Attempted (attempt.Tried t)) ≡ (counts_after (transmission c past t.winner v) i).tec
count-tried c past i m v t stays =
    ap (λ b. (all_stepped at_start (if b then [] else steps_of c past i ++ steps_at i (transmission c past t.winner v))).tec) stays
    ∙ ap (λ (x : ErrorCounts). x.tec) (all_stepped-append at_start (steps_of c past i) (steps_at i (transmission c past t.winner v)))

pub class-is : (c : BusConfig) (past : List Entry) (m : ℕ) (v : Verdict) (t : Tried) → WasTried c past m v t → t.class ≡ class_of (transmission c past t.winner v)
class-is c past m v t w = subst (λ (u : Tried). u.class ≡ class_of (transmission c past u.winner v)) (sym w.is) refl

-- an attempt does not restart an interface that was live before the attempt
not-restarted : (c : BusConfig) (past : List Entry) (m : ℕ) (v : Verdict) (t : Tried) (i : ℕ) → IsLegal c past → WasTried c past m v t → is_silent (state_at c past i) ≡ false → is_in i t.restarted ≡ false
not-restarted c past m v t i legal w live = ap (λ (u : Tried). is_in i u.restarted) w.is ∙ live-restarted-not c past legal i (live-not-off (state_at c past i) live)

-- ---- each fault in the last bit adds 8

last_bit-step-of : (c : BusConfig) (past : List Entry) (e : Event) (t : Tried) → IsLegal c past → reply.Attempted (attempt.Tried t) ≡ legal_reply c past e → t.class ≡ class.LastBit → count_after c past t.winner e (reply.Attempted (attempt.Tried t)) ≡ transmit_count c past t.winner + 8
last_bit-step-of c past e t legal law failed =
    by_attempt (λ k. count_after c past t.winner k (reply.Attempted (attempt.Tried t)) ≡ transmit_count c past t.winner + 8) c past e t law
    (λ m v w.
    let live = subst (λ k. is_silent (state_at c past k) ≡ false) (sym (ap (λ (u : Tried). u.winner) w.is)) (winner-contends c past w.place w.won).live in
    count-tried c past t.winner m v t (not-restarted c past m v t t.winner legal w live) ∙ last_bit-step (transmission c past t.winner v) (sym (class-is c past m v t w) ∙ failed))

last_bit-adds-at : (c : BusConfig) (past : List Entry) (e : Event) (r : Reply) → IsLegal c past → r ≡ legal_reply c past e → (t : Tried) → r ≡ reply.Attempted (attempt.Tried t) → t.class ≡ class.LastBit → count_after c past t.winner e r ≡ transmit_count c past t.winner + 8
last_bit-adds-at c past e r legal law t is failed = subst (λ q. count_after c past t.winner e q ≡ transmit_count c past t.winner + 8) (sym is) (last_bit-step-of c past e t legal (sym is ∙ law) failed)

pub last_bit-adds : (c : BusConfig) (past : List Entry) (e : Entry) → IsLegal c (e ∷ past) → LastBitAdds8 c e past
last_bit-adds c past e legal t is failed = last_bit-adds-at c past e.event e.reply legal.2 legal.1 t is failed

-- ---- while a frame is first in its queue, the count never decreases

not-gone : (sent gone : ℕ) (off here : Bool) → gone < sent → (if off then sent else if here then gone + 1 else gone) ≡ gone → here ≡ false
not-gone sent gone true here waits same = absurd (omega (arith, waits, same))
not-gone sent gone false true waits same = absurd (omega (arith, same))
not-gone sent gone false false waits same = refl

same-other : (i j : ℕ) → (i == j) ≡ (j == i)
same-other i j = grind arith

-- an interface with a waiting frame is live
waits-live : (c : BusConfig) (past : List Entry) (i : ℕ) → IsLegal c past → c.ifaces ≤ 16 → gone_count past i < sent_count past i → is_silent (state_at c past i) ≡ false
waits-live c past i legal few waits = when (is_silent (state_at c past i)) refl
  where
    when : (b : Bool) → is_silent (state_at c past i) ≡ b → b ≡ false
    when false is = refl
    when true is = let gone = off-all-gone c past legal few i is in absurd (omega (arith, gone, waits))

rises-tried : (c : BusConfig) (past : List Entry) (i m : ℕ) (v : Verdict) (t : Tried) → IsLegal c past → c.ifaces ≤ 16 → WasTried c past m v t → gone_count past i < sent_count past i → gone_then past i (Attempt m v) (reply.Attempted (attempt.Tried t)) ≡ gone_count past i → transmit_count c past i ≤ count_after c past i (Attempt m v) (reply.Attempted (attempt.Tried t))
rises-tried c past i m v t legal few w waits same =
    let tr = transmission c past t.winner v in
    let stays : ((t.winner == i) && is_done t.class) ≡ false = not-gone (sent_count past i) (gone_count past i) (is_in i t.off) ((t.winner == i) && is_done t.class) waits same in
    let stays' : ((i == t.winner) && is_done (class_of tr)) ≡ false = ap (λ b. b && is_done (class_of tr)) (same-other i t.winner) ∙ ap (λ k. (t.winner == i) && is_done k) (sym (class-is c past m v t w)) ∙ stays in
    let le : transmit_count c past i ≤ (counts_after tr i).tec = not-lowered (i == t.winner) (is_among i (receivers tr)) (is_struck tr.verdict i) (class_of tr) (attempts.state_at tr i) (counts_of c past i) stays' in
    subst (λ n. transmit_count c past i ≤ n) (sym (count-tried c past i m v t (not-restarted c past m v t i legal w (waits-live c past i legal few waits)))) le

was-silent : (b silent : Bool) → reply.Done ≡ (if b then reply.Refused refusal.NoInterface else if silent then reply.Done else reply.Refused refusal.NotBusOff) → silent ≡ true
was-silent true silent law = cc
was-silent false true law = refl
was-silent false false law = cc

rises-step : (c : BusConfig) (past : List Entry) (i : ℕ) (e : Event) (r : Reply) → IsLegal c past → c.ifaces ≤ 16 → r ≡ legal_reply c past e → gone_count past i < sent_count past i → gone_then past i e r ≡ gone_count past i → transmit_count c past i ≤ count_after c past i e r
rises-step c past i e (reply.Attempted (attempt.Tried t)) legal few law waits same =
    by_attempt (λ k. gone_then past i k (reply.Attempted (attempt.Tried t)) ≡ gone_count past i → transmit_count c past i ≤ count_after c past i k (reply.Attempted (attempt.Tried t))) c past e t law (λ m v w still. rises-tried c past i m v t legal few w waits still) same
rises-step c past i (Restart k m) reply.Done legal few law waits same = when (k == i) refl
  where
    silent : is_silent (state_at c past k) ≡ true
    silent = was-silent (nat_le c.ifaces k) (is_silent (state_at c past k)) law

    when : (b : Bool) → (k == i) ≡ b → transmit_count c past i ≤ (all_stepped at_start (if b then [] else steps_of c past i)).tec
    when true is =
        let gone : gone_count past i ≡ sent_count past i = off-all-gone c past legal few i (subst (λ j. is_silent (state_at c past j) ≡ true) (eqb-true k i is) silent) in
        absurd (omega (arith, gone, waits))
    when false is = omega arith
rises-step c past i (Down k m) reply.Done legal few law waits same = when (k == i) same
  where
    when : (b : Bool) → (if b then sent_count past i else gone_count past i) ≡ gone_count past i → transmit_count c past i ≤ (all_stepped at_start (if b then steps_of c past i ++ TakenDown ∷ [] else steps_of c past i)).tec
    when true gone = absurd (omega (arith, gone, waits))
    when false gone = omega arith
rises-step c past i (Attempt m v) (reply.Attempted (attempt.Idle restarted)) legal few law waits same =
    let stays : is_in i restarted ≡ false = ap (is_in i) (idle-restarts c past m v restarted law) ∙ live-restarted-not c past legal i (live-not-off (state_at c past i) (waits-live c past i legal few waits)) in
    subst (λ b. transmit_count c past i ≤ (all_stepped at_start (if b then [] else steps_of c past i)).tec) (sym stays) (omega arith)
rises-step c past i (Open j n) _ legal few law waits same = omega arith
rises-step c past i (Close s) _ legal few law waits same = omega arith
rises-step c past i (SetFilters s f) _ legal few law waits same = omega arith
rises-step c past i (SetOption s o) _ legal few law waits same = omega arith
rises-step c past i (Send s f) _ legal few law waits same = omega arith
rises-step c past i (Receive s) _ legal few law waits same = omega arith
rises-step c past i (Attempt m v) _ legal few law waits same = omega arith
rises-step c past i (Restart k m) _ legal few law waits same = omega arith
rises-step c past i (Down k m) _ legal few law waits same = omega arith

pub rises-at-head : (c : BusConfig) (past : List Entry) (e : Entry) → IsLegal c (e ∷ past) → c.ifaces ≤ 16 → RisesAtTheHead c e past
rises-at-head c past e legal few i p head same = rises-step c past i e.event e.reply legal.2 few legal.1 (slice_get_within (sent_by past i) (gone_count past i) p head) same

-- ---- the number of copies of a frame number

-- `times n` is the number of copies of frame number n. The numbers from `gone` on are waiting, and those from `sent` on
-- were not sent.
record Fits (times : ℕ → ℕ) (gone sent count : ℕ) : Type 0 where
  pub head : 8 * times gone ≤ count
  pub later : (n : ℕ) → gone < n → times n ≡ 0
  pub unsent : (n : ℕ) → sent ≤ n → times n ≡ 0
  pub few : (n : ℕ) → times n ≤ 32

-- an entry that copies no frame
fits-none : (times : ℕ → ℕ) (gone sent count gone' sent' count' : ℕ) → Fits times gone sent count → gone ≤ gone' → sent ≤ sent' → (gone < sent → gone' ≡ gone → count ≤ count') → Fits times gone' sent' count'
fits-none times gone sent count gone' sent' count' f more more' rises = record {
  head = choose (cases_eq gone' gone) (nat_le sent gone) refl;
  later = λ n lt. f.later n (omega (arith, lt, more));
  unsent = λ n le. f.unsent n (omega (arith, le, more'));
  few = f.few;
}
  where
    choose : (gone' ≡ gone) ⊎ (gone' ≢ gone) → (b : Bool) → nat_le sent gone ≡ b → 8 * times gone' ≤ count'
    choose (inr other) b is = let none : times gone' ≡ 0 = f.later gone' (omega (arith, more, other)) in omega (arith, none)
    choose (inl same) true is = let none : times gone' ≡ 0 = f.unsent gone' (grind (arith, is, same)) in omega (arith, none)
    choose (inl same) false is =
        let up : count ≤ count' = rises (grind (arith, is)) same in
        let was : 8 * times gone' ≤ count = subst (λ n. 8 * times n ≤ count) (sym same) f.head in
        omega (arith, up, was)

abbrev one_if : Bool → ℕ
one_if b = cond b 1 0

-- an attempt that copies the first frame of the queue
fits-one : (times times' : ℕ → ℕ) (gone sent count gone' sent' count' : ℕ) → Fits times gone sent count → gone < sent → count < 256 → gone ≤ gone' → sent ≤ sent'
    → (gone' ≡ gone → count + 8 ≤ count') → ((n : ℕ) → times' n ≡ times n + one_if (gone == n)) → Fits times' gone' sent' count'
fits-one times times' gone sent count gone' sent' count' f waits live more more' adds now = record {
  head = choose (cases_eq gone gone');
  later = λ n lt. not-there n (omega (arith, lt, more)) (f.later n (omega (arith, lt, more)));
  unsent = λ n le. not-there n (omega (arith, le, more', waits)) (f.unsent n (omega (arith, le, more')));
  few = λ n. up-to n (cases_eq gone n);
}
  where
    there : times' gone ≡ times gone + 1
    there = now gone ∙ ap (λ b. times gone + one_if b) (eq-eqb gone gone refl)

    not-there : (n : ℕ) → gone < n → times n ≡ 0 → times' n ≡ 0
    not-there n lt none = now n ∙ ap (λ b. times n + one_if b) (ne_eqb gone n (λ same. absurd (omega (arith, lt, same)))) ∙ ap (λ k. k + 0) none

    choose : (gone ≡ gone') ⊎ (gone ≢ gone') → 8 * times' gone' ≤ count'
    choose (inl same) =
        let up : count + 8 ≤ count' = adds (sym same) in
        let is : times' gone' ≡ times gone + 1 = ap times' (sym same) ∙ there in
        let was = f.head in
        omega (arith, up, is, was)
    choose (inr other) = let lt : gone < gone' = omega (arith, more, other) in let none : times' gone' ≡ 0 = not-there gone' lt (f.later gone' lt) in omega (arith, none)

    up-to : (n : ℕ) → (gone ≡ n) ⊎ (gone ≢ n) → times' n ≤ 32
    up-to n (inl same) = let was = f.head in let is : times' n ≡ times gone + 1 = ap times' (sym same) ∙ there in omega (arith, is, was, live)
    up-to n (inr other) = let is : times' n ≡ times n + 0 = now n ∙ ap (λ b. times n + one_if b) (ne_eqb gone n other) in let few = f.few n in omega (arith, is, few)

-- ---- every legal history

abbrev copies_of : ℕ → List Tried → ℕ
copies_of n ts = count_by (λ (t : Tried). t.number == n) ts

copies-push : (n : ℕ) (ts : List Tried) (t : Tried) → copies_of n (ts ++ t ∷ []) ≡ copies_of n ts + one_if (t.number == n)
copies-push n ts t = sum_by-append (λ (x : Tried). one_if (x.number == n)) ts (t ∷ []) ∙ omega arith

-- these attempts fit a history, and still fit it after one more entry
abbrev FitsNow : BusConfig → List Entry → ℕ → List Tried → Type 0
FitsNow c past i ts = Fits (λ n. copies_of n ts) (gone_count past i) (sent_count past i) (transmit_count c past i)

abbrev FitsThen : BusConfig → List Entry → ℕ → Event → Reply → List Tried → Type 0
FitsThen c past i e r ts = Fits (λ n. copies_of n ts) (gone_then past i e r) (length (sent_after past i e r (sent_by past i))) (count_after c past i e r)

-- the tried frame reached the receivers, but the attempt was not done
was-last_bit : (k : Class) → went_over k ≡ true → is_done k ≡ false → k ≡ class.LastBit
was-last_bit class.Done over undone = cc
was-last_bit class.LastBit over undone = refl
was-last_bit class.Destroyed over undone = cc
was-last_bit class.NoAck over undone = cc

-- facts about an attempt that was copied to a socket
record IsCopy (c : BusConfig) (past : List Entry) (i : ℕ) (e : Event) (t : Tried) : Type 0 where
  pub number : t.number ≡ gone_count past i
  pub waits : gone_count past i < sent_count past i
  pub live : transmit_count c past i < 256
  pub adds : gone_then past i e (reply.Attempted (attempt.Tried t)) ≡ gone_count past i → transmit_count c past i + 8 ≤ count_after c past i e (reply.Attempted (attempt.Tried t))

is_copy : (c : BusConfig) (past : List Entry) (i s : ℕ) (e : Event) (t : Tried) → IsLegal c past → reply.Attempted (attempt.Tried t) ≡ legal_reply c past e → here c past i s t ≡ true → IsCopy c past i e t
is_copy c past i s e t legal law is = tried_by c past e t law (λ m v w.
    let f : Facts past i t = facts c past m v t i w mine in
    let who : w.place ≡ i = sym (ap (λ (u : Tried). u.winner) w.is) ∙ mine in
    let over : went_over t.class ≡ true = comes-over c past m v t (iface_of past s) (slice_get (sent_by past t.winner) t.number) w (copied c past s t both.0).comes in
    record {
      number = f.number;
      waits = f.waits;
      live = below-off (counts_of c past i) (subst (λ k. is_silent (state_at c past k) ≡ false) who (winner-contends c past w.place w.won).live);
      adds = λ same. eight over (not-gone (sent_count past i) (gone_count past i) (is_in i t.off) ((t.winner == i) && is_done t.class) f.waits same);
    })
  where
    both : (is_copied c past s t (slice_get (sent_by past t.winner) t.number) ≡ true) × ((t.winner == i) ≡ true)
    both = and_parts (is_copied c past s t (slice_get (sent_by past t.winner) t.number)) (t.winner == i) is

    mine : t.winner ≡ i
    mine = eqb-true t.winner i both.1

    eight : went_over t.class ≡ true → ((t.winner == i) && is_done t.class) ≡ false → transmit_count c past i + 8 ≤ count_after c past i e (reply.Attempted (attempt.Tried t))
    eight over stays =
        let undone : is_done t.class ≡ false = ap (λ b. b && is_done t.class) (sym both.1) ∙ stays in
        let failed : t.class ≡ class.LastBit = was-last_bit t.class over undone in
        let up : count_after c past i e (reply.Attempted (attempt.Tried t)) ≡ transmit_count c past i + 8 = subst (λ k. count_after c past k e (reply.Attempted (attempt.Tried t)) ≡ transmit_count c past k + 8) mine (last_bit-step-of c past e t legal law failed) in
        omega (arith, up)

-- an entry that copies no frame of the interface to the socket
fits-unchanged : (c : BusConfig) (past : List Entry) (i : ℕ) (e : Event) (r : Reply) (ts : List Tried) → IsLegal c past → c.ifaces ≤ 16 → r ≡ legal_reply c past e → FitsNow c past i ts → FitsThen c past i e r ts
fits-unchanged c past i e r ts legal few law before =
    fits-none (λ n. copies_of n ts) (gone_count past i) (sent_count past i) (transmit_count c past i) _ _ _ before
    (gone-grows past i e r (gone-le-sent c past legal i)) (sent_by-step past i e r (sent_by past i)) (rises-step c past i e r legal few law)

-- an attempt that copies a frame of the interface to the socket
fits-copied : (c : BusConfig) (past : List Entry) (i : ℕ) (e : Event) (t : Tried) (ts : List Tried) → IsLegal c past → IsCopy c past i e t → FitsNow c past i ts → FitsThen c past i e (reply.Attempted (attempt.Tried t)) (ts ++ t ∷ [])
fits-copied c past i e t ts legal k before =
    fits-one (λ n. copies_of n ts) (λ n. copies_of n (ts ++ t ∷ [])) (gone_count past i) (sent_count past i) (transmit_count c past i) _ _ _ before k.waits k.live
    (gone-grows past i e (reply.Attempted (attempt.Tried t)) (gone-le-sent c past legal i)) (sent_by-step past i e (reply.Attempted (attempt.Tried t)) (sent_by past i)) k.adds
    (λ n. copies-push n ts t ∙ ap (λ j. copies_of n ts + one_if (j == n)) k.number)

fits-step : (c : BusConfig) (past : List Entry) (i s : ℕ) (e : Event) (r : Reply) → IsLegal c past → c.ifaces ≤ 16 → r ≡ legal_reply c past e → FitsNow c past i (copying c past i s) → FitsThen c past i e r (copying_after c past i s r (copying c past i s))
fits-step c past i s e (reply.Attempted (attempt.Tried t)) legal few law before = when (here c past i s t) refl
  where
    when : (b : Bool) → here c past i s t ≡ b → FitsThen c past i e (reply.Attempted (attempt.Tried t)) (if b then copying c past i s ++ t ∷ [] else copying c past i s)
    when true is = fits-copied c past i e t (copying c past i s) legal (is_copy c past i s e t legal law is) before
    when false is = fits-unchanged c past i e (reply.Attempted (attempt.Tried t)) (copying c past i s) legal few law before
fits-step c past i s e r legal few law before = fits-unchanged c past i e r (copying c past i s) legal few law before

fits : (c : BusConfig) (past : List Entry) → IsLegal c past → c.ifaces ≤ 16 → (i s : ℕ) → FitsNow c past i (copying c past i s)
fits c [] legal few i s = record { head = omega arith; later = λ n lt. refl; unsent = λ n le. refl; few = λ n. omega arith }
fits c (e ∷ past) legal few i s = fits-step c past i s e.event e.reply legal.2 few legal.1 (fits c past legal.2 few i s)

-- no frame reaches a socket more than 32 times
pub few-copies : (c : BusConfig) (past : List Entry) → IsLegal c past → c.ifaces ≤ 16 → AtMost32Copies c past
few-copies c past legal few i s n = subst (λ k. k ≤ 32) (sym (count-numbers c past legal i s n)) ((fits c past legal few i s).few n)
