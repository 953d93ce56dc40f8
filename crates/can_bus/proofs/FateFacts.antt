use Rattle.std.proofs.Common.{◌≡◌, ◌≢◌, ◌⊎◌, ℕ, zero, suc, ◌+◌, ◌-◌, ◌<◌, ◌≤◌, ◌==◌, nat_le, Bool, true, false, ◌||◌, ◌&&◌, List, [], ◌∷◌, ◌++◌, length, filter, count_by, if◌then◌else◌, cond, refl, sym, ap, ◌∙◌, arith, inl, inr}
use Rattle.std.specs.List.{list_any, range_with_len}
use Rattle.std.proofs.lemmas.Bool.{eqb-true, eq-eqb, ne_eqb, cases_eq, and_parts}
use Rattle.std.proofs.lemmas.List.{length-append}
use Rattle.std.proofs.lemmas.List.Elements.{filter-append}
use Rattle.std.proofs.lemmas.List.Folds.{list_any-append}
use Rattle.std.proofs.lemmas.List.Sums.{length-filter}
use Rattle.can_frame.specs.Sets.{is_in}
use Rattle.can_fault.specs.declared.verdict.Verdict.{Verdict}
use Rattle.can_attempt.proofs.Places.{range_more}
use Rattle.can_event.specs.declared.entry.Entry.{Entry}
use Rattle.can_event.specs.declared.event.Event.{Event}
use Rattle.can_event.specs.declared.event.Event.TheVariants.{Attempt}
use Rattle.can_event.specs.declared.reply.Reply.{Reply}
use Rattle.can_event.specs.declared.reply.Reply.TheVariants as reply
use Rattle.can_event.specs.declared.bus_config.BusConfig.{BusConfig}
use Rattle.can_event.specs.declared.attempt.Tried.{Tried}
use Rattle.can_event.specs.declared.attempt.Attempt.TheVariants as attempt
use Rattle.can_attempt.specs.Attempts.{is_done}
use Rattle.can_bus.specs.Transmit.{sent_by, gone_count, gone_after, done_count, done_after, lost_count}
use Rattle.can_record.specs.Tapes.{tape, tape_after}
use Rattle.can_bus.specs.Legal.{legal_reply, IsLegal}
use Rattle.can_bus.specs.Fates.{Fate, is_fate, was_done, fate_of, frames_with}
use Rattle.can_bus.specs.Fates.Fate.{Waiting, Done, Lost}
use Rattle.can_bus.proofs.Lawful.{WasTried, tried_by, gone-le-sent, done-le-gone}
use Rattle.can_bus.proofs.TurnFacts.{Facts, facts, after-le, gone-grows-if, gone-grows}

-- ---- the number of numbers below m that satisfy a condition

abbrev one_if : Bool → ℕ
one_if b = if b then 1 else 0

abbrev below : (ℕ → Bool) → ℕ → ℕ
below p zero = 0
below p (suc m) = below p m + one_if (p m)

length-one : (b : Bool) (m : ℕ) → length (cond b (m ∷ []) []) ≡ one_if b
length-one true m = refl
length-one false m = refl

below-is : (p : ℕ → Bool) (m : ℕ) → length (filter p (range_with_len 0 m)) ≡ below p m
below-is p zero = refl
below-is p (suc m) =
    ap (λ ns. length (filter p ns)) (range_more 0 m m (omega arith))
    ∙ ap (λ (ns : List ℕ). length ns) (filter-append p (range_with_len 0 m) (m ∷ []))
    ∙ length-append (filter p (range_with_len 0 m)) (filter p (m ∷ []))
    ∙ ap (λ n. n + length (filter p (m ∷ []))) (below-is p m)
    ∙ ap (λ n. below p m + n) (length-one (p m) m)

pub count-below : (p : ℕ → Bool) (m : ℕ) → count_by p (range_with_len 0 m) ≡ below p m
count-below p m = sym (length-filter p (range_with_len 0 m)) ∙ below-is p m

below-same : (p q : ℕ → Bool) (m : ℕ) → ((n : ℕ) → n < m → p n ≡ q n) → below p m ≡ below q m
below-same p q zero same = refl
below-same p q (suc m) same =
    ap (λ n. n + one_if (p m)) (below-same p q m (λ n lt. same n (omega (arith, lt))))
    ∙ ap (λ b. below q m + one_if b) (same m (omega arith))

below-none : (p : ℕ → Bool) (m : ℕ) → ((n : ℕ) → p n ≡ false) → below p m ≡ 0
below-none p zero none = refl
below-none p (suc m) none = ap (λ n. n + one_if (p m)) (below-none p m none) ∙ ap (λ b. 0 + one_if b) (none m)

or-false : (b : Bool) → (b || false) ≡ b
or-false true = refl
or-false false = refl

-- one more number satisfies the condition
below-one : (p q : ℕ → Bool) (g m : ℕ) → g < m → p g ≡ false → ((n : ℕ) → q n ≡ (p n || (g == n))) → below q m ≡ below p m + 1
below-one p q g zero lt fails more = absurd (omega (arith, lt))
below-one p q g (suc m) lt fails more = choose (cases_eq g m) (below-one p q g m)
  where
    elsewhere : (n : ℕ) → g ≢ n → q n ≡ p n
    elsewhere n other = more n ∙ ap (λ b. p n || b) (ne_eqb g n other) ∙ or-false (p n)

    choose : (g ≡ m) ⊎ (g ≢ m) → (g < m → p g ≡ false → ((n : ℕ) → q n ≡ (p n || (g == n))) → below q m ≡ below p m + 1) → below q m + one_if (q m) ≡ below p m + one_if (p m) + 1
    choose (inl same) rest =
        let before : below q m ≡ below p m = below-same q p m (λ n small. elsewhere n (λ e. absurd (omega (arith, e, same, small)))) in
        let fails' : p m ≡ false = ap p (sym same) ∙ fails in
        let here : q m ≡ true = more m ∙ ap (λ b. b || (g == m)) fails' ∙ eq-eqb g m same in
        let x : one_if (q m) ≡ 1 = ap one_if here in
        let y : one_if (p m) ≡ 0 = ap one_if fails' in
        omega (arith, before, x, y)
    choose (inr other) rest =
        let before : below q m ≡ below p m + 1 = rest (omega (arith, lt, other)) fails more in
        let x : one_if (q m) ≡ one_if (p m) = ap one_if (elsewhere m other) in
        omega (arith, before, x)

below-from : (g m : ℕ) → below (λ n. nat_le g n) m ≡ m - g
below-from g zero = omega arith
below-from g (suc m) = choose (nat_le g m) refl (below-from g m)
  where
    choose : (b : Bool) → nat_le g m ≡ b → below (λ n. nat_le g n) m ≡ m - g → below (λ n. nat_le g n) m + one_if b ≡ suc m - g
    choose true is rest = let le : g ≤ m = grind (arith, is) in omega (arith, rest, le)
    choose false is rest = let lt : m < g = grind (arith, is) in omega (arith, rest, lt)

-- each frame has exactly one fate
below-fates : (f : ℕ → Fate) (m : ℕ) → below (λ n. is_fate (f n) Waiting) m + below (λ n. is_fate (f n) Done) m + below (λ n. is_fate (f n) Lost) m ≡ m
below-fates f zero = refl
below-fates f (suc m) = choose (f m) (below-fates f m)
  where
    choose : (x : Fate) → below (λ n. is_fate (f n) Waiting) m + below (λ n. is_fate (f n) Done) m + below (λ n. is_fate (f n) Lost) m ≡ m → (below (λ n. is_fate (f n) Waiting) m + one_if (is_fate x Waiting)) + (below (λ n. is_fate (f n) Done) m + one_if (is_fate x Done)) + (below (λ n. is_fate (f n) Lost) m + one_if (is_fate x Lost)) ≡ suc m
    choose Waiting rest = omega (arith, rest)
    choose Done rest = omega (arith, rest)
    choose Lost rest = omega (arith, rest)

-- ---- the frames that are done

abbrev does : ℕ → ℕ → Tried → Bool
does i n t = (t.winner == i) && (is_done t.class && (t.number == n))

was_done-more : (past : List Entry) (t : Tried) (i n : ℕ) → list_any (does i n) (tape past ++ t ∷ []) ≡ (was_done past i n || does i n t)
was_done-more past t i n = list_any-append (does i n) (tape past) (t ∷ []) ∙ ap (λ b. was_done past i n || b) (or-false (does i n t))

or-cases : {P : Type 0} (x y : Bool) → (x || y) ≡ true → (x ≡ true → P) → (y ≡ true → P) → P
or-cases true y h a b = a refl
or-cases false y h a b = b h

gone-tried : (c : BusConfig) (past : List Entry) (m : ℕ) (v : Verdict) (t : Tried) (i : ℕ) → WasTried c past m v t → t.winner ≡ i → is_done t.class ≡ true → t.number < gone_after (Attempt m v) (reply.Attempted (attempt.Tried t)) i (length (sent_by past i)) (gone_count past i)
gone-tried c past m v t i w mine done =
    let f : Facts past i t = facts c past m v t i w mine in
    let le = after-le t.number (length (sent_by past i)) (gone_count past i) (is_in i t.off) (t.winner == i) (is_done t.class) f.number f.waits (eq-eqb t.winner i mine) in
    let next : (if is_done t.class then t.number + 1 else t.number) ≡ t.number + 1 = ap (λ b. if b then t.number + 1 else t.number) done in
    omega (arith, le, next)

done-gone-tried : (c : BusConfig) (past : List Entry) (m : ℕ) (v : Verdict) (t : Tried) (i n : ℕ) → WasTried c past m v t → gone_count past i ≤ length (sent_by past i) → (was_done past i n ≡ true → n < gone_count past i) → list_any (does i n) (tape past ++ t ∷ []) ≡ true → n < gone_after (Attempt m v) (reply.Attempted (attempt.Tried t)) i (length (sent_by past i)) (gone_count past i)
done-gone-tried c past m v t i n w le before h =
    or-cases (was_done past i n) (does i n t) (sym (was_done-more past t i n) ∙ h)
    (λ was. let grows = gone-grows-if (length (sent_by past i)) (gone_count past i) (is_in i t.off) ((t.winner == i) && is_done t.class) le in let lt = before was in omega (arith, grows, lt))
    (λ does_it.
    let a = and_parts (t.winner == i) (is_done t.class && (t.number == n)) does_it in
    let b = and_parts (is_done t.class) (t.number == n) a.1 in
    let lt = gone-tried c past m v t i w (eqb-true t.winner i a.0) b.0 in
    let same = eqb-true t.number n b.1 in
    omega (arith, lt, same))

done-gone-step : (c : BusConfig) (past : List Entry) (i n : ℕ) (e : Event) (r : Reply) → r ≡ legal_reply c past e → gone_count past i ≤ length (sent_by past i) → (was_done past i n ≡ true → n < gone_count past i) → list_any (does i n) (tape_after r (tape past)) ≡ true → n < gone_after e r i (length (sent_by past i)) (gone_count past i)
done-gone-step c past i n e (reply.Attempted (attempt.Tried t)) law le before h = tried_by c past e t law (λ m v w. done-gone-tried c past m v t i n w le before h)
done-gone-step c past i n e r law le before h = let grows = gone-grows past i e r le in let lt = before h in omega (arith, grows, lt)

-- a frame that is done has left the queue
pub done-gone : (c : BusConfig) (past : List Entry) → IsLegal c past → (i n : ℕ) → was_done past i n ≡ true → n < gone_count past i
done-gone c [] legal i n h = cc
done-gone c (e ∷ past) legal i n h = done-gone-step c past i n e.event e.reply legal.1 (gone-le-sent c past legal.2 i) (done-gone c past legal.2 i n) h

not-done : (c : BusConfig) (past : List Entry) → IsLegal c past → (i n : ℕ) → gone_count past i ≤ n → was_done past i n ≡ false
not-done c past legal i n le = choose (was_done past i n) refl
  where
    choose : (b : Bool) → was_done past i n ≡ b → b ≡ false
    choose true is = let lt = done-gone c past legal i n is in absurd (omega (arith, lt, le))
    choose false is = refl

-- ---- the number of frames done is the number of attempts done

does-not : (a d e : Bool) → (a && d) ≡ false → (a && (d && e)) ≡ false
does-not true true e h = cc
does-not true false e h = refl
does-not false d e h = refl

count-tried : (c : BusConfig) (past : List Entry) (mo : ℕ) (v : Verdict) (t : Tried) (i m : ℕ) → IsLegal c past → WasTried c past mo v t → gone_after (Attempt mo v) (reply.Attempted (attempt.Tried t)) i (length (sent_by past i)) (gone_count past i) ≤ m → below (was_done past i) m ≡ done_count past i → below (λ n. list_any (does i n) (tape past ++ t ∷ [])) m ≡ done_after (reply.Attempted (attempt.Tried t)) i (done_count past i)
count-tried c past mo v t i m legal w le before = choose ((t.winner == i) && is_done t.class) refl
  where
    after : ℕ → Bool
    after = λ n. list_any (does i n) (tape past ++ t ∷ [])

    choose : (b : Bool) → ((t.winner == i) && is_done t.class) ≡ b → below after m ≡ (if b then done_count past i + 1 else done_count past i)
    choose true is =
        let both = and_parts (t.winner == i) (is_done t.class) is in
        let mine : t.winner ≡ i = eqb-true t.winner i both.0 in
        let number : t.number ≡ gone_count past i = (facts c past mo v t i w mine).number in
        let lt = gone-tried c past mo v t i w mine both.1 in
        let fresh : was_done past i t.number ≡ false = not-done c past legal i t.number (omega (arith, number)) in
        let more : (n : ℕ) → after n ≡ (was_done past i n || (t.number == n)) = λ n. was_done-more past t i n ∙ ap (λ b. was_done past i n || (b && (is_done t.class && (t.number == n)))) both.0 ∙ ap (λ b. was_done past i n || (b && (t.number == n))) both.1 in
        below-one (was_done past i) after t.number m (omega (arith, lt, le)) fresh more ∙ ap (λ k. k + 1) before
    choose false is =
        below-same after (was_done past i) m (λ n small. was_done-more past t i n ∙ ap (λ b. was_done past i n || b) (does-not (t.winner == i) (is_done t.class) (t.number == n) is) ∙ or-false (was_done past i n)) ∙ before

count-step : (c : BusConfig) (past : List Entry) (i m : ℕ) (e : Event) (r : Reply) → IsLegal c past → r ≡ legal_reply c past e → gone_after e r i (length (sent_by past i)) (gone_count past i) ≤ m → (gone_count past i ≤ m → below (was_done past i) m ≡ done_count past i) → below (λ n. list_any (does i n) (tape_after r (tape past))) m ≡ done_after r i (done_count past i)
count-step c past i m e (reply.Attempted (attempt.Tried t)) legal law le before =
    let sent = gone-le-sent c past legal i in
    let grows = gone-grows-if (length (sent_by past i)) (gone_count past i) (is_in i t.off) ((t.winner == i) && is_done t.class) sent in
    tried_by c past e t law (λ mo v w. count-tried c past mo v t i m legal w le (before (omega (arith, grows, le))))
count-step c past i m e r legal law le before = let grows = gone-grows past i e r (gone-le-sent c past legal i) in before (omega (arith, grows, le))

count-done : (c : BusConfig) (past : List Entry) → IsLegal c past → (i m : ℕ) → gone_count past i ≤ m → below (was_done past i) m ≡ done_count past i
count-done c [] legal i m le = below-none (was_done [] i) m (λ n. refl)
count-done c (e ∷ past) legal i m le = count-step c past i m e.event e.reply legal.2 legal.1 le (count-done c past legal.2 i m)

-- ---- the counts of the fates

waits-is : (b d : Bool) → is_fate (if b then Waiting else if d then Done else Lost) Waiting ≡ b
waits-is true d = refl
waits-is false true = refl
waits-is false false = refl

done-is : (b d : Bool) → (b ≡ true → d ≡ false) → is_fate (if b then Waiting else if d then Done else Lost) Done ≡ d
done-is true d none = sym (none refl)
done-is false true none = refl
done-is false false none = refl

waits-below : (past : List Entry) (i : ℕ) → below (λ n. is_fate (fate_of past i n) Waiting) (length (sent_by past i)) ≡ length (sent_by past i) - gone_count past i
waits-below past i =
    below-same (λ n. is_fate (fate_of past i n) Waiting) (λ n. nat_le (gone_count past i) n) (length (sent_by past i)) (λ n small. waits-is (nat_le (gone_count past i) n) (was_done past i n))
    ∙ below-from (gone_count past i) (length (sent_by past i))

done-below : (c : BusConfig) (past : List Entry) → IsLegal c past → (i : ℕ) → below (λ n. is_fate (fate_of past i n) Done) (length (sent_by past i)) ≡ done_count past i
done-below c past legal i =
    below-same (λ n. is_fate (fate_of past i n) Done) (was_done past i) (length (sent_by past i)) (λ n small. done-is (nat_le (gone_count past i) n) (was_done past i n) (λ waits. not-done c past legal i n (grind (arith, waits))))
    ∙ count-done c past legal i (length (sent_by past i)) (gone-le-sent c past legal i)

pub frames-waiting : (c : BusConfig) (past : List Entry) → IsLegal c past → (i : ℕ) → frames_with Waiting past i ≡ length (sent_by past i) - gone_count past i
frames-waiting c past legal i = count-below (λ n. is_fate (fate_of past i n) Waiting) (length (sent_by past i)) ∙ waits-below past i

pub frames-done : (c : BusConfig) (past : List Entry) → IsLegal c past → (i : ℕ) → frames_with Done past i ≡ done_count past i
frames-done c past legal i = count-below (λ n. is_fate (fate_of past i n) Done) (length (sent_by past i)) ∙ done-below c past legal i

pub frames-lost : (c : BusConfig) (past : List Entry) → IsLegal c past → (i : ℕ) → frames_with Lost past i ≡ lost_count past i
frames-lost c past legal i =
    let all = below-fates (fate_of past i) (length (sent_by past i)) in
    let waiting = waits-below past i in
    let done = done-below c past legal i in
    let lost = count-below (λ n. is_fate (fate_of past i n) Lost) (length (sent_by past i)) in
    let le = gone-le-sent c past legal i in
    let fewer = done-le-gone c past legal i in
    omega (arith, all, waiting, done, lost, le, fewer)
