use Rattle.std.proofs.Common.{◌≡◌, ℕ, suc, ◌+◌, ◌<◌, ◌≤◌, ◌==◌, nat_lt, Bool, true, false, ◌||◌, ◌&&◌, List, [], ◌∷◌, ◌++◌, length, map, filter, count_by, slice_get, Option, Some, None, All, AllPairs, if◌then◌else◌, cond, refl, sym, ap, ◌∙◌, subst, arith}
use Rattle.std.specs.Option.{option_map}
use Rattle.std.proofs.lemmas.Bool.{eqb-true, and_parts, and_right}
use Rattle.std.proofs.lemmas.Option.{slice_get_within}
use Rattle.std.proofs.lemmas.List.Elements.{All-nil, All-cons, All-weaker}
use Rattle.std.proofs.lemmas.List.Kept.{AllPairs-cons}
use Rattle.std.proofs.lemmas.List.Sums.{length-filter}
use Rattle.can_frame.specs.Sets.{is_in}
use Rattle.can_frame.specs.declared.item.Item.TheVariants as item
use Rattle.can_filter.specs.Passing.{wants}
use Rattle.can_fault.specs.declared.verdict.Verdict.{Verdict}
use Rattle.can_attempt.specs.declared.class.Class.{Class}
use Rattle.can_attempt.specs.declared.class.Class.TheVariants as class
use Rattle.can_attempt.specs.Attempts.{Transmission, set_of, accepted_in, class_of, is_done}
use Rattle.can_event.specs.declared.entry.Entry.{Entry}
use Rattle.can_event.specs.declared.event.Event.{Event}
use Rattle.can_event.specs.declared.event.Event.TheVariants.{Attempt, Down}
use Rattle.can_event.specs.declared.reply.Reply.{Reply}
use Rattle.can_event.specs.declared.reply.Reply.TheVariants as reply
use Rattle.can_event.specs.declared.bus_config.BusConfig.{BusConfig}
use Rattle.can_event.specs.declared.received.Received.{Received}
use Rattle.can_event.specs.declared.attempt.Tried.{Tried}
use Rattle.can_event.specs.declared.attempt.Attempt.TheVariants as attempt
use Rattle.can_event.specs.declared.pending.Pending.{Pending}
use Rattle.can_bus.specs.Sockets.{is_open, iface_of, filters_of, options_of}
use Rattle.can_bus.specs.Transmit.{sent_by, gone_count, gone_after}
use Rattle.can_bus.specs.Counters.{transmission}
use Rattle.can_bus.specs.Posts.{is_looped_back, is_own, sender_in}
use Rattle.can_bus.specs.Queues.{queued_to}
use Rattle.can_bus.specs.Legal.{legal_reply, IsLegal}
use Rattle.can_bus.specs.Copies.{numbers_from, NeverFall, comes_to, has_room, is_copied, copying, copying_after, copy_of, went_over, InTurn}
use Rattle.can_bus.proofs.Lawful.{WasTried, tried_by, gone-le-sent}
use Rattle.can_attempt.proofs.Standing.{is_in-of}
use Rattle.can_bus.proofs.CopyFacts.{received-copies}

-- ---- the order of attempts

-- the lowest number that the next attempt can have: a frame that is done is not tried again
abbrev number_after : Tried → ℕ
number_after t = if is_done t.class then t.number + 1 else t.number

-- attempts of frames numbered from a up to below b. Each number is done at most once, and is not tried again after
-- that.
abbrev Follow : ℕ → ℕ → List Tried → Type 0
Follow a b [] = a ≤ b
Follow a b (t ∷ ts) = (a ≤ t.number) × (went_over t.class ≡ true) × Follow (number_after t) b ts

number-grows : (t : Tried) → t.number ≤ number_after t
number-grows t = when (is_done t.class)
  where
    when : (b : Bool) → t.number ≤ (if b then t.number + 1 else t.number)
    when true = omega arith
    when false = omega arith

Follow-more : (a b d : ℕ) (ts : List Tried) → b ≤ d → Follow a b ts → Follow a d ts
Follow-more a b d [] le h = omega (arith, h, le)
Follow-more a b d (t ∷ ts) le h = (h.0, h.1, Follow-more (number_after t) b d ts le h.2)

Follow-push : (a b d : ℕ) (ts : List Tried) (t : Tried) → b ≤ t.number → went_over t.class ≡ true → number_after t ≤ d → Follow a b ts → Follow a d (ts ++ t ∷ [])
Follow-push a b d [] t from over below h = (omega (arith, h, from), over, below)
Follow-push a b d (x ∷ ts) t from over below h = (h.0, h.1, Follow-push (number_after x) b d ts t from over below h.2)

Follow-all : (a b : ℕ) (ts : List Tried) → Follow a b ts → All (λ t. a ≤ t.number) ts
Follow-all a b [] h = All-nil (λ (t : Tried). a ≤ t.number)
Follow-all a b (t ∷ ts) h =
    All-cons (λ (x : Tried). a ≤ x.number) t ts h.0
    (All-weaker (λ (x : Tried). number_after t ≤ x.number) (λ (x : Tried). a ≤ x.number) (λ x le. omega (arith, le, number-grows t, h.0)) ts (Follow-all (number_after t) b ts h.2))

Follow-over : (a b : ℕ) (ts : List Tried) → Follow a b ts → All (λ t. went_over t.class ≡ true) ts
Follow-over a b [] h = All-nil (λ (t : Tried). went_over t.class ≡ true)
Follow-over a b (t ∷ ts) h = All-cons (λ (x : Tried). went_over x.class ≡ true) t ts h.1 (Follow-over (number_after t) b ts h.2)

turn : (x y : Tried) (k : Class) → x.class ≡ k → went_over k ≡ true → (if is_done k then x.number + 1 else x.number) ≤ y.number → InTurn x y
turn x y class.Done is over le = record { rising = omega (arith, le); again = λ same. absurd (omega (arith, le, same)) }
turn x y class.LastBit is over le = record { rising = le; again = λ same. is }
turn x y class.Destroyed is over le = cc
turn x y class.NoAck is over le = cc

Follow-turns : (a b : ℕ) (ts : List Tried) → Follow a b ts → AllPairs InTurn ts
Follow-turns a b [] h = λ i j d lt within. absurd (omega (arith, within))
Follow-turns a b (t ∷ ts) h =
    AllPairs-cons InTurn t ts
    (All-weaker (λ (x : Tried). number_after t ≤ x.number) (InTurn t) (λ x le. turn t x t.class refl h.1 le) ts (Follow-all (number_after t) b ts h.2))
    (Follow-turns (number_after t) b ts h.2)

Follow-numbers : (a b : ℕ) (ts : List Tried) → Follow a b ts → NeverFall a (map (λ (r : Received). r.number) (map copy_of ts))
Follow-numbers a b [] h = tt
Follow-numbers a b (t ∷ ts) h = (h.0, weaker (number_after t) t.number (map (λ (r : Received). r.number) (map copy_of ts)) (number-grows t) (Follow-numbers (number_after t) b ts h.2))
  where
    weaker : (c d : ℕ) (ns : List ℕ) → d ≤ c → NeverFall c ns → NeverFall d ns
    weaker c d [] le k = tt
    weaker c d (n ∷ ns) le k = (omega (arith, le, k.0), k.1)

-- ---- facts about the interface of a tried frame

pub record Facts (past : List Entry) (i : ℕ) (t : Tried) : Type 0 where
  pub number : t.number ≡ gone_count past i
  pub waits : gone_count past i < length (sent_by past i)
  pub frame : option_map (λ (p : Pending). p.frame) (slice_get (sent_by past i) (gone_count past i)) ≡ Some t.frame

facts-at : (c : BusConfig) (past : List Entry) (m : ℕ) (v : Verdict) (t : Tried) → (w : WasTried c past m v t) → Facts past w.place t
facts-at c past m v t w = record {
  number = ap (λ (u : Tried). u.number) w.is;
  waits = slice_get_within (sent_by past w.place) (gone_count past w.place) w.pending w.head;
  frame = ap (option_map (λ (p : Pending). p.frame)) w.head ∙ ap (λ (u : Tried). Some u.frame) (sym w.is);
}

pub facts : (c : BusConfig) (past : List Entry) (m : ℕ) (v : Verdict) (t : Tried) (i : ℕ) → WasTried c past m v t → t.winner ≡ i → Facts past i t
facts c past m v t i w same = subst (λ k. Facts past k t) (sym (ap (λ (u : Tried). u.winner) w.is) ∙ same) (facts-at c past m v t w)

-- ---- a frame that an interface accepted reached the receivers

accepted-over : (k : Class) (tr : Transmission) (j : ℕ) → is_in j (set_of (accepted_in k tr)) ≡ true → went_over k ≡ true
accepted-over class.Done tr j h = refl
accepted-over class.LastBit tr j h = refl
accepted-over class.Destroyed tr j h = let e : true ≡ false = sym h ∙ is_in-of [] j ∙ and_right (nat_lt j 16) false refl in cc
accepted-over class.NoAck tr j h = let e : true ≡ false = sym h ∙ is_in-of [] j ∙ and_right (nat_lt j 16) false refl in cc

pub looped-done : (k : Class) (p : Option Pending) → is_looped_back k p ≡ true → k ≡ class.Done
looped-done class.Done p h = refl
looped-done class.LastBit None h = cc
looped-done class.LastBit (Some p) h = cc
looped-done class.Destroyed None h = cc
looped-done class.Destroyed (Some p) h = cc
looped-done class.NoAck None h = cc
looped-done class.NoAck (Some p) h = cc

comes-over-if : (k : Class) (x y : Bool) (p : Option Pending) → (x || (y && is_looped_back k p)) ≡ true → (x ≡ true → went_over k ≡ true) → went_over k ≡ true
comes-over-if k true y p h from = from refl
comes-over-if k false true p h from = ap went_over (looped-done k p h)
comes-over-if k false false p h from = cc

pub comes-over : (c : BusConfig) (past : List Entry) (m : ℕ) (v : Verdict) (t : Tried) (j : ℕ) (p : Option Pending) → WasTried c past m v t → comes_to j t p ≡ true → went_over t.class ≡ true
comes-over c past m v t j p w h =
    comes-over-if t.class (is_in j t.accepted) (j == t.winner) p h
    (λ a.
    let tr = transmission c past w.place v in
    let same : is_in j (set_of (accepted_in (class_of tr) tr)) ≡ true = ap (λ (u : Tried). is_in j u.accepted) (sym w.is) ∙ a in
    ap (λ (u : Tried). went_over u.class) w.is ∙ accepted-over (class_of tr) tr j same)

-- the frame of a copy reached the interface of the socket
pub record IsCopied (past : List Entry) (s : ℕ) (t : Tried) : Type 0 where
  pub is_there : is_open past s ≡ true
  pub comes : comes_to (iface_of past s) t (slice_get (sent_by past t.winner) t.number) ≡ true

pub copied : (c : BusConfig) (past : List Entry) (s : ℕ) (t : Tried) → is_copied c past s t (slice_get (sent_by past t.winner) t.number) ≡ true → IsCopied past s t
copied c past s t h =
    let p = slice_get (sent_by past t.winner) t.number in
    let room = wants (filters_of past s) (options_of past s) (item.Data t.frame) (is_own (sender_in p) s) && has_room c past s in
    let both = and_parts (is_open past s) (comes_to (iface_of past s) t p && room) h in
    record { is_there = both.0; comes = (and_parts (comes_to (iface_of past s) t p) room both.1).0 }

-- ---- in every legal history the attempts come in order

abbrev pub here : BusConfig → List Entry → ℕ → ℕ → Tried → Bool
here c past i s t = is_copied c past s t (slice_get (sent_by past t.winner) t.number) && (t.winner == i)

pub after-le : (n sent gone : ℕ) (off mine done : Bool) → n ≡ gone → gone < sent → mine ≡ true → (if done then n + 1 else n) ≤ (if off then sent else if mine && done then gone + 1 else gone)
after-le n sent gone true mine true is lt h = omega (arith, is, lt)
after-le n sent gone true mine false is lt h = omega (arith, is, lt)
after-le n sent gone false true true is lt h = omega (arith, is)
after-le n sent gone false true false is lt h = omega (arith, is)
after-le n sent gone false false true is lt h = cc
after-le n sent gone false false false is lt h = omega (arith, is)

pub gone-grows-if : (sent gone : ℕ) (off mine : Bool) → gone ≤ sent → gone ≤ (if off then sent else if mine then gone + 1 else gone)
gone-grows-if sent gone true mine le = le
gone-grows-if sent gone false true le = omega arith
gone-grows-if sent gone false false le = omega arith

pub gone-grows : (past : List Entry) (i : ℕ) (e : Event) (r : Reply) → gone_count past i ≤ length (sent_by past i) → gone_count past i ≤ gone_after e r i (length (sent_by past i)) (gone_count past i)
gone-grows past i e (reply.Attempted (attempt.Tried t)) le = gone-grows-if (length (sent_by past i)) (gone_count past i) (is_in i t.off) ((t.winner == i) && is_done t.class) le
gone-grows past i (Down k m) reply.Done le = when (k == i)
  where
    when : (b : Bool) → gone_count past i ≤ (if b then length (sent_by past i) else gone_count past i)
    when true = le
    when false = omega arith
gone-grows past i _ _ le = omega arith

follow-tried : (c : BusConfig) (past : List Entry) (i s m : ℕ) (v : Verdict) (t : Tried) → WasTried c past m v t → gone_count past i ≤ length (sent_by past i) → Follow 0 (gone_count past i) (copying c past i s) → Follow 0 (gone_after (Attempt m v) (reply.Attempted (attempt.Tried t)) i (length (sent_by past i)) (gone_count past i)) (copying_after c past i s (reply.Attempted (attempt.Tried t)) (copying c past i s))
follow-tried c past i s m v t w le before = when (here c past i s t) refl
  where
    after : ℕ
    after = gone_after (Attempt m v) (reply.Attempted (attempt.Tried t)) i (length (sent_by past i)) (gone_count past i)

    when : (b : Bool) → here c past i s t ≡ b → Follow 0 after (if b then copying c past i s ++ t ∷ [] else copying c past i s)
    when true is =
        let both = and_parts (is_copied c past s t (slice_get (sent_by past t.winner) t.number)) (t.winner == i) is in
        let mine : t.winner ≡ i = eqb-true t.winner i both.1 in
        let f : Facts past i t = facts c past m v t i w mine in
        let over : went_over t.class ≡ true = comes-over c past m v t (iface_of past s) (slice_get (sent_by past t.winner) t.number) w (copied c past s t both.0).comes in
        let from : gone_count past i ≤ t.number = let number = f.number in omega (arith, number) in
        Follow-push 0 (gone_count past i) after (copying c past i s) t from over (after-le t.number (length (sent_by past i)) (gone_count past i) (is_in i t.off) (t.winner == i) (is_done t.class) f.number f.waits both.1) before
    when false is = Follow-more 0 (gone_count past i) after (copying c past i s) (gone-grows-if (length (sent_by past i)) (gone_count past i) (is_in i t.off) ((t.winner == i) && is_done t.class) le) before

follow-step : (c : BusConfig) (past : List Entry) (i s : ℕ) (e : Event) (r : Reply) → r ≡ legal_reply c past e → gone_count past i ≤ length (sent_by past i) → Follow 0 (gone_count past i) (copying c past i s) → Follow 0 (gone_after e r i (length (sent_by past i)) (gone_count past i)) (copying_after c past i s r (copying c past i s))
follow-step c past i s e (reply.Attempted (attempt.Tried t)) law le before = tried_by c past e t law (λ m v w. follow-tried c past i s m v t w le before)
follow-step c past i s e r law le before = Follow-more 0 (gone_count past i) (gone_after e r i (length (sent_by past i)) (gone_count past i)) (copying_after c past i s r (copying c past i s)) (gone-grows past i e r le) before

follow : (c : BusConfig) (past : List Entry) → IsLegal c past → (i s : ℕ) → Follow 0 (gone_count past i) (copying c past i s)
follow c [] legal i s = omega arith
follow c (e ∷ past) legal i s = follow-step c past i s e.event e.reply legal.1 (gone-le-sent c past legal.2 i) (follow c past legal.2 i s)

pub copying-over : (c : BusConfig) (past : List Entry) → IsLegal c past → (i s : ℕ) → All (λ t. went_over t.class ≡ true) (copying c past i s)
copying-over c past legal i s = Follow-over 0 (gone_count past i) (copying c past i s) (follow c past legal i s)

pub copying-turns : (c : BusConfig) (past : List Entry) → IsLegal c past → (i s : ℕ) → AllPairs InTurn (copying c past i s)
copying-turns c past legal i s = Follow-turns 0 (gone_count past i) (copying c past i s) (follow c past legal i s)

numbers-are : (c : BusConfig) (past : List Entry) → IsLegal c past → (i s : ℕ) → numbers_from i (queued_to c past s) ≡ map (λ (r : Received). r.number) (map copy_of (copying c past i s))
numbers-are c past legal i s = ap (map (λ (r : Received). r.number)) (received-copies c past legal i s)

pub numbers-never-fall : (c : BusConfig) (past : List Entry) → IsLegal c past → (i s : ℕ) → NeverFall 0 (numbers_from i (queued_to c past s))
numbers-never-fall c past legal i s = subst (NeverFall 0) (sym (numbers-are c past legal i s)) (Follow-numbers 0 (gone_count past i) (copying c past i s) (follow c past legal i s))

-- ---- a number occurs as often as its frame was copied

as_often : (n : ℕ) (ts : List Tried) → length (filter (λ m. m == n) (map (λ (r : Received). r.number) (map copy_of ts))) ≡ length (filter (λ (t : Tried). t.number == n) ts)
as_often n [] = refl
as_often n (t ∷ ts) = both (t.number == n) (as_often n ts)
  where
    both : (b : Bool) → length (filter (λ m. m == n) (map (λ (r : Received). r.number) (map copy_of ts))) ≡ length (filter (λ (t : Tried). t.number == n) ts) → length (cond b (t.number ∷ filter (λ m. m == n) (map (λ (r : Received). r.number) (map copy_of ts))) (filter (λ m. m == n) (map (λ (r : Received). r.number) (map copy_of ts)))) ≡ length (cond b (t ∷ filter (λ (x : Tried). x.number == n) ts) (filter (λ (x : Tried). x.number == n) ts))
    both true same = ap suc same
    both false same = same

pub count-numbers : (c : BusConfig) (past : List Entry) → IsLegal c past → (i s n : ℕ) → count_by (λ m. m == n) (numbers_from i (queued_to c past s)) ≡ count_by (λ (t : Tried). t.number == n) (copying c past i s)
count-numbers c past legal i s n =
    ap (count_by (λ m. m == n)) (numbers-are c past legal i s)
    ∙ sym (length-filter (λ m. m == n) (map (λ (r : Received). r.number) (map copy_of (copying c past i s))))
    ∙ as_often n (copying c past i s)
    ∙ length-filter (λ (t : Tried). t.number == n) (copying c past i s)
