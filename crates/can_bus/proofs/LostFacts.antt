use Rattle.std.proofs.Common.{◌≡◌, ℕ, ◌+◌, ◌-◌, ◌≤◌, ◌==◌, nat_lt, Bool, true, false, ◌&&◌, List, [], ◌∷◌, length, if◌then◌else◌, refl, sym, ap, ◌∙◌, arith}
use Rattle.std.proofs.lemmas.Bool.{eq-eqb, and_parts}
use Rattle.can_frame.specs.Sets.{is_in}
use Rattle.can_confine.specs.Confinement.{ErrorCounts, stepped, all_stepped, state_of, is_off}
use Rattle.can_confine.specs.Confinement.Step.{GoodTransmission}
use Rattle.can_fault.specs.declared.verdict.Verdict.{Verdict}
use Rattle.can_attempt.specs.declared.class.Class.{Class}
use Rattle.can_attempt.specs.declared.class.Class.TheVariants as class
use Rattle.can_attempt.specs.Attempts.{Transmission, is_among, set_of, class_of, steps_at, winner_step, counts_after, off_after, is_done}
use Rattle.can_attempt.specs.Attempts as attempts
use Rattle.can_event.specs.declared.entry.Entry.{Entry}
use Rattle.can_event.specs.declared.event.Event.{Event}
use Rattle.can_event.specs.declared.event.Event.TheVariants.{Open, Close, SetFilters, SetOption, Send, Receive, Attempt, Restart, Down}
use Rattle.can_event.specs.declared.reply.Reply.{Reply}
use Rattle.can_event.specs.declared.reply.Reply.TheVariants as reply
use Rattle.can_event.specs.declared.bus_config.BusConfig.{BusConfig}
use Rattle.can_event.specs.declared.attempt.Tried.{Tried}
use Rattle.can_event.specs.declared.attempt.Attempt.TheVariants as attempt
use Rattle.can_bus.specs.Transmit.{sent_by, gone_count, gone_after, done_count, done_after, lost_count}
use Rattle.can_bus.specs.Counters.{state_at, transmission}
use Rattle.can_bus.specs.Legal.{legal_reply, IsLegal}
use Rattle.can_bus.specs.Fates.{goes_silent}
use Rattle.can_bus.proofs.Lawful.{WasTried, tried_by, gone-le-sent, done-le-gone}
use Rattle.can_attempt.proofs.Standing.{is_in-of}
use Rattle.can_bus.proofs.OffFacts.{winner-contends}
use Rattle.can_bus.proofs.Silence.{live-not-off}

-- ---- if no interface goes bus off or down, no frame is lost

kept-if : (sent gone done : ℕ) (off here : Bool) → off ≡ false → (if off then sent else if here then gone + 1 else gone) - (if here then done + 1 else done) ≡ gone - done
kept-if sent gone done true here is = cc
kept-if sent gone done false true is = omega arith
kept-if sent gone done false false is = refl

lost-step : (past : List Entry) (i : ℕ) (e : Event) (r : Reply) → goes_silent i e r ≡ false → gone_after e r i (length (sent_by past i)) (gone_count past i) - done_after r i (done_count past i) ≡ gone_count past i - done_count past i
lost-step past i e (reply.Attempted (attempt.Tried t)) live = kept-if (length (sent_by past i)) (gone_count past i) (done_count past i) (is_in i t.off) ((t.winner == i) && is_done t.class) live
lost-step past i (Down k m) reply.Done live = ap (λ b. (if b then length (sent_by past i) else gone_count past i) - done_count past i) live
lost-step past i _ _ live = refl

pub lost-kept : (past : List Entry) (e : Entry) (i : ℕ) → goes_silent i e.event e.reply ≡ false → lost_count (e ∷ past) i ≡ lost_count past i
lost-kept past e i live = lost-step past i e.event e.reply live

-- ---- an attempt that is done makes no interface go bus off

off-before : (c : ErrorCounts) → is_off (state_of (stepped c GoodTransmission)) ≡ true → is_off (state_of c) ≡ true
off-before c h = grind (arith, h)

-- in an attempt that is done, the winner takes the step for a good transmission
good_step : (t : Transmission) → class_of t ≡ class.Done → counts_after t t.winner ≡ stepped (t.counts t.winner) GoodTransmission
good_step t done =
    let here : (t.winner == t.winner) ≡ true = eq-eqb t.winner t.winner refl in
    let steps : steps_at t.winner t ≡ GoodTransmission ∷ [] = rw here (ap (λ (k : Class). winner_step k (attempts.state_at t t.winner)) done) in
    ap (all_stepped (t.counts t.winner)) steps

is_done-Done : (k : Class) → is_done k ≡ true → k ≡ class.Done
is_done-Done class.Done h = refl
is_done-Done class.LastBit h = cc
is_done-Done class.Destroyed h = cc
is_done-Done class.NoAck h = cc

-- only the winner goes bus off, because of its error counts
went_off : (t : Transmission) (i : ℕ) → is_in i (set_of (off_after t)) ≡ true → is_off (state_of (counts_after t t.winner)) ≡ true
went_off t i h = when (is_off (state_of (counts_after t t.winner))) (and_parts (nat_lt i 16) (is_among i (off_after t)) (sym (is_in-of (off_after t) i) ∙ h)).1
  where
    when : (b : Bool) → is_among i (if b then t.winner ∷ [] else []) ≡ true → b ≡ true
    when true among = refl
    when false among = cc

not-done-off : (c : BusConfig) (past : List Entry) (m : ℕ) (v : Verdict) (t : Tried) (i : ℕ) → WasTried c past m v t → is_in i t.off ≡ true → is_done t.class ≡ false
not-done-off c past m v t i w off = when (is_done t.class) refl
  where
    when : (b : Bool) → is_done t.class ≡ b → b ≡ false
    when false is = refl
    when true is =
        let tr = transmission c past w.place v in
        let done : class_of tr ≡ class.Done = sym (ap (λ (u : Tried). u.class) w.is) ∙ is_done-Done t.class is in
        let gone_off : is_off (state_of (counts_after tr w.place)) ≡ true = went_off tr i (sym (ap (λ (u : Tried). is_in i u.off) w.is) ∙ off) in
        let stepped_off : is_off (state_of (stepped (tr.counts w.place) GoodTransmission)) ≡ true = ap (λ (x : ErrorCounts). is_off (state_of x)) (sym (good_step tr done)) ∙ gone_off in
        let was : is_off (state_at c past w.place) ≡ true = off-before (tr.counts w.place) stepped_off in
        let clash : true ≡ false = sym was ∙ live-not-off (state_at c past w.place) (winner-contends c past w.place w.won).live in
        cc

-- ---- if an interface goes bus off or down, all its waiting frames are lost

lost-if : (sent gone done : ℕ) (off mine fine : Bool) → off ≡ true → fine ≡ false → done ≤ gone → gone ≤ sent → (if off then sent else if mine && fine then gone + 1 else gone) - (if mine && fine then done + 1 else done) ≡ gone - done + (sent - gone)
lost-if sent gone done true true true is bad le le' = cc
lost-if sent gone done true true false is bad le le' = omega (arith, le, le')
lost-if sent gone done true false fine is bad le le' = omega (arith, le, le')
lost-if sent gone done false mine fine is bad le le' = cc

lost-more : (c : BusConfig) (past : List Entry) (i : ℕ) (e : Event) (r : Reply) → IsLegal c past → r ≡ legal_reply c past e → goes_silent i e r ≡ true → gone_after e r i (length (sent_by past i)) (gone_count past i) - done_after r i (done_count past i) ≡ lost_count past i + (length (sent_by past i) - gone_count past i)
lost-more c past i e (reply.Attempted (attempt.Tried t)) legal law off =
    tried_by c past e t law (λ m v w. lost-if (length (sent_by past i)) (gone_count past i) (done_count past i) (is_in i t.off) (t.winner == i) (is_done t.class) off (not-done-off c past m v t i w off) (done-le-gone c past legal i) (gone-le-sent c past legal i))
lost-more c past i (Down k m) reply.Done legal law down =
    let fewer = done-le-gone c past legal i in
    let most = gone-le-sent c past legal i in
    ap (λ b. (if b then length (sent_by past i) else gone_count past i) - done_count past i) down ∙ omega (arith, fewer, most)
lost-more c past i (Open j n) _ legal law off = cc
lost-more c past i (Close s) _ legal law off = cc
lost-more c past i (SetFilters s f) _ legal law off = cc
lost-more c past i (SetOption s o) _ legal law off = cc
lost-more c past i (Send s f) _ legal law off = cc
lost-more c past i (Receive s) _ legal law off = cc
lost-more c past i (Attempt m v) _ legal law off = cc
lost-more c past i (Restart k m) _ legal law off = cc
lost-more c past i (Down k m) _ legal law off = cc

pub lost-where-silent : (c : BusConfig) (past : List Entry) (e : Entry) (i : ℕ) → IsLegal c (e ∷ past) → goes_silent i e.event e.reply ≡ true → lost_count (e ∷ past) i ≡ lost_count past i + (length (sent_by past i) - gone_count past i)
lost-where-silent c past e i legal off = lost-more c past i e.event e.reply legal.2 legal.1 off
