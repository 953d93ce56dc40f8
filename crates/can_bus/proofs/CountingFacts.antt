use Rattle.std.proofs.Common.{◌≡◌, ℕ, suc, ◌≤◌, ◌==◌, nat_lt, Bool, true, false, ◌||◌, List, [], ◌∷◌, ◌++◌, filter, Option, Some, None, is_some, if◌then◌else◌, refl, sym, ap, ◌∙◌, subst}
use Rattle.std.specs.List.{range_with_len}
use Rattle.std.specs.Option.{option_map}
use Rattle.std.proofs.lemmas.Bool.{eqb-true, and_parts}
use Rattle.can_frame.specs.Sets.{is_in}
use Rattle.can_frame.specs.declared.iface.IfaceSet.{IfaceSet}
use Rattle.can_confine.specs.Confinement.{ErrorCounts, all_stepped, at_start, state_of, is_down, is_off}
use Rattle.can_confine.specs.Confinement.Step.{TakenDown}
use Rattle.can_fault.specs.declared.verdict.Verdict.{Verdict}
use Rattle.can_attempt.specs.Attempts.{Transmission, is_among, set_of, steps_at, counts_after, off_after}
use Rattle.can_attempt.proofs.Places.{is_among-filter}
use Rattle.can_attempt.proofs.Standing.{is_in-of}
use Rattle.can_event.specs.declared.bus_config.BusConfig.{BusConfig}
use Rattle.can_event.specs.declared.entry.Entry.{Entry}
use Rattle.can_event.specs.declared.event.Event.{Event}
use Rattle.can_event.specs.declared.event.Event.TheVariants.{Open, Close, SetFilters, SetOption, Send, Receive, Attempt, Restart, Down}
use Rattle.can_event.specs.declared.reply.Reply.{Reply}
use Rattle.can_event.specs.declared.reply.Reply.TheVariants as reply
use Rattle.can_event.specs.declared.attempt.Tried.{Tried}
use Rattle.can_event.specs.declared.attempt.Attempt.TheVariants as attempt
use Rattle.can_event.specs.declared.pending.Pending.{Pending}
use Rattle.can_bus.specs.Attempts.{winner, attempt_reply, tried_head}
use Rattle.can_bus.specs.Transmit.{head_of}
use Rattle.can_bus.specs.AutoRestart.{attempts_off, attempts_off_after, is_nth_after, is_due, restarted_next}
use Rattle.can_bus.specs.Counters.{counts_of, steps_of, steps_after, state_at, transmission}
use Rattle.can_bus.specs.Legal.{legal_reply, IsLegal}
use Rattle.can_bus.proofs.Lawful.{WasTried, by_attempt}
use Rattle.can_bus.proofs.OffFacts.{all_stepped-append, counts-beyond}
use Rattle.can_bus.proofs.SilentFacts.{steps-stay}
use Rattle.can_bus.proofs.Silence.{off-silent, down-not-off}

-- An interface that counts the attempts until its restart is bus off.

abbrev counts_then : BusConfig → List Entry → ℕ → Event → Reply → ErrorCounts
counts_then c past i e r = all_stepped at_start (steps_after c e r (counts_of c past) i (steps_of c past i))

abbrev OffThen : BusConfig → List Entry → ℕ → Event → Reply → Type 0
OffThen c past i e r = is_some (attempts_off_after e r i (attempts_off past i)) ≡ true → is_off (state_of (counts_then c past i e r)) ≡ true

abbrev OffNow : BusConfig → List Entry → ℕ → Type 0
OffNow c past i = is_some (attempts_off past i) ≡ true → is_off (state_at c past i) ≡ true

-- the reply to an attempt names only interfaces as bus off that went bus off in the attempt
off-is-off : (tr : Transmission) (i : ℕ) → is_in i (set_of (off_after tr)) ≡ true → is_off (state_of (counts_after tr i)) ≡ true
off-is-off tr i named = when (is_off (state_of (counts_after tr tr.winner))) refl among
  where
    among : is_among i (off_after tr) ≡ true
    among = (and_parts (nat_lt i 16) (is_among i (off_after tr)) (sym (is_in-of (off_after tr) i) ∙ named)).1

    when : (b : Bool) → is_off (state_of (counts_after tr tr.winner)) ≡ b → is_among i (if b then tr.winner ∷ [] else []) ≡ true → is_off (state_of (counts_after tr i)) ≡ true
    when false is h = cc
    when true is h = subst (λ k. is_off (state_of (counts_after tr k)) ≡ true) (eqb-true tr.winner i (alone (tr.winner == i) h)) is
      where
        alone : (b : Bool) → (b || false) ≡ true → b ≡ true
        alone true g = refl
        alone false g = cc

still-some : (k : Option ℕ) → is_some (option_map suc k) ≡ true → is_some k ≡ true
still-some None h = cc
still-some (Some k) h = refl

counting-tried : (c : BusConfig) (past : List Entry) (i m : ℕ) (v : Verdict) (t : Tried) → reply.Attempted (attempt.Tried t) ≡ legal_reply c past (Attempt m v) → WasTried c past m v t → OffNow c past i → OffThen c past i (Attempt m v) (reply.Attempted (attempt.Tried t))
counting-tried c past i m v t law w before = when (is_in i t.restarted) (is_in i t.off) refl refl
  where
    who : t.winner ≡ w.place
    who = ap (λ (u : Tried). u.winner) w.is

    off-here : is_in i t.off ≡ true → is_off (state_of (counts_after (transmission c past t.winner v) i)) ≡ true
    off-here named = off-is-off (transmission c past t.winner v) i (subst (λ k. is_in i (set_of (off_after (transmission c past k v))) ≡ true) (sym who) (sym (ap (λ (u : Tried). is_in i u.off) w.is) ∙ named))

    when : (restarted off : Bool) → is_in i t.restarted ≡ restarted → is_in i t.off ≡ off
        → is_some (if restarted then None else if off then Some 0 else option_map suc (attempts_off past i)) ≡ true
        → is_off (state_of (all_stepped at_start (if restarted then [] else steps_of c past i ++ steps_at i (transmission c past t.winner v)))) ≡ true
    when true off r o h = cc
    when false true r o h = ap (λ (x : ErrorCounts). is_off (state_of x)) (all_stepped-append at_start (steps_of c past i) (steps_at i (transmission c past t.winner v))) ∙ off-here o
    when false false r o h =
        let was = before (still-some (attempts_off past i) h) in
        let same = steps-stay c past i (Attempt m v) (reply.Attempted (attempt.Tried t)) law (off-silent (state_at c past i) was) r refl in
        ap (λ b. is_off (state_of (all_stepped at_start (if b then [] else steps_of c past i ++ steps_at i (transmission c past t.winner v))))) (sym r)
        ∙ ap (λ ss. is_off (state_of (all_stepped at_start ss))) same
        ∙ was

-- replies that change neither the error counts nor the attempts until restarts
abbrev is_neutral : Reply → Bool
is_neutral (reply.Attempted (attempt.Idle restarted)) = false
is_neutral (reply.Attempted (attempt.Tried t)) = false
is_neutral reply.Done = false
is_neutral _ = true

neutral-steps : (c : BusConfig) (past : List Entry) (i : ℕ) (e : Event) (r : Reply) → is_neutral r ≡ true → steps_after c e r (counts_of c past) i (steps_of c past i) ≡ steps_of c past i
neutral-steps c past i (Attempt m v) (reply.Attempted (attempt.Idle restarted)) h = cc
neutral-steps c past i (Attempt m v) (reply.Attempted (attempt.Tried t)) h = cc
neutral-steps c past i (Attempt m v) _ h = refl
neutral-steps c past i (Restart k m) reply.Done h = cc
neutral-steps c past i (Restart k m) _ h = refl
neutral-steps c past i (Down k m) reply.Done h = cc
neutral-steps c past i (Down k m) _ h = refl
neutral-steps c past i (Open j n) _ h = refl
neutral-steps c past i (Close s) _ h = refl
neutral-steps c past i (SetFilters s f) _ h = refl
neutral-steps c past i (SetOption s o) _ h = refl
neutral-steps c past i (Send s f) _ h = refl
neutral-steps c past i (Receive s) _ h = refl

neutral : (c : BusConfig) (past : List Entry) (i : ℕ) (e : Event) (r : Reply) → is_neutral r ≡ true → OffNow c past i → is_some (attempts_off past i) ≡ true → is_off (state_of (counts_then c past i e r)) ≡ true
neutral c past i e r h before some = ap (λ ss. is_off (state_of (all_stepped at_start ss))) (neutral-steps c past i e r h) ∙ before some

-- an idle attempt restarts some interfaces, and does not change the other interfaces
idle-steps : (c : BusConfig) (past : List Entry) (i : ℕ) (restarted : Bool) → OffNow c past i → is_some (if restarted then None else option_map suc (attempts_off past i)) ≡ true → is_off (state_of (all_stepped at_start (if restarted then [] else steps_of c past i))) ≡ true
idle-steps c past i true before some = cc
idle-steps c past i false before some = before (still-some (attempts_off past i) some)

counting-step : (c : BusConfig) (past : List Entry) (i : ℕ) (e : Event) (r : Reply) → r ≡ legal_reply c past e → OffNow c past i → OffThen c past i e r
counting-step c past i e (reply.Attempted (attempt.Tried t)) law before =
    by_attempt (λ k. reply.Attempted (attempt.Tried t) ≡ legal_reply c past k → OffThen c past i k (reply.Attempted (attempt.Tried t))) c past e t law (λ m v w l. counting-tried c past i m v t l w before) law
counting-step c past i e (reply.Opened s) law before = neutral c past i e (reply.Opened s) refl before
counting-step c past i e (reply.Closed k) law before = neutral c past i e (reply.Closed k) refl before
counting-step c past i e (reply.Sent n) law before = neutral c past i e (reply.Sent n) refl before
counting-step c past i e (reply.Received x) law before = neutral c past i e (reply.Received x) refl before
counting-step c past i e (reply.Refused why) law before = neutral c past i e (reply.Refused why) refl before
counting-step c past i e (reply.Attempted (attempt.Idle restarted)) law before = elsewhere e
  where
    kept : (b : Bool) → is_some (if b then None else option_map suc (attempts_off past i)) ≡ true → is_some (attempts_off past i) ≡ true
    kept true g = cc
    kept false g = still-some (attempts_off past i) g

    elsewhere : (k : Event) → OffThen c past i k (reply.Attempted (attempt.Idle restarted))
    elsewhere (Attempt m v) h = idle-steps c past i (is_in i restarted) before h
    elsewhere (Open j n) h = before (kept (is_in i restarted) h)
    elsewhere (Close s) h = before (kept (is_in i restarted) h)
    elsewhere (SetFilters s f) h = before (kept (is_in i restarted) h)
    elsewhere (SetOption s o) h = before (kept (is_in i restarted) h)
    elsewhere (Send s f) h = before (kept (is_in i restarted) h)
    elsewhere (Receive s) h = before (kept (is_in i restarted) h)
    elsewhere (Restart k m) h = before (kept (is_in i restarted) h)
    elsewhere (Down k m) h = before (kept (is_in i restarted) h)
counting-step c past i e reply.Done law before = elsewhere e
  where
    when : (b : Bool) → is_some (if b then None else attempts_off past i) ≡ true → is_off (state_of (all_stepped at_start (if b then [] else steps_of c past i))) ≡ true
    when true h = cc
    when false h = before h

    unless-down : (b : Bool) → is_some (if b then None else attempts_off past i) ≡ true → is_off (state_of (all_stepped at_start (if b then steps_of c past i ++ TakenDown ∷ [] else steps_of c past i))) ≡ true
    unless-down true h = cc
    unless-down false h = before h

    elsewhere : (k : Event) → OffThen c past i k reply.Done
    elsewhere (Restart k m) h = when (k == i) h
    elsewhere (Down k m) h = unless-down (k == i) h
    elsewhere (Attempt m v) h = before h
    elsewhere (Open j n) h = before h
    elsewhere (Close s) h = before h
    elsewhere (SetFilters s f) h = before h
    elsewhere (SetOption s o) h = before h
    elsewhere (Send s f) h = before h
    elsewhere (Receive s) h = before h

-- an interface that counts attempts is bus off
pub counting-off : (c : BusConfig) (past : List Entry) → IsLegal c past → (i : ℕ) → is_some (attempts_off past i) ≡ true → is_off (state_at c past i) ≡ true
counting-off c [] legal i some = cc
counting-off c (e ∷ past) legal i some = counting-step c past i e.event e.reply legal.1 (counting-off c past legal.2 i) some

due-counts : (n : ℕ) (k : Option ℕ) → is_nth_after n k ≡ true → is_some k ≡ true
due-counts n None h = cc
due-counts n (Some k) h = refl

-- if the next attempt restarts an interface, the interface's restart is due
pub restarted-due : (c : BusConfig) (past : List Entry) (i : ℕ) → is_in i (restarted_next c past) ≡ true → is_due c past i ≡ true
restarted-due c past i named =
    let among = (and_parts (nat_lt i 16) (is_among i (filter (is_due c past) (range_with_len 0 c.ifaces))) (sym (is_in-of (filter (is_due c past) (range_with_len 0 c.ifaces)) i) ∙ named)).1 in
    (and_parts (is_due c past i) (is_among i (range_with_len 0 c.ifaces)) (sym (is_among-filter (is_due c past) i (range_with_len 0 c.ifaces)) ∙ among)).0

-- an interface that the next attempt restarts is bus off
pub restarted-off : (c : BusConfig) (past : List Entry) → IsLegal c past → (i : ℕ) → is_in i (restarted_next c past) ≡ true → is_off (state_at c past i) ≡ true
restarted-off c past legal i named = counting-off c past legal i (due-counts c.auto_restart (attempts_off past i) (restarted-due c past i named))

-- an interface that is live counts no attempts
pub live-counts-not : (c : BusConfig) (past : List Entry) → IsLegal c past → (i : ℕ) → is_off (state_at c past i) ≡ false → attempts_off past i ≡ None
live-counts-not c past legal i live = when (attempts_off past i) refl
  where
    when : (k : Option ℕ) → attempts_off past i ≡ k → k ≡ None
    when None is = refl
    when (Some k) is =
        let off : is_off (state_at c past i) ≡ true = counting-off c past legal i (ap (λ (o : Option ℕ). is_some o) is) in
        let clash : true ≡ false = sym off ∙ live in
        cc

-- an interface that is live is not restarted
pub live-restarted-not : (c : BusConfig) (past : List Entry) → IsLegal c past → (i : ℕ) → is_off (state_at c past i) ≡ false → is_in i (restarted_next c past) ≡ false
live-restarted-not c past legal i live = when (is_in i (restarted_next c past)) refl
  where
    when : (b : Bool) → is_in i (restarted_next c past) ≡ b → b ≡ false
    when false is = refl
    when true is =
        let clash : true ≡ false = sym (restarted-off c past legal i is) ∙ live in
        cc

-- an interface that is down is not restarted
pub down-restarted-not : (c : BusConfig) (past : List Entry) → IsLegal c past → (i : ℕ) → is_down (state_at c past i) ≡ true → is_in i (restarted_next c past) ≡ false
down-restarted-not c past legal i down = live-restarted-not c past legal i (down-not-off (state_at c past i) down)

-- an idle attempt names the interfaces whose restart is due
pub idle-restarts : (c : BusConfig) (past : List Entry) (m : ℕ) (v : Verdict) (restarted : IfaceSet) → reply.Attempted (attempt.Idle restarted) ≡ legal_reply c past (Attempt m v) → restarted ≡ restarted_next c past
idle-restarts c past m v restarted law = when (winner c past) law
  where
    at_head : (w : ℕ) (p : Option Pending) → reply.Attempted (attempt.Idle restarted) ≡ tried_head c past m v w p → restarted ≡ restarted_next c past
    at_head w None l = cc
    at_head w (Some p) l = cc

    when : (w : Option ℕ) → reply.Attempted (attempt.Idle restarted) ≡ attempt_reply c past m v w → restarted ≡ restarted_next c past
    when None l = cc
    when (Some w) l = at_head w (head_of past w) l

-- a place without an interface counts no attempts
pub beyond-counts-not : (c : BusConfig) (past : List Entry) → IsLegal c past → (i : ℕ) → c.ifaces ≤ i → attempts_off past i ≡ None
beyond-counts-not c past legal i above = live-counts-not c past legal i (ap (λ (x : ErrorCounts). is_off (state_of x)) (counts-beyond c past legal i above))
