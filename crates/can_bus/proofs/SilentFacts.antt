use Rattle.std.proofs.Common.{◌≡◌, ◌≢◌, ℕ, ◌==◌, nat_lt, Bool, true, false, not, ◌&&◌, List, [], ◌∷◌, ◌++◌, if◌then◌else◌, refl, sym, ap, ◌∙◌, append-nil}
use Rattle.std.proofs.lemmas.Bool.{ne_eqb, and_left, and_right}
use Rattle.can_frame.specs.Frames.{CanFrame}
use Rattle.can_frame.specs.Sets.{is_in}
use Rattle.can_confine.specs.Confinement.{ErrorCounts, Step, all_stepped, at_start, state_of, stepped, is_down, is_off, is_silent}
use Rattle.can_confine.specs.Confinement.Step.{TakenDown}
use Rattle.can_fault.specs.declared.verdict.Verdict.{Verdict}
use Rattle.can_attempt.specs.declared.class.Class.{Class}
use Rattle.can_attempt.specs.declared.class.Class.TheVariants as class
use Rattle.can_attempt.specs.Attempts.{Transmission, is_among, set_of, can_hear, is_struck, receivers, unhurt, accepted_in, class_of, steps_at}
use Rattle.can_attempt.specs.Attempts as attempts
use Rattle.can_attempt.proofs.Places.{is_among-unhurt, is_among-receivers}
use Rattle.can_event.specs.declared.entry.Entry.{Entry}
use Rattle.can_event.specs.declared.event.Event.{Event}
use Rattle.can_event.specs.declared.event.Event.TheVariants.{Open, Close, SetFilters, SetOption, Send, Receive, Attempt, Restart, Down}
use Rattle.can_event.specs.declared.reply.Reply.{Reply}
use Rattle.can_event.specs.declared.reply.Reply.TheVariants as reply
use Rattle.can_event.specs.declared.refusal.Refusal.TheVariants as refusal
use Rattle.can_event.specs.declared.bus_config.BusConfig.{BusConfig}
use Rattle.can_event.specs.declared.socket_id.SocketId.{SocketId}
use Rattle.can_event.specs.declared.attempt.Tried.{Tried}
use Rattle.can_event.specs.declared.attempt.Attempt.TheVariants as attempt
use Rattle.can_bus.specs.Sockets.{is_open, iface_of, options_of}
use Rattle.can_bus.specs.Counters.{counts_of, steps_of, steps_after, state_at, transmission}
use Rattle.can_bus.specs.Legal.{lacks_fd, legal_reply, IsLegal}
use Rattle.can_bus.specs.Fates.{is_restart_of, is_taken_down}
use Rattle.can_bus.proofs.Lawful.{WasTried, was_tried}
use Rattle.can_attempt.proofs.Standing.{is_in-of}
use Rattle.can_bus.proofs.Lawful.{by_attempt}
use Rattle.can_bus.proofs.OffFacts.{all_stepped-append, winner-contends}
use Rattle.can_bus.proofs.Silence.{down-is, down-not-off, down-stays}

-- ---- an interface that is bus off or down receives nothing

cannot_hear : (t : Transmission) (i : ℕ) → is_silent (attempts.state_at t i) ≡ true → can_hear t i ≡ false
cannot_hear t i silent = deaf (not (i == t.winner)) (is_silent (attempts.state_at t i)) silent
  where
    deaf : (a b : Bool) → b ≡ true → (a && not b) ≡ false
    deaf true true h = refl
    deaf false true h = refl
    deaf a false h = cc

no_receiver : (t : Transmission) (i : ℕ) → is_silent (attempts.state_at t i) ≡ true → is_among i (receivers t) ≡ false
no_receiver t i silent = is_among-receivers t i ∙ and_left (can_hear t i) (nat_lt i t.count) (cannot_hear t i silent)

not_unhurt : (t : Transmission) (i : ℕ) → is_silent (attempts.state_at t i) ≡ true → is_among i (unhurt t) ≡ false
not_unhurt t i silent = is_among-unhurt t i ∙ and_right (not (is_struck t.verdict i)) (can_hear t i && nat_lt i t.count) (and_left (can_hear t i) (nat_lt i t.count) (cannot_hear t i silent))

silent-not-accepted : (k : Class) (t : Transmission) (i : ℕ) → is_silent (attempts.state_at t i) ≡ true → is_in i (set_of (accepted_in k t)) ≡ false
silent-not-accepted class.Done t i silent = is_in-of (unhurt t) i ∙ and_right (nat_lt i 16) (is_among i (unhurt t)) (not_unhurt t i silent)
silent-not-accepted class.LastBit t i silent = is_in-of (unhurt t) i ∙ and_right (nat_lt i 16) (is_among i (unhurt t)) (not_unhurt t i silent)
silent-not-accepted class.Destroyed t i silent = is_in-of [] i ∙ and_right (nat_lt i 16) false refl
silent-not-accepted class.NoAck t i silent = is_in-of [] i ∙ and_right (nat_lt i 16) false refl

silent-at : (c : BusConfig) (past : List Entry) (m : ℕ) (v : Verdict) (t : Tried) (i : ℕ) → WasTried c past m v t → is_silent (state_at c past i) ≡ true → t.winner ≢ i
silent-at c past m v t i w silent same =
    let live = (winner-contends c past w.place w.won).live in
    let is : w.place ≡ i = sym (ap (λ (u : Tried). u.winner) w.is) ∙ same in
    let clash : true ≡ false = sym silent ∙ ap (λ k. is_silent (state_at c past k)) (sym is) ∙ live in
    cc

pub silent-not-winner : (c : BusConfig) (past : List Entry) (m : ℕ) (v : Verdict) (t : Tried) (i : ℕ) → reply.Attempted (attempt.Tried t) ≡ legal_reply c past (Attempt m v) → is_silent (state_at c past i) ≡ true → t.winner ≢ i
silent-not-winner c past m v t i law silent = silent-at c past m v t i (was_tried c past m v t law) silent

pub silent-accepts-nothing : (c : BusConfig) (past : List Entry) (m : ℕ) (v : Verdict) (t : Tried) (i : ℕ) → reply.Attempted (attempt.Tried t) ≡ legal_reply c past (Attempt m v) → is_silent (state_at c past i) ≡ true → is_in i t.accepted ≡ false
silent-accepts-nothing c past m v t i law silent =
    let w : WasTried c past m v t = was_tried c past m v t law in
    let tr = transmission c past w.place v in
    ap (λ (u : Tried). is_in i u.accepted) w.is ∙ silent-not-accepted (class_of tr) tr i silent

-- ---- its error counts stay the same until it is restarted

steps-none : (t : Transmission) (i : ℕ) → (i == t.winner) ≡ false → is_among i (receivers t) ≡ false → steps_at i t ≡ []
steps-none t i other among = rw (other, among) refl

pub steps-stay : (c : BusConfig) (past : List Entry) (i : ℕ) (e : Event) (r : Reply) → r ≡ legal_reply c past e → is_silent (state_at c past i) ≡ true → is_restart_of i e r ≡ false → is_taken_down i e r ≡ false → steps_after c e r (counts_of c past) i (steps_of c past i) ≡ steps_of c past i
steps-stay c past i e (reply.Attempted (attempt.Tried t)) law silent other up =
    by_attempt (λ k. steps_after c k (reply.Attempted (attempt.Tried t)) (counts_of c past) i (steps_of c past i) ≡ steps_of c past i) c past e t law
    (λ m v w.
    let apart : (i == t.winner) ≡ false = ne_eqb i t.winner (λ same. silent-at c past m v t i w silent (sym same)) in
    ap (λ b. if b then [] else steps_of c past i ++ steps_at i (transmission c past t.winner v)) other
    ∙ ap (λ ss. steps_of c past i ++ ss) (steps-none (transmission c past t.winner v) i apart (no_receiver (transmission c past t.winner v) i silent))
    ∙ append-nil (steps_of c past i))
steps-stay c past i (Attempt m v) (reply.Attempted (attempt.Idle restarted)) law silent other up = ap (λ b. if b then [] else steps_of c past i) other
steps-stay c past i (Restart k m) reply.Done law silent other up = ap (λ b. if b then [] else steps_of c past i) other
steps-stay c past i (Down k m) reply.Done law silent other up = ap (λ b. if b then steps_of c past i ++ TakenDown ∷ [] else steps_of c past i) up
steps-stay c past i (Open j n) _ law silent other up = refl
steps-stay c past i (Close s) _ law silent other up = refl
steps-stay c past i (SetFilters s f) _ law silent other up = refl
steps-stay c past i (SetOption s o) _ law silent other up = refl
steps-stay c past i (Send s f) _ law silent other up = refl
steps-stay c past i (Receive s) _ law silent other up = refl
steps-stay c past i (Attempt m v) _ law silent other up = refl
steps-stay c past i (Restart k m) _ law silent other up = refl
steps-stay c past i (Down k m) _ law silent other up = refl

pub silent-counts-stay : (c : BusConfig) (past : List Entry) (e : Entry) (i : ℕ) → IsLegal c (e ∷ past) → is_silent (state_at c past i) ≡ true → is_restart_of i e.event e.reply ≡ false → is_taken_down i e.event e.reply ≡ false → counts_of c (e ∷ past) i ≡ counts_of c past i
silent-counts-stay c past e i legal silent other up = ap (all_stepped at_start) (steps-stay c past i e.event e.reply legal.1 silent other up)

-- ---- a frame sent on a silent interface is refused

pub off-send-refused : (c : BusConfig) (past : List Entry) (s : SocketId) (f : CanFrame) → is_open past s.0 ≡ true → lacks_fd f (options_of past s.0) ≡ false → is_off (state_at c past (iface_of past s.0)) ≡ true → legal_reply c past (Send s f) ≡ reply.Refused refusal.BusOff
off-send-refused c past s f there may off = rw (there, may, off) refl

pub down-send-refused : (c : BusConfig) (past : List Entry) (s : SocketId) (f : CanFrame) → is_open past s.0 ≡ true → lacks_fd f (options_of past s.0) ≡ false → is_down (state_at c past (iface_of past s.0)) ≡ true → legal_reply c past (Send s f) ≡ reply.Refused refusal.Down
down-send-refused c past s f there may down = let on : is_off (state_at c past (iface_of past s.0)) ≡ false = down-not-off (state_at c past (iface_of past s.0)) down in rw (there, may, on, down) refl

-- an FD frame is first refused because FD frames are not enabled
pub fd-send-refused : (c : BusConfig) (past : List Entry) (s : SocketId) (f : CanFrame) → is_open past s.0 ≡ true → lacks_fd f (options_of past s.0) ≡ true → legal_reply c past (Send s f) ≡ reply.Refused refusal.FdOff
fd-send-refused c past s f there lacks = rw (there, lacks) refl

-- ---- an interface that is down stays down until it is restarted

append-steps : (c : BusConfig) (past : List Entry) (i : ℕ) (ss : List Step) → is_down (state_at c past i) ≡ true → is_down (state_of (all_stepped at_start (steps_of c past i ++ ss))) ≡ true
append-steps c past i ss down =
    let was : (counts_of c past i).down ≡ true = sym (down-is (counts_of c past i)) ∙ down in
    ap (λ (x : ErrorCounts). is_down (state_of x)) (all_stepped-append at_start (steps_of c past i) ss) ∙ down-is (all_stepped (counts_of c past i) ss) ∙ down-stays (counts_of c past i) ss was

abbrev DownThen : BusConfig → List Entry → ℕ → Event → Reply → Type 0
DownThen c past i e r = is_down (state_of (all_stepped at_start (steps_after c e r (counts_of c past) i (steps_of c past i)))) ≡ true

-- the interface was not restarted
unless-restarted : (c : BusConfig) (past : List Entry) (i : ℕ) (restarted : Bool) (ss : List Step) → restarted ≡ false → is_down (state_of (all_stepped at_start ss)) ≡ true → is_down (state_of (all_stepped at_start (if restarted then [] else ss))) ≡ true
unless-restarted c past i true ss other down = cc
unless-restarted c past i false ss other down = down

down-step-of : (c : BusConfig) (past : List Entry) (i : ℕ) (e : Event) (r : Reply) → is_down (state_at c past i) ≡ true → is_restart_of i e r ≡ false → DownThen c past i e r
down-step-of c past i (Attempt m v) (reply.Attempted (attempt.Tried t)) down other = unless-restarted c past i (is_in i t.restarted) _ other (append-steps c past i (steps_at i (transmission c past t.winner v)) down)
down-step-of c past i (Attempt m v) (reply.Attempted (attempt.Idle restarted)) down other = unless-restarted c past i (is_in i restarted) (steps_of c past i) other down
down-step-of c past i (Restart k m) reply.Done down other = unless-restarted c past i (k == i) (steps_of c past i) other down
down-step-of c past i (Down k m) reply.Done down other = when (k == i)
  where
    when : (b : Bool) → is_down (state_of (all_stepped at_start (if b then steps_of c past i ++ TakenDown ∷ [] else steps_of c past i))) ≡ true
    when true = append-steps c past i (TakenDown ∷ []) down
    when false = down
down-step-of c past i (Open j n) _ down other = down
down-step-of c past i (Close s) _ down other = down
down-step-of c past i (SetFilters s f) _ down other = down
down-step-of c past i (SetOption s o) _ down other = down
down-step-of c past i (Send s f) _ down other = down
down-step-of c past i (Receive s) _ down other = down
down-step-of c past i (Attempt m v) _ down other = down
down-step-of c past i (Restart k m) _ down other = down
down-step-of c past i (Down k m) _ down other = down

pub down-until-restart : (c : BusConfig) (past : List Entry) (e : Entry) (i : ℕ) → is_down (state_at c past i) ≡ true → is_restart_of i e.event e.reply ≡ false → is_down (state_at c (e ∷ past) i) ≡ true
down-until-restart c past e i down other = down-step-of c past i e.event e.reply down other

-- an interface that is taken down keeps its error counts
down-steps : (c : BusConfig) (past : List Entry) (i : ℕ) (e : Event) (r : Reply) → is_taken_down i e r ≡ true → steps_after c e r (counts_of c past) i (steps_of c past i) ≡ steps_of c past i ++ TakenDown ∷ []
down-steps c past i (Down k m) reply.Done down = ap (λ b. if b then steps_of c past i ++ TakenDown ∷ [] else steps_of c past i) down
down-steps c past i _ _ down = cc

pub down-counts : (c : BusConfig) (past : List Entry) (e : Entry) (i : ℕ) → is_taken_down i e.event e.reply ≡ true → counts_of c (e ∷ past) i ≡ stepped (counts_of c past i) TakenDown
down-counts c past e i down = ap (all_stepped at_start) (down-steps c past i e.event e.reply down) ∙ all_stepped-append at_start (steps_of c past i) (TakenDown ∷ [])
