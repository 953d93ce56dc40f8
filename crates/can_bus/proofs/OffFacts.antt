use Rattle.std.proofs.Common.{◌≡◌, ◌≢◌, ◌⊎◌, ℕ, suc, ◌+◌, ◌<◌, ◌≤◌, ◌==◌, nat_le, nat_lt, Bool, true, false, not, ◌||◌, ◌&&◌, List, [], ◌∷◌, ◌++◌, length, find, slice_get, Some, None, is_some, if◌then◌else◌, refl, sym, ap, ◌∙◌, subst, arith, inl, inr, append-nil}
use Rattle.std.specs.List.{list_any, range_with_len}
use Rattle.std.proofs.lemmas.Bool.{eqb-true, eq-eqb, ne_eqb, cases_eq, leb-false, and_parts, or_left, or_right, and_left, and_right}
use Rattle.std.proofs.lemmas.Option.{slice_get_past}
use Rattle.can_frame.specs.Frames.{CanFrame}
use Rattle.can_frame.specs.Sets.{is_in}
use Rattle.can_confine.specs.Confinement.{ErrorCounts, Step, all_stepped, stepped, at_start, state_of, is_down, is_off, is_silent}
use Rattle.can_confine.specs.Confinement.Step.{TakenDown}
use Rattle.can_fault.specs.declared.verdict.Verdict.{Verdict}
use Rattle.can_attempt.specs.Attempts.{Transmission, is_among, set_of, receivers, can_hear, steps_at, counts_after, off_after, is_done}
use Rattle.can_attempt.proofs.Places.{is_among-filter, is_among-range, is_among-receivers}
use Rattle.can_event.specs.declared.entry.Entry.{Entry}
use Rattle.can_event.specs.declared.event.Event.{Event}
use Rattle.can_event.specs.declared.event.Event.TheVariants.{Open, Close, SetFilters, SetOption, Send, Receive, Attempt, Restart, Down}
use Rattle.can_event.specs.declared.reply.Reply.{Reply}
use Rattle.can_event.specs.declared.reply.Reply.TheVariants as reply
use Rattle.can_event.specs.declared.refusal.Refusal.TheVariants as refusal
use Rattle.can_event.specs.declared.bus_config.BusConfig.{BusConfig}
use Rattle.can_event.specs.declared.attempt.Tried.{Tried}
use Rattle.can_event.specs.declared.attempt.Attempt.TheVariants as attempt
use Rattle.can_event.specs.declared.pending.Pending.{Pending}
use Rattle.can_event.specs.declared.socket_id.SocketId.{SocketId}
use Rattle.can_bus.specs.Sockets.{open_sockets, is_open, iface_of, options_of}
use Rattle.can_bus.specs.Transmit.{sent_by, sent_after, gone_count, gone_after, head_of}
use Rattle.can_bus.specs.Counters.{counts_of, steps_of, steps_after, state_at, transmission}
use Rattle.can_bus.specs.Attempts.{winner, contenders, beats}
use Rattle.can_bus.specs.Legal.{lacks_fd, legal_reply, IsLegal}
use Rattle.can_attempt.proofs.Standing.{is_in-set_of}
use Rattle.can_bus.proofs.Lawful.{WasTried, by_attempt, open-iface}
use Rattle.can_bus.proofs.Silence.{not-silent, winner-alone-silent, silent-is-off}

-- ---- the winner is live and exists

pub record Found (p : ℕ → Bool) (xs : List ℕ) (w : ℕ) : Type 0 where
  pub among : is_among w xs ≡ true
  pub passes : p w ≡ true

found-later : (p : ℕ → Bool) (x : ℕ) (xs : List ℕ) (w : ℕ) → Found p xs w → Found p (x ∷ xs) w
found-later p x xs w f = record { among = or_right (x == w) (is_among w xs) f.among; passes = f.passes }

pub find-found : (p : ℕ → Bool) (xs : List ℕ) (w : ℕ) → find p xs ≡ Some w → Found p xs w
find-found p [] w is = cc
find-found p (x ∷ xs) w is = when (p x) refl is (find-found p xs w)
  where
    when : (b : Bool) → p x ≡ b → (if b then Some x else find p xs) ≡ Some w → (find p xs ≡ Some w → Found p xs w) → Found p (x ∷ xs) w
    when true passes at later =
        let same : x ≡ w = cc in
        record { among = or_left (x == w) (is_among w xs) (eq-eqb x w same); passes = ap p (sym same) ∙ passes }
    when false fails at later = found-later p x xs w (later at)

pub record IsContender (c : BusConfig) (past : List Entry) (w : ℕ) : Type 0 where
  pub below : w < c.ifaces
  pub live : is_silent (state_at c past w) ≡ false

not-true : (b : Bool) → not b ≡ true → b ≡ false
not-true true h = cc
not-true false h = refl

lt-of : (w n : ℕ) → (nat_le 0 w && nat_lt w (0 + n)) ≡ true → w < n
lt-of w n h = grind (arith, h)

pub winner-contends : (c : BusConfig) (past : List Entry) (w : ℕ) → winner c past ≡ Some w → IsContender c past w
winner-contends c past w won =
    let f : Found (λ i. not (list_any (λ j. beats past j i) (contenders c past))) (contenders c past) w = find-found _ (contenders c past) w won in
    let is_live : ℕ → Bool = λ i. is_some (head_of past i) && not (is_silent (state_at c past i)) in
    let parts : (is_live w && is_among w (range_with_len 0 c.ifaces)) ≡ true = sym (is_among-filter is_live w (range_with_len 0 c.ifaces)) ∙ f.among in
    let both = and_parts (is_live w) (is_among w (range_with_len 0 c.ifaces)) parts in
    record {
      below = lt-of w c.ifaces (sym (is_among-range w 0 c.ifaces) ∙ both.1);
      live = not-true (is_silent (state_at c past w)) (and_parts (is_some (head_of past w)) (not (is_silent (state_at c past w))) both.0).1;
    }

-- ---- a frame is accepted only on an open socket whose interface is neither bus off nor down

pub record WasSent (c : BusConfig) (past : List Entry) (s : ℕ) : Type 0 where
  pub is_there : is_open past s ≡ true
  pub live : is_silent (state_at c past (iface_of past s)) ≡ false

sent-if : (c : BusConfig) (past : List Entry) (s n : ℕ) (opened lacks off down : Bool) (r : Reply) → is_open past s ≡ opened → is_off (state_at c past (iface_of past s)) ≡ off → is_down (state_at c past (iface_of past s)) ≡ down
    → reply.Sent n ≡ (if opened then (if lacks then reply.Refused refusal.FdOff else if off then reply.Refused refusal.BusOff else if down then reply.Refused refusal.Down else r) else reply.Refused refusal.NoSocket) → WasSent c past s
sent-if c past s n true false false false r is at up law = record { is_there = is; live = not-silent (state_at c past (iface_of past s)) at up }
sent-if c past s n true false false true r is at up law = cc
sent-if c past s n true false true down r is at up law = cc
sent-if c past s n true true off down r is at up law = cc
sent-if c past s n false lacks off down r is at up law = cc

was-sent : (c : BusConfig) (past : List Entry) (s : SocketId) (f : CanFrame) (n : ℕ) → reply.Sent n ≡ legal_reply c past (Send s f) → WasSent c past s.0
was-sent c past s f n law = let i = iface_of past s.0 in sent-if c past s.0 n (is_open past s.0) (lacks_fd f (options_of past s.0)) (is_off (state_at c past i)) (is_down (state_at c past i)) _ refl refl refl law

-- ---- if an interface is bus off or down, all its frames have left the queue

pub all_stepped-append : (c : ErrorCounts) (xs ys : List Step) → all_stepped c (xs ++ ys) ≡ all_stepped (all_stepped c xs) ys
all_stepped-append c [] ys = refl
all_stepped-append c (x ∷ xs) ys = all_stepped-append (stepped c x) xs ys

gone-here : (sent gone : ℕ) (off here : Bool) → off ≡ true → (if off then sent else if here then gone + 1 else gone) ≡ sent
gone-here sent gone true here is = refl
gone-here sent gone false here is = cc

gone-there : (sent gone : ℕ) (off here : Bool) → here ≡ false → gone ≡ sent → (if off then sent else if here then gone + 1 else gone) ≡ sent
gone-there sent gone true here is same = refl
gone-there sent gone false true is same = cc
gone-there sent gone false false is same = same

abbrev pub GoneIfSilent : BusConfig → List Entry → ℕ → Type 0
GoneIfSilent c past i = is_silent (state_at c past i) ≡ true → gone_count past i ≡ length (sent_by past i)

-- a winner that went bus off is in the set of interfaces that went bus off
off-is-in : (t : Transmission) → t.winner < 16 → is_off (state_of (counts_after t t.winner)) ≡ true → is_in t.winner (set_of (off_after t)) ≡ true
off-is-in t below off = is_in-set_of (off_after t) t.winner below ∙ listed (is_off (state_of (counts_after t t.winner))) off
  where
    listed : (b : Bool) → b ≡ true → is_among t.winner (if b then t.winner ∷ [] else []) ≡ true
    listed true h = or_left (t.winner == t.winner) false (eq-eqb t.winner t.winner refl)
    listed false h = cc

off-tried : (c : BusConfig) (past : List Entry) (m : ℕ) (v : Verdict) (t : Tried) (i : ℕ) → c.ifaces ≤ 16 → WasTried c past m v t → GoneIfSilent c past i → is_silent (state_of (counts_after (transmission c past t.winner v) i)) ≡ true → (if is_in i t.off then length (sent_by past i) else if (t.winner == i) && is_done t.class then gone_count past i + 1 else gone_count past i) ≡ length (sent_by past i)
off-tried c past m v t i few w before silent = choose (cases_eq i t.winner)
  where
    who : t.winner ≡ w.place
    who = ap (λ (u : Tried). u.winner) w.is

    below : w.place < 16
    below = let b = (winner-contends c past w.place w.won).below in omega (arith, b, few)

    here : i ≡ t.winner → is_in i t.off ≡ true
    here same =
        let silent' : is_silent (state_of (counts_after (transmission c past w.place v) w.place)) ≡ true = subst (λ k. is_silent (state_of (counts_after (transmission c past k v) k)) ≡ true) who (subst (λ k. is_silent (state_of (counts_after (transmission c past t.winner v) k)) ≡ true) same silent) in
        let off = silent-is-off (transmission c past w.place v) w.place (winner-contends c past w.place w.won).live silent' in
        let in_it : is_in w.place t.off ≡ true = ap (λ (u : Tried). is_in w.place u.off) w.is ∙ off-is-in (transmission c past w.place v) below off in
        subst (λ k. is_in k t.off ≡ true) (sym (same ∙ who)) in_it

    choose : (i ≡ t.winner) ⊎ (i ≢ t.winner) → (if is_in i t.off then length (sent_by past i) else if (t.winner == i) && is_done t.class then gone_count past i + 1 else gone_count past i) ≡ length (sent_by past i)
    choose (inl same) = gone-here (length (sent_by past i)) (gone_count past i) (is_in i t.off) ((t.winner == i) && is_done t.class) (here same)
    choose (inr other) =
        let was : is_silent (state_at c past i) ≡ true = sym (winner-alone-silent (transmission c past t.winner v) i other) ∙ silent in
        gone-there (length (sent_by past i)) (gone_count past i) (is_in i t.off) ((t.winner == i) && is_done t.class) (and_left (t.winner == i) (is_done t.class) (ne_eqb t.winner i (λ e. other (sym e)))) (before was)

abbrev silent_with : BusConfig → List Entry → ℕ → Event → Reply → Bool
silent_with c past i e r = is_silent (state_of (all_stepped at_start (steps_after c e r (counts_of c past) i (steps_of c past i))))

abbrev AllGone : List Entry → ℕ → Event → Reply → Type 0
AllGone past i e r = gone_after e r i (length (sent_by past i)) (gone_count past i) ≡ length (sent_after past i e r (sent_by past i))

off-step : (c : BusConfig) (past : List Entry) (i : ℕ) (e : Event) (r : Reply) → c.ifaces ≤ 16 → r ≡ legal_reply c past e → GoneIfSilent c past i → silent_with c past i e r ≡ true → AllGone past i e r
off-step c past i e (reply.Attempted (attempt.Tried t)) few law before silent =
    by_attempt (λ k. silent_with c past i k (reply.Attempted (attempt.Tried t)) ≡ true → AllGone past i k (reply.Attempted (attempt.Tried t))) c past e t law (λ m v w h. when m v w (is_in i t.restarted) h) silent
  where
    when : (m : ℕ) (v : Verdict) → WasTried c past m v t → (b : Bool) → is_silent (state_of (all_stepped at_start (if b then [] else steps_of c past i ++ steps_at i (transmission c past t.winner v)))) ≡ true → AllGone past i (Attempt m v) (reply.Attempted (attempt.Tried t))
    when m v w true h = cc
    when m v w false h = off-tried c past m v t i few w before (ap (λ (x : ErrorCounts). is_silent (state_of x)) (sym (all_stepped-append at_start (steps_of c past i) (steps_at i (transmission c past t.winner v)))) ∙ h)
off-step c past i (Attempt m v) (reply.Attempted (attempt.Idle restarted)) few law before silent = when (is_in i restarted) silent
  where
    when : (b : Bool) → is_silent (state_of (all_stepped at_start (if b then [] else steps_of c past i))) ≡ true → gone_count past i ≡ length (sent_by past i)
    when true h = cc
    when false h = before h
off-step c past i (Restart k m) reply.Done few law before silent = when (k == i) silent
  where
    when : (b : Bool) → is_silent (state_of (all_stepped at_start (if b then [] else steps_of c past i))) ≡ true → gone_count past i ≡ length (sent_by past i)
    when true h = cc
    when false h = before h
off-step c past i (Down k m) reply.Done few law before silent = when (k == i) silent
  where
    when : (b : Bool) → is_silent (state_of (all_stepped at_start (if b then steps_of c past i ++ TakenDown ∷ [] else steps_of c past i))) ≡ true → (if b then length (sent_by past i) else gone_count past i) ≡ length (sent_by past i)
    when true h = refl
    when false h = before h
off-step c past i (Send s f) (reply.Sent n) few law before silent = when (iface_of past s.0 == i) refl _
  where
    live : is_silent (state_at c past (iface_of past s.0)) ≡ false
    live = (was-sent c past s f n law).live

    when : (b : Bool) → (iface_of past s.0 == i) ≡ b → (p : Pending) → gone_count past i ≡ length (if b then sent_by past i ++ p ∷ [] else sent_by past i)
    when true here p =
        let same : is_silent (state_at c past i) ≡ false = subst (λ k. is_silent (state_at c past k) ≡ false) (eqb-true (iface_of past s.0) i here) live in
        let clash : true ≡ false = sym silent ∙ same in
        cc
    when false there p = before silent
off-step c past i (Open j n) _ few law before silent = before silent
off-step c past i (Close s) _ few law before silent = before silent
off-step c past i (SetFilters s f) _ few law before silent = before silent
off-step c past i (SetOption s o) _ few law before silent = before silent
off-step c past i (Send s f) _ few law before silent = before silent
off-step c past i (Receive s) _ few law before silent = before silent
off-step c past i (Attempt m v) _ few law before silent = before silent
off-step c past i (Restart k m) _ few law before silent = before silent
off-step c past i (Down k m) _ few law before silent = before silent

pub off-all-gone : (c : BusConfig) (past : List Entry) → IsLegal c past → c.ifaces ≤ 16 → (i : ℕ) → is_silent (state_at c past i) ≡ true → gone_count past i ≡ length (sent_by past i)
off-all-gone c [] legal few i off = refl
off-all-gone c (e ∷ past) legal few i off = off-step c past i e.event e.reply few legal.1 (off-all-gone c past legal.2 few i) off

-- an interface that is bus off or down has no waiting frame
pub off-no-head : (c : BusConfig) (past : List Entry) → IsLegal c past → c.ifaces ≤ 16 → (i : ℕ) → is_silent (state_at c past i) ≡ true → head_of past i ≡ None
off-no-head c past legal few i off = slice_get_past (sent_by past i) (gone_count past i) (let all = off-all-gone c past legal few i off in omega (arith, all))

-- ---- frames are sent only on interfaces that exist

pub open-place : (s : ℕ) (xs : List ℕ) → list_any (λ k. k == s) xs ≡ true → (k : ℕ) × (slice_get xs k ≡ Some s)
open-place s [] h = cc
open-place s (x ∷ xs) h = when (x == s) refl h (open-place s xs)
  where
    when : (b : Bool) → (x == s) ≡ b → (b || list_any (λ k. k == s) xs) ≡ true → (list_any (λ k. k == s) xs ≡ true → (k : ℕ) × (slice_get xs k ≡ Some s)) → (k : ℕ) × (slice_get (x ∷ xs) k ≡ Some s)
    when true is at later = (0, ap (λ (n : ℕ). Some n) (eqb-true x s is))
    when false is at later = (suc (later at).0, (later at).1)

-- the interface of an open socket exists
pub is_open-iface : (c : BusConfig) (past : List Entry) → IsLegal c past → (s : ℕ) → is_open past s ≡ true → iface_of past s < c.ifaces
is_open-iface c past legal s is = let at = open-place s (open_sockets past) is in open-iface c past legal at.0 s at.1

sent-step : (c : BusConfig) (past : List Entry) (i : ℕ) (e : Event) (r : Reply) → IsLegal c past → r ≡ legal_reply c past e → c.ifaces ≤ i → sent_by past i ≡ [] → sent_after past i e r (sent_by past i) ≡ []
sent-step c past i (Send s f) (reply.Sent n) legal law above none = when (iface_of past s.0 == i) refl _
  where
    below : iface_of past s.0 < c.ifaces
    below = is_open-iface c past legal s.0 (was-sent c past s f n law).is_there

    when : (b : Bool) → (iface_of past s.0 == i) ≡ b → (p : Pending) → (if b then sent_by past i ++ p ∷ [] else sent_by past i) ≡ []
    when true here p = let same = eqb-true (iface_of past s.0) i here in absurd (omega (arith, same, below, above))
    when false there p = none
sent-step c past i _ _ legal law above none = none

pub sent-beyond : (c : BusConfig) (past : List Entry) → IsLegal c past → (i : ℕ) → c.ifaces ≤ i → sent_by past i ≡ []
sent-beyond c [] legal i above = refl
sent-beyond c (e ∷ past) legal i above = sent-step c past i e.event e.reply legal.2 legal.1 above (sent-beyond c past legal.2 i above)

-- a waiting frame belongs to an interface that exists
pub head-below : (c : BusConfig) (past : List Entry) → IsLegal c past → (i : ℕ) → (p : Pending) → head_of past i ≡ Some p → i < c.ifaces
head-below c past legal i p head = when (nat_le c.ifaces i) refl
  where
    when : (b : Bool) → nat_le c.ifaces i ≡ b → i < c.ifaces
    when true above =
        let none : sent_by past i ≡ [] = sent-beyond c past legal i (grind (arith, above)) in
        let gone : slice_get (sent_by past i) (gone_count past i) ≡ None = ap (λ (ps : List Pending). slice_get ps (gone_count past i)) none in
        cc
    when false below = leb-false c.ifaces i below

-- ---- no step reaches an interface that does not exist

steps-nowhere : (t : Transmission) (i : ℕ) → (i == t.winner) ≡ false → t.count ≤ i → steps_at i t ≡ []
steps-nowhere t i other above =
    let deaf : nat_lt i t.count ≡ false = grind (arith, above) in
    let among : is_among i (receivers t) ≡ false = is_among-receivers t i ∙ and_right (can_hear t i) (nat_lt i t.count) deaf in
    rw (other, among) refl

none-if : (b : Bool) (ss : List Step) → ss ≡ [] → (if b then [] else ss) ≡ []
none-if true ss none = refl
none-if false ss none = none

steps-step : (c : BusConfig) (past : List Entry) (i : ℕ) (e : Event) (r : Reply) → r ≡ legal_reply c past e → c.ifaces ≤ i → steps_of c past i ≡ [] → steps_after c e r (counts_of c past) i (steps_of c past i) ≡ []
steps-step c past i e (reply.Attempted (attempt.Tried t)) law above none =
    by_attempt (λ k. steps_after c k (reply.Attempted (attempt.Tried t)) (counts_of c past) i (steps_of c past i) ≡ []) c past e t law
    (λ m v w.
    let who : t.winner ≡ w.place = ap (λ (u : Tried). u.winner) w.is in
    let below = (winner-contends c past w.place w.won).below in
    let other : (i == t.winner) ≡ false = ne_eqb i t.winner (λ same. absurd (omega (arith, same, who, below, above))) in
    none-if (is_in i t.restarted) _ (ap (λ ss. steps_of c past i ++ ss) (steps-nowhere (transmission c past t.winner v) i other above) ∙ append-nil (steps_of c past i) ∙ none))
steps-step c past i (Attempt m v) (reply.Attempted (attempt.Idle restarted)) law above none = none-if (is_in i restarted) (steps_of c past i) none
steps-step c past i (Restart k m) reply.Done law above none = when (k == i)
  where
    when : (b : Bool) → (if b then [] else steps_of c past i) ≡ []
    when true = refl
    when false = none
steps-step c past i (Down k m) reply.Done law above none = when (k == i) refl
  where
    there : (b : Bool) → reply.Done ≡ (if b then reply.Refused refusal.NoInterface else reply.Done) → b ≡ false
    there true answer = cc
    there false answer = refl

    below : k < c.ifaces
    below = leb-false c.ifaces k (there (nat_le c.ifaces k) law)

    when : (b : Bool) → (k == i) ≡ b → (if b then steps_of c past i ++ TakenDown ∷ [] else steps_of c past i) ≡ []
    when true is = let same = eqb-true k i is in absurd (omega (arith, same, below, above))
    when false is = none
steps-step c past i (Open j n) _ law above none = none
steps-step c past i (Close s) _ law above none = none
steps-step c past i (SetFilters s f) _ law above none = none
steps-step c past i (SetOption s o) _ law above none = none
steps-step c past i (Send s f) _ law above none = none
steps-step c past i (Receive s) _ law above none = none
steps-step c past i (Attempt m v) _ law above none = none
steps-step c past i (Restart k m) _ law above none = none
steps-step c past i (Down k m) _ law above none = none

steps-beyond : (c : BusConfig) (past : List Entry) → IsLegal c past → (i : ℕ) → c.ifaces ≤ i → steps_of c past i ≡ []
steps-beyond c [] legal i above = refl
steps-beyond c (e ∷ past) legal i above = steps-step c past i e.event e.reply legal.1 above (steps-beyond c past legal.2 i above)

pub counts-beyond : (c : BusConfig) (past : List Entry) → IsLegal c past → (i : ℕ) → c.ifaces ≤ i → counts_of c past i ≡ at_start
counts-beyond c past legal i above = ap (all_stepped at_start) (steps-beyond c past legal i above)
