use Rattle.std.proofs.Common.{◌≡◌, ◌≢◌, ℕ, ◌==◌, nat_le, Bool, true, false, ◌||◌, List, [], ◌∷◌, if◌then◌else◌, refl, sym, ap, ◌∙◌}
use Rattle.can_confine.specs.Confinement.{ErrorCounts, Step, all_stepped, stepped, state_of, is_down, is_off, is_passive, is_silent}
use Rattle.can_confine.specs.Confinement.Step.{TransmitError, ReceiveError, GoodTransmission, GoodReception, TakenDown}
use Rattle.can_confine.specs.declared.state.State.{State}
use Rattle.can_confine.specs.declared.state.State.TheVariants as state
use Rattle.can_attempt.specs.declared.class.Class.{Class}
use Rattle.can_attempt.specs.declared.class.Class.TheVariants as class
use Rattle.can_attempt.specs.Attempts.{Transmission, is_among, is_struck, receivers, class_of, counts_after, winner_step, receiver_step}
use Rattle.can_attempt.specs.Attempts as attempts
use Rattle.can_attempt.proofs.Standing.{winner-alone-off}

-- ---- an interface is silent if it is bus off or down

pub silent-parts : (s : State) → is_silent s ≡ (is_off s || is_down s)
silent-parts state.Active = refl
silent-parts state.Warning = refl
silent-parts state.Passive = refl
silent-parts state.Off = refl
silent-parts state.Down = refl

pub off-silent : (s : State) → is_off s ≡ true → is_silent s ≡ true
off-silent s off = silent-parts s ∙ ap (λ b. b || is_down s) off

pub not-silent : (s : State) → is_off s ≡ false → is_down s ≡ false → is_silent s ≡ false
not-silent s off down = silent-parts s ∙ ap (λ b. b || is_down s) off ∙ down

pub live-not-off : (s : State) → is_silent s ≡ false → is_off s ≡ false
live-not-off state.Off live = cc
live-not-off state.Active live = refl
live-not-off state.Warning live = refl
live-not-off state.Passive live = refl
live-not-off state.Down live = refl

pub live-not-down : (s : State) → is_silent s ≡ false → is_down s ≡ false
live-not-down state.Down live = cc
live-not-down state.Active live = refl
live-not-down state.Warning live = refl
live-not-down state.Passive live = refl
live-not-down state.Off live = refl

pub down-not-off : (s : State) → is_down s ≡ true → is_off s ≡ false
down-not-off state.Off down = cc
down-not-off state.Active down = refl
down-not-off state.Warning down = refl
down-not-off state.Passive down = refl
down-not-off state.Down down = refl

-- the error counts determine whether an interface is down
down-if : (d a b e : Bool) → is_down (if d then state.Down else if a then state.Off else if b then state.Passive else if e then state.Warning else state.Active) ≡ d
down-if true a b e = refl
down-if false true b e = refl
down-if false false true e = refl
down-if false false false true = refl
down-if false false false false = refl

pub down-is : (x : ErrorCounts) → is_down (state_of x) ≡ x.down
down-is x = down-if x.down (nat_le 256 x.tec) (nat_le 128 x.tec || nat_le 128 x.rec) (nat_le 96 x.tec || nat_le 96 x.rec)

-- ---- the effect of steps on an interface that is down, and on one that is not

down-step : (x : ErrorCounts) (s : Step) → x.down ≡ true → (stepped x s).down ≡ true
down-step x TransmitError down = down
down-step x ReceiveError down = down
down-step x GoodTransmission down = down
down-step x GoodReception down = down
down-step x TakenDown down = refl

-- an interface that is down stays down
pub down-stays : (x : ErrorCounts) (ss : List Step) → x.down ≡ true → (all_stepped x ss).down ≡ true
down-stays x [] down = down
down-stays x (s ∷ ss) down = down-stays (stepped x s) ss (down-step x s down)

none-down : (mine heard struck : Bool) (k : Class) (s : State) (x : ErrorCounts) → (all_stepped x (if mine then winner_step k s else if heard then receiver_step k struck else [])).down ≡ x.down
none-down true heard struck class.Done s x = refl
none-down true heard struck class.LastBit s x = refl
none-down true heard struck class.Destroyed s x = refl
none-down true heard struck class.NoAck s x = when (is_passive s)
  where
    when : (b : Bool) → (all_stepped x (if b then [] else TransmitError ∷ [])).down ≡ x.down
    when true = refl
    when false = refl
none-down false false struck k s x = refl
none-down false true true class.Done s x = refl
none-down false true false class.Done s x = refl
none-down false true struck class.LastBit s x = refl
none-down false true struck class.Destroyed s x = refl
none-down false true true class.NoAck s x = refl
none-down false true false class.NoAck s x = refl

-- no attempt takes an interface down
pub attempt-downs-none : (t : Transmission) (i : ℕ) → (counts_after t i).down ≡ (t.counts i).down
attempt-downs-none t i = none-down (i == t.winner) (is_among i (receivers t)) (is_struck t.verdict i) (class_of t) (attempts.state_at t i) (t.counts i)

-- an attempt makes only its winner silent
pub winner-alone-silent : (t : Transmission) (i : ℕ) → i ≢ t.winner → is_silent (state_of (counts_after t i)) ≡ is_silent (attempts.state_at t i)
winner-alone-silent t i other =
    let downs : is_down (state_of (counts_after t i)) ≡ is_down (attempts.state_at t i) = down-is (counts_after t i) ∙ attempt-downs-none t i ∙ sym (down-is (t.counts i)) in
    silent-parts (state_of (counts_after t i))
    ∙ ap (λ b. b || is_down (state_of (counts_after t i))) (winner-alone-off t i other)
    ∙ ap (λ b. is_off (attempts.state_at t i) || b) downs
    ∙ sym (silent-parts (attempts.state_at t i))

-- an interface that was live before an attempt and is silent after it is bus off
pub silent-is-off : (t : Transmission) (i : ℕ) → is_silent (attempts.state_at t i) ≡ false → is_silent (state_of (counts_after t i)) ≡ true → is_off (state_of (counts_after t i)) ≡ true
silent-is-off t i live silent =
    let up : is_down (state_of (counts_after t i)) ≡ false = down-is (counts_after t i) ∙ attempt-downs-none t i ∙ sym (down-is (t.counts i)) ∙ live-not-down (attempts.state_at t i) live in
    or-left (is_off (state_of (counts_after t i))) (is_down (state_of (counts_after t i))) (sym (silent-parts (state_of (counts_after t i))) ∙ silent) up
  where
    or-left : (a b : Bool) → (a || b) ≡ true → b ≡ false → a ≡ true
    or-left true b h up = refl
    or-left false true h up = cc
    or-left false false h up = cc
