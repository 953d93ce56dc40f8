use Rattle.std.specs.Prelude.{◌≡◌, ◌<◌, ◌≤◌, ℕ, ◌==◌, Bool, true, false, not, ◌&&◌, ◌||◌, List, [], ◌∷◌}
use Rattle.std.specs.Prelude.{length, filter, map, slice_index_or, nat_lt, All, IsTrue, if◌then◌else◌}
use Rattle.std.specs.List.{list_any, range_with_len}
use Rattle.can_frame.specs.Sets.{is_in, set_where}
use Rattle.can_frame.specs.declared.iface.IfaceSet.{IfaceSet}
use Rattle.can_confine.specs.Confinement.{ErrorCounts, Step, all_stepped, at_start, state_of}
use Rattle.can_confine.specs.Confinement.{is_off, is_passive, is_silent}
use Rattle.can_confine.specs.Confinement.Step.{TransmitError, ReceiveError, GoodTransmission, GoodReception}
use Rattle.can_confine.specs.declared.state.State.{State}
use Rattle.can_fault.specs.declared.verdict.Verdict.{Verdict}
use Rattle.can_fault.specs.declared.verdict.Verdict.TheVariants as verdict
use Rattle.can_attempt.specs.declared.class.Class.{Class}
use Rattle.can_attempt.specs.declared.class.Class.TheVariants as class
use Rattle.can_attempt.specs.declared.ack_mode.AckMode.{AckMode}
use Rattle.can_attempt.specs.declared.ack_mode.AckMode.TheVariants.{Always, Peers}
use Rattle.can_attempt.specs.declared.nodes.Nodes.{Nodes}
use Rattle.can_attempt.specs.declared.judgement.Judgement.{Judgement}

-- One attempt to send a frame: its receivers, its outcome, and its effect on each interface's error counts. This is own
-- choice throughout, based on the fault confinement and the message validation of the Bosch CAN Specification 2.0.

-- interface i is in this list
abbrev pub is_among : ℕ → List ℕ → Bool
is_among i is = list_any (λ j. j == i) is

-- the set of these interfaces: bit i is set exactly if i is in the list
abbrev pub set_of : List ℕ → IfaceSet
set_of is = set_where (λ i. is_among i is) 16

-- an attempt: the number of interfaces, their error counts, the interface that sends, the faults, and the
-- acknowledgement mode
pub record Transmission : Type 0 where
  pub count : ℕ
  pub counts : ℕ → ErrorCounts
  pub winner : ℕ
  pub verdict : Verdict
  pub ack : AckMode

-- the fault confinement state of interface i
abbrev pub state_at : Transmission → ℕ → State
state_at t i = state_of (t.counts i)

-- an interface other than the winner that is neither bus off nor down
abbrev pub can_hear : Transmission → ℕ → Bool
can_hear t i = not (i == t.winner) && not (is_silent (state_at t i))

-- the receivers: all live interfaces except the winner
abbrev pub receivers : Transmission → List ℕ
receivers t = filter (can_hear t) (range_with_len 0 t.count)

-- a fault for the whole bus
abbrev pub is_global : Verdict → Bool
is_global (verdict.Global kind) = true
is_global _ = false

-- a fault that only the transmitter sees, in the last bit of end of frame
abbrev pub is_last_bit : Verdict → Bool
is_last_bit verdict.LastBit = true
is_last_bit _ = false

-- a local fault strikes this interface
abbrev pub is_struck : Verdict → ℕ → Bool
is_struck (verdict.Local set kind) i = is_in i set
is_struck _ i = false

-- the receivers that a local fault strikes
abbrev pub hit : Transmission → List ℕ
hit t = filter (is_struck t.verdict) (receivers t)

-- the receivers that no local fault strikes
abbrev pub unhurt : Transmission → List ℕ
unhurt t = filter (λ i. not (is_struck t.verdict i)) (receivers t)

-- at least one receiver that is hit is not error passive
abbrev pub is_hit_active : Transmission → Bool
is_hit_active t = list_any (λ i. not (is_passive (state_at t i))) (hit t)

-- all interfaces see an active error flag, because the fault is global or strikes a receiver that is not error passive
abbrev pub is_destroyed : Transmission → Bool
is_destroyed t = is_global t.verdict || is_hit_active t

-- every frame that is not destroyed is acknowledged, even without receivers
abbrev pub is_always : AckMode → Bool
is_always Always = true
is_always Peers = false

-- at least one receiver is not hit
abbrev pub is_heard : Transmission → Bool
is_heard t = not (length (unhurt t) == 0)

-- the ACK slot is dominant: always, or if at least one receiver is not hit
abbrev pub is_acknowledged : Transmission → Bool
is_acknowledged t = is_always t.ack || is_heard t

-- the first outcome that applies
abbrev pub class_when : Bool → Bool → Bool → Class
class_when destroyed acknowledged last_bit =
    if destroyed then class.Destroyed
    else if not acknowledged then class.NoAck
    else if last_bit then class.LastBit
    else class.Done

-- the outcome of the attempt
abbrev pub class_of : Transmission → Class
class_of t = class_when (is_destroyed t) (is_acknowledged t) (is_last_bit t.verdict)

-- the whole frame was sent
abbrev pub is_done : Class → Bool
is_done class.Done = true
is_done _ = false

-- the receivers that accept the frame in an attempt with this outcome
abbrev pub accepted_in : Class → Transmission → List ℕ
accepted_in class.Done t = unhurt t
accepted_in class.LastBit t = unhurt t
accepted_in class.Destroyed t = []
accepted_in class.NoAck t = []

-- the step of a winner in this state; an error passive winner does not count a missing acknowledgement
abbrev pub winner_step : Class → State → List Step
winner_step class.Done state = GoodTransmission ∷ []
winner_step class.LastBit state = TransmitError ∷ []
winner_step class.Destroyed state = TransmitError ∷ []
winner_step class.NoAck state = if is_passive state then [] else TransmitError ∷ []

-- the step of a receiver, which was hit or not
abbrev pub receiver_step : Class → Bool → List Step
receiver_step class.Done is_hit = if is_hit then ReceiveError ∷ [] else GoodReception ∷ []
receiver_step class.LastBit is_hit = GoodReception ∷ []
receiver_step class.Destroyed is_hit = ReceiveError ∷ []
receiver_step class.NoAck is_hit = if is_hit then ReceiveError ∷ [] else []

-- the steps of interface i in an attempt with this outcome
abbrev pub steps_in : Class → Transmission → ℕ → List Step
steps_in c t i =
    if i == t.winner then winner_step c (state_at t i)
    else if is_among i (receivers t) then receiver_step c (is_struck t.verdict i)
    else []

-- the error counts of interface i after an attempt with this outcome
abbrev pub counts_in : Class → Transmission → ℕ → ErrorCounts
counts_in c t i = all_stepped (t.counts i) (steps_in c t i)

-- the steps of interface i in the attempt
abbrev pub steps_at : ℕ → Transmission → List Step
steps_at i t = steps_in (class_of t) t i

-- the error counts of interface i after the attempt
abbrev pub counts_after : Transmission → ℕ → ErrorCounts
counts_after t i = all_stepped (t.counts i) (steps_at i t)

-- the winner, if the attempt takes it off the bus
abbrev pub off_after : Transmission → List ℕ
off_after t = if is_off (state_of (counts_after t t.winner)) then t.winner ∷ [] else []

-- two attempts on one bus that differ at most in the counts of interfaces that are bus off or down in both
pub record SameToTheLive (t u : Transmission) : Type 0 where
  pub count : t.count ≡ u.count
  pub winner : t.winner ≡ u.winner
  pub verdict : t.verdict ≡ u.verdict
  pub ack : t.ack ≡ u.ack
  pub silent : (i : ℕ) → i < t.count → is_silent (state_at t i) ≡ is_silent (state_at u i)
  pub live : (i : ℕ) → i < t.count → is_silent (state_at t i) ≡ false → t.counts i ≡ u.counts i

-- two attempts that differ at most in counts from place 16 on, which belong to no interface
pub record SameToSixteen (t u : Transmission) : Type 0 where
  pub within : t.count ≤ 16
  pub count : t.count ≡ u.count
  pub winner : t.winner ≡ u.winner
  pub winner_there : t.winner < t.count
  pub verdict : t.verdict ≡ u.verdict
  pub ack : t.ack ≡ u.ack
  pub counts : (i : ℕ) → i < 16 → t.counts i ≡ u.counts i

-- the error counts of interface i of these nodes
abbrev pub counts_at : Nodes → ℕ → ErrorCounts
counts_at nodes i = slice_index_or nodes.counters i at_start

-- an attempt between these nodes
abbrev pub attempt_between : Nodes → ℕ → Verdict → AckMode → Transmission
attempt_between nodes w v a = record { count = nodes.count; counts = counts_at nodes; winner = w; verdict = v; ack = a }

-- the result of an attempt
abbrev pub judged : Transmission → Judgement
judged t = record {
  class = class_of t;
  accepted = set_of (accepted_in (class_of t) t);
  hit = set_of (hit t);
  counters = map (counts_after t) (range_with_len 0 16);
  off = set_of (off_after t);
}

-- nothing can go wrong between these nodes: there is no fault, at least one node acknowledges, and all counts are 0
-- (own choice)
pub record IsFaultFree (nodes : Nodes) (v : Verdict) (a : AckMode) : Type 0 where
  pub good : v ≡ verdict.Good
  pub acknowledged : IsTrue (is_always a || nat_lt 1 nodes.count)
  pub zeros : All (λ c. c ≡ at_start) nodes.counters

-- the result of an attempt of w between these nodes in which nothing can go wrong (own choice)
abbrev pub IsCalmJudgement : Nodes → ℕ → Judgement → Type 0
IsCalmJudgement nodes w j =
    (v : Verdict) (a : AckMode) → IsFaultFree nodes v a → j ≡ judged (attempt_between nodes w v a)
