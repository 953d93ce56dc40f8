use Rattle.std.specs.Prelude.{ℕ, ◌+◌, ◌-◌, nat_le, min, Bool, true, false, ◌||◌, List, [], ◌∷◌, if◌then◌else◌}
use Rattle.can_confine.specs.declared.state.State.{State}
use Rattle.can_confine.specs.declared.state.State.TheVariants.{Active, Warning, Passive, Off, Down}

-- Fault confinement: error counters and the state that follows from them (Bosch CAN Specification 2.0, part B, section
-- 8).

-- a node's transmit error count and receive error count, and whether it was taken down (`ip link set down`)
pub record ErrorCounts : Type 0 where
  pub tec : ℕ
  pub rec : ℕ
  pub down : Bool

-- a change to a node's counts in an attempt, or the node being taken down
pub data Step : Type 0 where
  TransmitError : Step
  ReceiveError : Step
  GoodTransmission : Step
  GoodReception : Step
  TakenDown : Step

-- the counts after a step (rules 1, 3, 7 and 8). Own choices: a receive count stops at 255; a good reception changes a
-- receive count above 127 to 127; a node that is taken down keeps its counts
abbrev pub stepped : ErrorCounts → Step → ErrorCounts
stepped c TransmitError = record c { tec = c.tec + 8 }
stepped c ReceiveError = record c { rec = min 255 (c.rec + 1) }
stepped c GoodTransmission = record c { tec = c.tec - 1 }
stepped c GoodReception = record c { rec = if nat_le 128 c.rec then 127 else c.rec - 1 }
stepped c TakenDown = record c { down = true }

-- the counts after these steps, in order
abbrev pub all_stepped : ErrorCounts → List Step → ErrorCounts
all_stepped c [] = c
all_stepped c (s ∷ ss) = all_stepped (stepped c s) ss

-- the counts at the start and after a restart
abbrev pub at_start : ErrorCounts
at_start = record { tec = 0; rec = 0; down = false }

-- the state for these counts: down if the node was taken down, bus off from a transmit count of 256, error passive from
-- a count of 128, and at the warning limit from 96 (linux/can/error.h)
abbrev pub state_of : ErrorCounts → State
state_of c =
    if c.down then Down
    else if nat_le 256 c.tec then Off
    else if nat_le 128 c.tec || nat_le 128 c.rec then Passive
    else if nat_le 96 c.tec || nat_le 96 c.rec then Warning
    else Active

-- bus off
abbrev pub is_off : State → Bool
is_off Off = true
is_off _ = false

-- taken down (CAN_STATE_STOPPED of linux/can/netlink.h)
abbrev pub is_down : State → Bool
is_down Down = true
is_down _ = false

-- bus off or down: the node neither sends nor receives anything
abbrev pub is_silent : State → Bool
is_silent Off = true
is_silent Down = true
is_silent _ = false

-- error passive
abbrev pub is_passive : State → Bool
is_passive Passive = true
is_passive _ = false

-- how far a state is from Active
abbrev pub severity : State → ℕ
severity Active = 0
severity Warning = 1
severity Passive = 2
severity Off = 3
severity Down = 4
