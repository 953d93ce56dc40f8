use Rattle.std.specs.Prelude.{◌≡◌, ℕ, List, slice_get, Option, Some, None}
use Rattle.can_frame.specs.Frames.{CanFrame}
use Rattle.can_arbiter.specs.Keys.{IsWinner, IsIdle}
use Rattle.can_event.specs.declared.bus_config.BusConfig.{BusConfig}
use Rattle.can_event.specs.declared.entry.Entry.{Entry}
use Rattle.can_event.specs.declared.pending.Pending.{Pending}
use Rattle.can_bus.specs.Attempts.{winner}
use Rattle.can_bus.specs.State.{InterfaceState, Parts}
use Rattle.can_bus.specs.Transmit.{head_of}

-- The frame that the next attempt tries.

-- Interface w with its oldest frame, if it has one (own choice).
abbrev pub with_frame : ℕ → Option Pending → Option (ℕ × CanFrame)
with_frame w None = None
with_frame w (Some p) = Some (w, p.frame)

-- The interface that wins, with its oldest frame (own choice).
abbrev pub head_at : List Entry → Option ℕ → Option (ℕ × CanFrame)
head_at past None = None
head_at past (Some w) = with_frame w (head_of past w)

-- The interface that wins the next attempt, and the frame that it sends: None if no live interface has a frame.
abbrev pub next_head : BusConfig → List Entry → Option (ℕ × CanFrame)
next_head c past = head_at past (winner c past)

-- The same from the state of the bus: the winner's interface, and its oldest frame.
pub record IsNext (parts : Parts) (head : ℕ × CanFrame) : Type 0 where
  pub interface : InterfaceState
  pub pending : Pending
  pub wins : IsWinner parts.keys head.0
  pub there : slice_get parts.interfaces head.0 ≡ Some interface
  pub oldest : slice_get interface.waiting 0 ≡ Some pending
  pub frame : head.1 ≡ pending.frame

-- The next attempt from the state of the bus: None if no interface competes.
abbrev pub ReportsNext : Parts → Option (ℕ × CanFrame) → Type 0
ReportsNext parts None = IsIdle parts.keys
ReportsNext parts (Some head) = IsNext parts head
