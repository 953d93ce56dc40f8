use Rattle.std.specs.Prelude.{ℕ, Bool, not, ◌&&◌, List, [], filter, find, Option, Some, None, is_some}
use Rattle.std.specs.List.{list_any, range_with_len}
use Rattle.can_frame.specs.Frames.{CanFrame}
use Rattle.can_frame.specs.Arbitration.{arbitration_bits, goes_before}
use Rattle.can_confine.specs.Confinement.{is_silent}
use Rattle.can_fault.specs.declared.verdict.Verdict.{Verdict}
use Rattle.can_attempt.specs.Attempts.{class_of, accepted_in, off_after, set_of}
use Rattle.can_event.specs.declared.bus_config.BusConfig.{BusConfig}
use Rattle.can_event.specs.declared.entry.Entry.{Entry}
use Rattle.can_event.specs.declared.pending.Pending.{Pending}
use Rattle.can_event.specs.declared.reply.Reply.{Reply}
use Rattle.can_event.specs.declared.reply.Reply.TheVariants as reply
use Rattle.can_event.specs.declared.attempt.Tried.{Tried}
use Rattle.can_event.specs.declared.attempt.Attempt.TheVariants as attempt
use Rattle.can_bus.specs.Transmit.{gone_count, head_of}
use Rattle.can_bus.specs.Counters.{state_at, transmission}
use Rattle.can_bus.specs.AutoRestart.{restarted_next}

-- The reply to an attempt: the frame that is tried, and its result.

-- The live interfaces with a frame to send: they take part in arbitration.
abbrev pub contenders : BusConfig → List Entry → List ℕ
contenders c past =
    filter (λ i. is_some (head_of past i) && not (is_silent (state_at c past i))) (range_with_len 0 c.ifaces)

-- The arbitration bits of a waiting frame.
abbrev pub bits_in : Option Pending → List ℕ
bits_in None = []
bits_in (Some p) = arbitration_bits p.frame

-- The frame of interface j wins over the frame of interface i (Bosch CAN Specification 2.0, arbitration).
abbrev pub beats : List Entry → ℕ → ℕ → Bool
beats past j i = goes_before (bits_in (head_of past j)) (bits_in (head_of past i))

-- The interface that wins the bus: the lowest contender that no other contender beats.
abbrev pub winner : BusConfig → List Entry → Option ℕ
winner c past = find (λ i. not (list_any (λ j. beats past j i) (contenders c past))) (contenders c past)

-- The winner sends its frame, and the result follows from the faults and the error counts; then interfaces are
-- restarted.
abbrev pub tried_with : BusConfig → List Entry → ℕ → Verdict → ℕ → CanFrame → Tried
tried_with c past m v w frame =
    let t = transmission c past w v in
    record {
      moment = m;
      winner = w;
      number = gone_count past w;
      frame = frame;
      class = class_of t;
      accepted = set_of (accepted_in (class_of t) t);
      off = set_of (off_after t);
      restarted = restarted_next c past;
    }

-- The reply to an attempt that interface w wins with this oldest frame (own choice).
abbrev pub tried_head : BusConfig → List Entry → ℕ → Verdict → ℕ → Option Pending → Reply
tried_head c past m v w None = reply.Attempted (attempt.Idle (restarted_next c past))
tried_head c past m v w (Some p) = reply.Attempted (attempt.Tried (tried_with c past m v w p.frame))

-- The attempt is idle exactly if no live interface has a frame to send.
abbrev pub attempt_reply : BusConfig → List Entry → ℕ → Verdict → Option ℕ → Reply
attempt_reply c past m v None = reply.Attempted (attempt.Idle (restarted_next c past))
attempt_reply c past m v (Some w) = tried_head c past m v w (head_of past w)
