use Rattle.std.specs.Prelude.{◌≡◌, ℕ, ◌+◌, ◌≤◌, ◌==◌, List, ◌∷◌, count_by, Some}
use Rattle.can_attempt.specs.declared.class.Class.TheVariants as class
use Rattle.can_fault.specs.declared.verdict.Verdict.TheVariants as verdict
use Rattle.can_event.specs.declared.bus_config.BusConfig.{BusConfig}
use Rattle.can_event.specs.declared.entry.Entry.{Entry}
use Rattle.can_event.specs.declared.event.Event.TheVariants.{Attempt}
use Rattle.can_event.specs.declared.pending.Pending.{Pending}
use Rattle.can_event.specs.declared.reply.Reply.TheVariants as reply
use Rattle.can_event.specs.declared.attempt.Tried.{Tried}
use Rattle.can_event.specs.declared.attempt.Attempt.TheVariants as attempt
use Rattle.can_bus.specs.Transmit.{gone_count, head_of}
use Rattle.can_bus.specs.Counters.{counts_of}
use Rattle.can_bus.specs.Queues.{queued_to}
use Rattle.can_bus.specs.Copies.{numbers_from}

-- How many times one frame can reach a socket. Only the transmitter sees a fault in the last bit of end of frame: it
-- repeats a frame that the receivers have accepted (Bosch CAN Specification 2.0, message validation).

-- How many times number n is among the data frames from interface i that socket s got.
abbrev pub copies_queued : BusConfig → List Entry → ℕ → ℕ → ℕ → ℕ
copies_queued c past i s n = count_by (λ m. m == n) (numbers_from i (queued_to c past s))

-- No frame reaches a socket more than 32 times.
abbrev pub AtMost32Copies : BusConfig → List Entry → Type 0
AtMost32Copies c past = (i s n : ℕ) → copies_queued c past i s n ≤ 32

-- The transmit error count of interface i.
abbrev pub transmit_count : BusConfig → List Entry → ℕ → ℕ
transmit_count c past i = (counts_of c past i).tec

-- While a frame is first in its queue, the transmit error count of its interface does not decrease.
abbrev pub RisesAtTheHead : BusConfig → Entry → List Entry → Type 0
RisesAtTheHead c e past =
    (i : ℕ) (p : Pending) → head_of past i ≡ Some p → gone_count (e ∷ past) i ≡ gone_count past i
    → transmit_count c past i ≤ transmit_count c (e ∷ past) i

-- An attempt that failed only at the last bit adds 8 to the transmit error count of its winner.
abbrev pub LastBitAdds8 : BusConfig → Entry → List Entry → Type 0
LastBitAdds8 c e past =
    (t : Tried) → e.reply ≡ reply.Attempted (attempt.Tried t) → t.class ≡ class.LastBit
    → transmit_count c (e ∷ past) t.winner ≡ transmit_count c past t.winner + 8

-- An attempt that failed only at the last bit of end of frame had that fault and no other.
abbrev pub HadThatFaultAlone : Entry → Type 0
HadThatFaultAlone e =
    (t : Tried) → e.reply ≡ reply.Attempted (attempt.Tried t) → t.class ≡ class.LastBit
    → e.event ≡ Attempt t.moment verdict.LastBit
