use Rattle.std.specs.Prelude.{◌≡◌, ◌≢◌, ℕ, ◌≤◌, nat_le, ◌⊎◌, List, slice_get, Option, Some, None, if◌then◌else◌}
use Rattle.can_event.specs.declared.bus_config.BusConfig.{BusConfig}
use Rattle.can_event.specs.declared.entry.Entry.{Entry}
use Rattle.can_event.specs.declared.event.Event.{Event}
use Rattle.can_event.specs.declared.reply.Reply.{Reply}
use Rattle.can_event.specs.declared.reply.Reply.TheVariants.{Refused}
use Rattle.can_event.specs.declared.refusal.Refusal.TheVariants.{NoMemory, RecordFull}
use Rattle.can_bus.specs.Legal.{legal_reply, IsLegal}
use Rattle.can_replay.specs.declared.audits.AuditFault.{AuditFault}
use Rattle.can_replay.specs.declared.audits.AuditFault.TheVariants as fault
use Rattle.can_replay.specs.Histories.{before}

-- Defines whether a list of entries, the oldest first, is a legal history, and which entry is the first wrong one if it
-- is not.

-- Entry k is the first wrong entry. The entries before it are a legal history. Entry k is past the limit, or its reply
-- does not follow from that history (own choice).
pub record IsFirstWrongEntry (c : BusConfig) (entries : List Entry) (k : ℕ) : Type 0 where
  pub entry : Entry
  pub there : slice_get entries k ≡ Some entry
  pub legal_before : IsLegal c (before entries k)
  pub wrong : (c.limit ≤ k) ⊎ (entry.reply ≢ legal_reply c (before entries k) entry.event)

-- The legal reply to this event after this history of k entries, or None if the limit of entries is reached.
abbrev pub allowed_after : BusConfig → ℕ → List Entry → Event → Option Reply
allowed_after c k past e = if nat_le c.limit k then None else Some (legal_reply c past e)

-- The legal reply for entry k, whose event is e, or None if entry k exceeds the limit.
abbrev pub allowed : BusConfig → List Entry → ℕ → Event → Option Reply
allowed c entries k e = allowed_after c k (before entries k) e

-- Entry k is the first wrong entry, and `legal` is the reply that would be legal there.
pub record IsToldWrong (c : BusConfig) (entries : List Entry) (k : ℕ) (legal : Option Reply) : Type 0 where
  pub first : IsFirstWrongEntry c entries k
  pub is_allowed : legal ≡ allowed c entries k first.entry.event

-- What a fault of the audit says about the entries. Lack of memory says nothing about them.
abbrev pub Blames : BusConfig → List Entry → AuditFault → Type 0
Blames c entries (fault.Wrong k legal) = IsToldWrong c entries k legal
Blames c entries fault.NoMemory = Unit {0}

-- The fault of entry k if the bus answers its event with this different reply.
abbrev pub fault_at : ℕ → Reply → AuditFault
fault_at k (Refused NoMemory) = fault.NoMemory
fault_at k (Refused RecordFull) = fault.Wrong k None
fault_at k r = fault.Wrong k (Some r)
