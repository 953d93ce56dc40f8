use Rattle.std.specs.Prelude.{◌≡◌, ◌<◌, ◌≤◌, ℕ, false, slice_set}
use Rattle.can_confine.specs.Confinement.{at_start, state_of, stepped, is_silent}
use Rattle.can_confine.specs.Confinement.Step.{TakenDown}
use Rattle.can_attempt.specs.declared.ack_mode.AckMode.{AckMode}
use Rattle.can_attempt.specs.declared.nodes.Nodes.{Nodes}
use Rattle.can_attempt.specs.Attempts.{attempt_between, counts_at, judged}
use Rattle.can_fault.specs.declared.verdict.Verdict.{Verdict}
use Rattle.can_bus.specs.Changes.{begun_anew}
use Rattle.can_event.specs.declared.bus_config.BusConfig.{BusConfig}
use Rattle.can_event.specs.declared.event.Event.{Event}
use Rattle.can_event.specs.declared.event.Event.TheVariants.{Attempt, Restart, Down}
use Rattle.can_event.specs.declared.reply.Reply.{Reply}
use Rattle.can_event.specs.declared.reply.Reply.TheVariants as reply
use Rattle.can_event.specs.declared.attempt.Tried.{Tried}
use Rattle.can_event.specs.declared.attempt.Attempt.TheVariants as attempt

-- The effect of an entry on the error counts of all interfaces (Bosch CAN Specification 2.0, fault confinement). An
-- attempt by a live interface changes the counts according to its faults. A restart sets the counts of one interface to
-- 0. An attempt also sets the counts to 0 for the interfaces that it restarts. An interface that is taken down keeps
-- its counts and is down.

-- the interface exists and is neither bus off nor down
pub record IsLive (nodes : Nodes) (i : ℕ) : Type 0 where
  pub few : nodes.count ≤ 16
  pub there : i < nodes.count
  pub live : is_silent (state_of (counts_at nodes i)) ≡ false

-- the error counts after an attempt by this interface
abbrev pub judged_nodes : Nodes → ℕ → Verdict → AckMode → Nodes
judged_nodes nodes i v ack = record nodes { counters = (judged (attempt_between nodes i v ack)).counters }

-- the effect of an attempt that tried a frame, if its winner exists and is live
abbrev pub CountsTried : BusConfig → Tried → Verdict → Nodes → Nodes → Type 0
CountsTried c t v old new = IsLive old t.winner → new ≡ begun_anew t.restarted (judged_nodes old t.winner v c.ack)

-- the effect of an entry on the error counts
abbrev pub Counts : BusConfig → Event → Reply → Nodes → Nodes → Type 0
Counts c (Attempt m v) (reply.Attempted (attempt.Tried t)) old new = CountsTried c t v old new
Counts c (Attempt m v) (reply.Attempted (attempt.Idle restarted)) old new = new ≡ begun_anew restarted old
Counts c (Restart i m) reply.Done old new = new ≡ record old { counters = slice_set old.counters i at_start }
Counts c (Down i m) reply.Done old new =
    new ≡ record old { counters = slice_set old.counters i (stepped (counts_at old i) TakenDown) }
Counts c _ _ old new = new ≡ old
