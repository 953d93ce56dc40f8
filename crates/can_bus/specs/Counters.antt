use Rattle.std.specs.Prelude.{ℕ, ◌==◌, List, [], ◌++◌, ◌∷◌, if◌then◌else◌}
use Rattle.can_frame.specs.Sets.{is_in}
use Rattle.can_confine.specs.Confinement.{ErrorCounts, Step, all_stepped, at_start, state_of}
use Rattle.can_confine.specs.Confinement.Step.{TakenDown}
use Rattle.can_confine.specs.declared.state.State.{State}
use Rattle.can_fault.specs.declared.verdict.Verdict.{Verdict}
use Rattle.can_attempt.specs.Attempts.{Transmission, steps_at}
use Rattle.can_event.specs.declared.bus_config.BusConfig.{BusConfig}
use Rattle.can_event.specs.declared.entry.Entry.{Entry}
use Rattle.can_event.specs.declared.event.Event.{Event}
use Rattle.can_event.specs.declared.event.Event.TheVariants.{Attempt, Restart, Down}
use Rattle.can_event.specs.declared.reply.Reply.{Reply}
use Rattle.can_event.specs.declared.attempt.Attempt.TheVariants as attempt
use Rattle.can_event.specs.declared.reply.Reply.TheVariants as reply

-- The error counters of a bus's interfaces, from its history (Bosch CAN Specification 2.0, fault confinement).

-- Interface w sends under this verdict and with these error counts.
abbrev pub sending : BusConfig → (ℕ → ErrorCounts) → ℕ → Verdict → Transmission
sending c counts w v = record { count = c.ifaces; counts = counts; winner = w; verdict = v; ack = c.ack }

-- steps_of after one more entry (own choice).
abbrev pub steps_after : BusConfig → Event → Reply → (ℕ → ErrorCounts) → ℕ → List Step → List Step
steps_after c (Attempt m v) (reply.Attempted (attempt.Tried t)) counts i before =
    if is_in i t.restarted then [] else before ++ steps_at i (sending c counts t.winner v)
steps_after c (Attempt m v) (reply.Attempted (attempt.Idle restarted)) counts i before =
    if is_in i restarted then [] else before
steps_after c (Restart k m) reply.Done counts i before = if k == i then [] else before
steps_after c (Down k m) reply.Done counts i before = if k == i then before ++ TakenDown ∷ [] else before
steps_after c _ _ counts i before = before

-- The steps of interface i's error counters since its last restart, by hand or by an attempt.
abbrev pub steps_of : BusConfig → List Entry → ℕ → List Step
steps_of c [] i = []
steps_of c (e ∷ past) i =
    steps_after c e.event e.reply (λ j. all_stepped at_start (steps_of c past j)) i (steps_of c past i)

-- The error counts of interface i: its steps applied to 0/0.
abbrev pub counts_of : BusConfig → List Entry → ℕ → ErrorCounts
counts_of c past i = all_stepped at_start (steps_of c past i)

-- The fault confinement state of interface i.
abbrev pub state_at : BusConfig → List Entry → ℕ → State
state_at c past i = state_of (counts_of c past i)

-- Interface w sends now, under this verdict.
abbrev pub transmission : BusConfig → List Entry → ℕ → Verdict → Transmission
transmission c past w v = sending c (counts_of c past) w v
