use Rattle.std.proofs.Common.{◌≡◌, ℕ, Result, Ok, Err, subst, ◌∙◌, ap}
use Rattle.can_event.specs.declared.attempt.Attempt.{Attempt}
use Rattle.can_event.specs.declared.reply.Reply.{Reply}
use Rattle.can_event.specs.declared.refusal.Refusal.TheVariants as refusal
use Rattle.can_event.specs.declared.reply.Reply.TheVariants as reply
use Rattle.can_fault.specs.Sources.{VerdictMap}
use Rattle.can_station.specs.Held.{Held, StationSeen}
use Rattle.can_station.specs.Passes.{PassSeen, IsAnsweredIn, IsStateOf, StepsIn, Stepped, ReportsReply, next_attempt, pass_after}
use Rattle.can_station.specs.declared.refusals.StationRefusal.{StationRefusal}
use Rattle.can_station.specs.declared.refusals.StationRefusal.TheVariants as station

-- A step that was carried out under the lock.

module _ {F : Type 0} (verdicts : F → VerdictMap) (held : Held F) (seen : StationSeen) (old : PassSeen) (moment : ℕ) (new : PassSeen) (state : IsStateOf seen held) (own : old.number ≡ seen.number) where
  steps : (r told : Reply) → r ≡ told → IsAnsweredIn held (next_attempt verdicts held moment) r → new ≡ pass_after (next_attempt verdicts held moment) r old → StepsIn verdicts seen old moment told new
  steps r told is answer kept = subst (λ (t : Reply). StepsIn verdicts seen old moment t new) is (own, (held, state, (answer, kept)))

  pub stepped : (outcome : Result Attempt StationRefusal) (r : Reply) → ReportsReply reply.Attempted outcome r → IsAnsweredIn held (next_attempt verdicts held moment) r → new ≡ pass_after (next_attempt verdicts held moment) r old → Stepped verdicts seen old moment outcome new
  stepped (Ok a) r is answer kept = steps r (reply.Attempted a) is answer kept
  stepped (Err (station.Bus refusal.RecordFull)) r is answer kept = steps r _ is answer kept
  stepped (Err (station.Bus refusal.NoInterface)) r is answer kept = steps r _ is answer kept
  stepped (Err (station.Bus refusal.BadCapacity)) r is answer kept = steps r _ is answer kept
  stepped (Err (station.Bus refusal.TooManySockets)) r is answer kept = steps r _ is answer kept
  stepped (Err (station.Bus refusal.NoSocket)) r is answer kept = steps r _ is answer kept
  stepped (Err (station.Bus refusal.FdOff)) r is answer kept = steps r _ is answer kept
  stepped (Err (station.Bus refusal.BusOff)) r is answer kept = steps r _ is answer kept
  stepped (Err (station.Bus refusal.NoBuffers)) r is answer kept = steps r _ is answer kept
  stepped (Err (station.Bus refusal.NotBusOff)) r is answer kept = steps r _ is answer kept
  stepped (Err (station.Bus refusal.Down)) r is answer kept = steps r _ is answer kept
  stepped (Err (station.Bus refusal.NoMemory)) r is answer kept = kept ∙ ap (λ (t : Reply). pass_after (next_attempt verdicts held moment) t old) is
  stepped (Err station.WrongStation) r is answer kept = absurd is
