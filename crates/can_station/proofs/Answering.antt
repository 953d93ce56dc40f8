use Rattle.std.proofs.Common.{Result, Ok, Err, subst}
use Rattle.can_event.specs.declared.event.Event.{Event}
use Rattle.can_event.specs.declared.reply.Reply.{Reply}
use Rattle.can_event.specs.declared.refusal.Refusal.TheVariants as refusal
use Rattle.can_station.specs.Held.{StationSeen}
use Rattle.can_station.specs.Passes.{Answered, IsAnsweredIn, InSome, ReportsReply}
use Rattle.can_station.specs.declared.refusals.StationRefusal.{StationRefusal}
use Rattle.can_station.specs.declared.refusals.StationRefusal.TheVariants as station

-- The caller's result matches the reply, if the reply enters the record.

module _ (F : Type 0) {A : Type 0} (told : A → Reply) (seen : StationSeen) (e : Event) (r : Reply) where
  pub answered : (outcome : Result A StationRefusal) → ReportsReply told outcome r → InSome F seen (λ held. IsAnsweredIn held e r) → Answered F told seen e outcome
  answered (Ok a) is found = subst (λ (t : Reply). InSome F seen (λ held. IsAnsweredIn held e t)) is found
  answered (Err (station.Bus refusal.RecordFull)) is found = subst (λ (t : Reply). InSome F seen (λ held. IsAnsweredIn held e t)) is found
  answered (Err (station.Bus refusal.NoInterface)) is found = subst (λ (t : Reply). InSome F seen (λ held. IsAnsweredIn held e t)) is found
  answered (Err (station.Bus refusal.BadCapacity)) is found = subst (λ (t : Reply). InSome F seen (λ held. IsAnsweredIn held e t)) is found
  answered (Err (station.Bus refusal.TooManySockets)) is found = subst (λ (t : Reply). InSome F seen (λ held. IsAnsweredIn held e t)) is found
  answered (Err (station.Bus refusal.NoSocket)) is found = subst (λ (t : Reply). InSome F seen (λ held. IsAnsweredIn held e t)) is found
  answered (Err (station.Bus refusal.FdOff)) is found = subst (λ (t : Reply). InSome F seen (λ held. IsAnsweredIn held e t)) is found
  answered (Err (station.Bus refusal.BusOff)) is found = subst (λ (t : Reply). InSome F seen (λ held. IsAnsweredIn held e t)) is found
  answered (Err (station.Bus refusal.NoBuffers)) is found = subst (λ (t : Reply). InSome F seen (λ held. IsAnsweredIn held e t)) is found
  answered (Err (station.Bus refusal.NotBusOff)) is found = subst (λ (t : Reply). InSome F seen (λ held. IsAnsweredIn held e t)) is found
  answered (Err (station.Bus refusal.Down)) is found = subst (λ (t : Reply). InSome F seen (λ held. IsAnsweredIn held e t)) is found
  answered (Err (station.Bus refusal.NoMemory)) is found = tt
  answered (Err station.WrongStation) is found = absurd is
