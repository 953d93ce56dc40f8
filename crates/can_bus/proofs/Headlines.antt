use Rattle.std.proofs.Common.{◌≡◌, ℕ, Bool, true, false, List, [], ◌∷◌, ◌++◌, All, refl, sym, ap, ◌∙◌, subst}
use Rattle.std.proofs.lemmas.List.Elements.{All-nil, All-cons}
use Rattle.can_fault.specs.declared.verdict.Verdict.{Verdict}
use Rattle.can_fault.specs.declared.verdict.Verdict.TheVariants as verdict
use Rattle.can_attempt.specs.declared.class.Class.TheVariants as class
use Rattle.can_attempt.specs.Attempts.{is_last_bit, class_when, is_destroyed, is_acknowledged}
use Rattle.can_event.specs.declared.bus_config.BusConfig.{BusConfig}
use Rattle.can_event.specs.declared.reply.Closed.{Closed}
use Rattle.can_event.specs.declared.entry.Entry.{Entry}
use Rattle.can_event.specs.declared.event.Event.{Event}
use Rattle.can_event.specs.declared.event.Event.TheVariants.{Attempt}
use Rattle.can_event.specs.declared.reply.Reply.TheVariants as reply
use Rattle.can_event.specs.declared.socket_id.SocketId.{SocketId}
use Rattle.can_event.specs.declared.attempt.Tried.{Tried}
use Rattle.can_event.specs.declared.attempt.Attempt.TheVariants as attempt
use Rattle.can_event.specs.Events.{IsLongConfig}
use Rattle.can_bus.specs.Sockets.{iface_of}
use Rattle.can_bus.specs.Counters.{transmission}
use Rattle.can_bus.specs.Legal.{legal_reply, IsLegal}
use Rattle.can_bus.specs.Repeats.{HadThatFaultAlone}
use Rattle.can_bus.specs.Fates.{closing}
use Rattle.can_bus.specs.Headline.{EndsAtClose, Headline}
use Rattle.can_bus.proofs.Lawful.{WasTried, by_attempt}
use Rattle.can_bus.proofs.CopyFacts.{received-copies}
use Rattle.can_bus.proofs.TurnFacts.{copying-over, copying-turns, numbers-never-fall}
use Rattle.can_bus.proofs.OwnFacts.{own-done, copying-sent}
use Rattle.can_bus.proofs.CopyBound.{class-is, few-copies}
use Rattle.can_bus.proofs.OfferFacts.{offers-candidates, queued-with-room, dropped-without-room}
use Rattle.can_bus.proofs.FateFacts.{frames-lost}
use Rattle.can_bus.proofs.LifeFacts.{legal-before, nothing-after-close, numbers-rise, offered-kept, items-at-close, dropped-at-close}

-- ---- an attempt that failed only at the last bit had that fault

last_bit-when : (destroyed acknowledged at_last : Bool) → class_when destroyed acknowledged at_last ≡ class.LastBit → at_last ≡ true
last_bit-when true a l failed = cc
last_bit-when false false l failed = cc
last_bit-when false true true failed = refl
last_bit-when false true false failed = cc

last_bit-verdict : (v : Verdict) → is_last_bit v ≡ true → v ≡ verdict.LastBit
last_bit-verdict verdict.LastBit is = refl
last_bit-verdict verdict.Good is = cc
last_bit-verdict (verdict.Global k) is = cc
last_bit-verdict (verdict.Local set k) is = cc

fault-of-last_bit : (c : BusConfig) (past : List Entry) (e : Event) (t : Tried) → reply.Attempted (attempt.Tried t) ≡ legal_reply c past e → t.class ≡ class.LastBit → e ≡ Attempt t.moment verdict.LastBit
fault-of-last_bit c past e t law failed = by_attempt (λ k. k ≡ Attempt t.moment verdict.LastBit) c past e t law when
  where
    when : (m : ℕ) (v : Verdict) → WasTried c past m v t → Attempt m v ≡ Attempt t.moment verdict.LastBit
    when m v w =
        let tr = transmission c past t.winner v in
        let fault : v ≡ verdict.LastBit = last_bit-verdict v (last_bit-when (is_destroyed tr) (is_acknowledged tr) (is_last_bit v) (sym (class-is c past m v t w) ∙ failed)) in
        let at : t.moment ≡ m = ap (λ (u : Tried). u.moment) w.is in
        ap (λ (k : ℕ). Attempt k v) (sym at) ∙ ap (Attempt t.moment) fault

-- if an attempt failed only at the last bit of end of frame, that was its fault
pub had-that-fault : (c : BusConfig) (past : List Entry) → IsLegal c past → All HadThatFaultAlone past
had-that-fault c [] legal = All-nil HadThatFaultAlone
had-that-fault c (e ∷ past) legal = All-cons HadThatFaultAlone e past (λ t is failed. fault-of-last_bit c past e.event t (sym is ∙ legal.1) failed) (had-that-fault c past legal.2)

-- ---- closes

at-close : (c : BusConfig) (later before : List Entry) (s : SocketId) (k : Closed) → IsLegal c (later ++ closing s k ∷ before) → EndsAtClose c before (later ++ closing s k ∷ before) s k
at-close c later before s k legal =
    let at = legal-before c later (closing s k ∷ before) legal in
    record { unread = items-at-close c before s k at; dropped = dropped-at-close c before s k at; after = nothing-after-close c later before s k legal }

-- ---- the headline

-- the statement that holds for every legal history
pub headline : (c : BusConfig) (past : List Entry) → IsLongConfig c → IsLegal c past → Headline c past
headline c past proper legal = record {
  exact = received-copies c past legal;
  sent = copying-sent c past legal;
  order = numbers-never-fall c past legal;
  once = copying-turns c past legal;
  over = copying-over c past legal;
  alone = had-that-fault c past legal;
  own = λ s. own-done c past legal (iface_of past s) s refl;
  few = few-copies c past legal proper.few_ifaces;
  offered = offers-candidates c past;
  room = queued-with-room c past;
  dropped = dropped-without-room c past;
  counted = offered-kept c past;
  lost = frames-lost c past legal;
  closed = λ later before s k is. subst (λ h. EndsAtClose c before h s k) (sym is) (at-close c later before s k (subst (IsLegal c) is legal));
  numbers = numbers-rise c past legal;
}
