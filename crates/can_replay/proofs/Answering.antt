use Rattle.std.proofs.Common.{◌≡◌, ◌≢◌, ◌<◌, suc, nat_le, List, [], ◌∷◌, length, All, arith, refl, sym, ap, ◌∙◌}
use Rattle.std.proofs.lemmas.Bool.{cond-true, cond-false, le-leb, lt-leb}
use Rattle.can_event.specs.declared.bus_config.BusConfig.{BusConfig}
use Rattle.can_event.specs.declared.entry.Entry.{Entry}
use Rattle.can_event.specs.declared.event.Event.{Event}
use Rattle.can_event.specs.declared.reply.Reply.{Reply}
use Rattle.can_event.specs.declared.attempt.Attempt.TheVariants as attempt
use Rattle.can_event.specs.declared.reply.Reply.TheVariants as reply
use Rattle.can_event.specs.declared.refusal.Refusal.TheVariants as refusal
use Rattle.can_bus.specs.Legal.{legal_reply}
use Rattle.can_bus.specs.Run.{IsAnswer, AreAnswers, history_after}
use Rattle.can_replay.specs.Replies.{reply_after, entries_after, replies_after}

-- The bus's reply to an event, and the history after the event, are as `reply_after` and `entries_after` define them.

pub record Answers (c : BusConfig) (past : List Entry) (e : Event) (r : Reply) : Type 0 where
  pub reply : r ≡ reply_after c past e
  pub entries : history_after e r past ≡ entries_after c past e

noted : (c : BusConfig) (past : List Entry) (e : Event) (r : Reply) → length past < c.limit → r ≡ legal_reply c past e → history_after e r past ≡ record { event = e; reply = r } ∷ past → Answers c past e r
noted c past e r room is after = record {
  reply = is ∙ sym (cond-false (nat_le c.limit (length past)) _ _ (lt-leb c.limit (length past) room));
  entries = after ∙ ap (λ (k : Reply). record { event = e; reply = k } ∷ past) is ∙ sym (cond-false (nat_le c.limit (length past)) _ _ (lt-leb c.limit (length past) room));
}

pub answers : (c : BusConfig) (past : List Entry) (e : Event) (r : Reply) → IsAnswer c past e r → r ≢ reply.Refused refusal.NoMemory → Answers c past e r
answers c past e (reply.Refused refusal.RecordFull) full memory = record {
  reply = sym (cond-true (nat_le c.limit (length past)) _ _ (le-leb c.limit (length past) full));
  entries = sym (cond-true (nat_le c.limit (length past)) _ _ (le-leb c.limit (length past) full));
}
answers c past e (reply.Refused refusal.NoMemory) h memory = absurd (memory refl)
answers c past e (reply.Refused refusal.NoInterface) h memory = noted c past e _ h.0 h.1 refl
answers c past e (reply.Refused refusal.BadCapacity) h memory = noted c past e _ h.0 h.1 refl
answers c past e (reply.Refused refusal.TooManySockets) h memory = noted c past e _ h.0 h.1 refl
answers c past e (reply.Refused refusal.NoSocket) h memory = noted c past e _ h.0 h.1 refl
answers c past e (reply.Refused refusal.FdOff) h memory = noted c past e _ h.0 h.1 refl
answers c past e (reply.Refused refusal.BusOff) h memory = noted c past e _ h.0 h.1 refl
answers c past e (reply.Refused refusal.NoBuffers) h memory = noted c past e _ h.0 h.1 refl
answers c past e (reply.Refused refusal.NotBusOff) h memory = noted c past e _ h.0 h.1 refl
answers c past e (reply.Refused refusal.Down) h memory = noted c past e _ h.0 h.1 refl
answers c past e (reply.Opened s) h memory = noted c past e _ h.0 h.1 refl
answers c past e (reply.Closed k) h memory = noted c past e _ h.0 h.1 refl
answers c past e reply.Done h memory = noted c past e _ h.0 h.1 refl
answers c past e (reply.Sent n) h memory = noted c past e _ h.0 h.1 refl
answers c past e (reply.Received x) h memory = noted c past e _ h.0 h.1 refl
answers c past e (reply.Attempted (attempt.Idle set)) h memory = noted c past e _ h.0 h.1 refl
answers c past e (reply.Attempted (attempt.Tried t)) h memory = noted c past e _ h.0 h.1 refl

pub answers_all : (c : BusConfig) (past : List Entry) (es : List Event) (rs : List Reply) → AreAnswers c past es rs → All (λ r. r ≢ reply.Refused refusal.NoMemory) rs → rs ≡ replies_after c past es
unfolding AreAnswers replies_after
answers_all c past [] [] are memory = refl
answers_all c past (e ∷ es) (r ∷ rs) are memory =
    let here = answers c past e r are.0 (memory 0 r (omega arith)) in
    let rest = answers_all c (history_after e r past) es rs are.1 (λ k d lt. memory (suc k) d (omega (arith, lt))) in
    ap (λ (x : Reply). x ∷ rs) here.reply ∙ ap (λ (xs : List Reply). reply_after c past e ∷ xs) (rest ∙ ap (λ (h : List Entry). replies_after c h es) here.entries)
answers_all c past [] (r ∷ rs) are memory = absurd are
answers_all c past (e ∷ es) [] are memory = absurd are
