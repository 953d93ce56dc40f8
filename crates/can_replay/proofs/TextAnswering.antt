-- Compares a line with the line for the reply of a bus.
use Rattle.std.proofs.Common.{◌≡◌, ◌≤◌, nat_le, ℕ, List, [], drop, length, Option, Some, None, Err, inl, inr, refl, sym, subst, ap, ◌∙◌}
use Rattle.std.proofs.lemmas.Bool.{cond-false, le-leb, lt-leb}
use Rattle.std.proofs.lemmas.Option.{none-some, same_Some}
use Rattle.can_event.specs.declared.bus_config.BusConfig.{BusConfig}
use Rattle.can_event.specs.declared.entry.Entry.{Entry}
use Rattle.can_event.specs.declared.event.Event.{Event}
use Rattle.can_event.specs.declared.reply.Reply.{Reply}
use Rattle.can_event.specs.declared.reply.Reply.TheVariants as reply
use Rattle.can_event.specs.declared.refusal.Refusal.TheVariants as refusal
use Rattle.can_event.specs.Replies.{Enters}
use Rattle.can_event.specs.Spelled.{IsSpelled}
use Rattle.can_bus.specs.Lean.{Lean, IsAfter}
use Rattle.can_bus.specs.Legal.{legal_reply}
use Rattle.can_bus.specs.Run.{IsAnswer, history_after}
use Rattle.can_bus.proofs.Answering.{entered_is_legal, history-entered}
use Rattle.can_record_text.specs.declared.fault.Unread.{Unread}
use Rattle.can_record_text.specs.declared.fault.Unread.TheVariants as unread
use Rattle.can_record_text.specs.declared.version.Version.{Version}
use Rattle.can_record_text.specs.inner.Words.{after}
use Rattle.can_record_text.specs.inner.Reading.{Gives, entry_at, event_at, moment_of, reply_at, ◌>>=◌}
use Rattle.can_record_text.specs.declared.needs.Needs.{Needs}
use Rattle.can_record_text.proofs.Versioning.{six_takes}
use Rattle.can_record_text.specs.Spelling.{answered_line, entry_line, needs_of}
use Rattle.can_record_text.specs.Values.{HasLine, HoldsEvent, HoldsReply}
use Rattle.can_record_text.proofs.Again.{entry_again}
use Rattle.can_replay.specs.inner.Carried.{IsNext, IsOther, IsWrongNext}

-- Bytes that do not begin with the words of an event do not begin with an entry.
pub not_an_entry : (u : Unread) (text : List ℕ) → Gives {X = Event × List ℕ} (Err u) (event_at text) → u ≡ unread.Bad → entry_at text ≡ None
unfolding entry_at
not_an_entry unread.Bad text h is = rw h refl
not_an_entry unread.NoMemory text h is = absurd cc

-- If a text begins with an entry and also with an event, the event belongs to this entry.
event_is : (text : List ℕ) (e : Entry) (ev : Event) (rest : List ℕ) → entry_at text ≡ Some e → event_at text ≡ Some (ev, rest) → e.event ≡ ev
unfolding entry_at
event_is text e ev rest whole is = when (reply_at (moment_of ev) (after rest)) (sym (ap (λ (o : Option (Event × List ℕ)). o >>= λ x. reply_at (moment_of x.0) (after x.1) >>= λ r. Some (record { event = x.0; reply = r.0 })) is) ∙ whole)
  where
    when : (o : Option (Reply × List ℕ)) → (o >>= λ r. Some (record { event = ev; reply = r.0 })) ≡ Some e → e.event ≡ ev
    when None h = absurd (none-some e h)
    when (Some r) h = sym (ap (λ (d : Entry). d.event) (same_Some (record { event = ev; reply = r.0 }) e h))

-- An entry is wrong if its line differs from the line of its event with the legal reply.
pub other_reply : (v : Version) (c : BusConfig) (past : List Entry) (line rest more : List ℕ) (e : Entry) (ev : Event) (r : Reply) → HasLine v c e → line ≡ entry_line e rest → event_at line ≡ Some (ev, more)
    → Enters r → IsAnswer c past ev r → (line ≡ answered_line ev r rest → ⊥) → IsWrongNext c past e (Some r)
other_reply v c past line rest more e ev r good is guessed enters answer other =
    let same : e.event ≡ ev = event_is line e ev more (ap entry_at is ∙ entry_again v c e rest good) guessed in
    let lawful = entered_is_legal c past ev r answer enters in
    let law : r ≡ legal_reply c past e.event = lawful.1 ∙ ap (legal_reply c past) (sym same) in
    record {
      wrong = inr (λ right.
          other (is ∙ ap (λ (x : Event). answered_line x e.reply rest) same ∙ ap (λ (x : Reply). answered_line ev x rest) (right ∙ sym law)));
      is_allowed = ap Some law ∙ sym (cond-false (nat_le c.limit (length past)) None (Some (legal_reply c past e.event)) (lt-leb c.limit (length past) lawful.0));
    }

-- Every entry past the limit is wrong.
pub other_past : (c : BusConfig) (past : List Entry) (line : List ℕ) (ev : Event) (r : Reply) → r ≡ reply.Refused refusal.RecordFull → IsAnswer c past ev r → IsOther c past line None
other_past c past line ev r is answer v e rest good is_line =
    let full : c.limit ≤ length past = subst (IsAnswer c past ev) is answer in
    record { wrong = inl full; is_allowed = rw (le-leb c.limit (length past) full) refl }

-- The line for an event and the bus's reply is the line of the next entry.
pub next_is : (c : BusConfig) (past : List Entry) (line : List ℕ) (ev : Event) (r : Reply) (needs : Needs) (bus : Lean) → Enters r → IsSpelled c (record { event = ev; reply = r }) → HoldsEvent ev → HoldsReply r
    → needs ≡ needs_of (record { event = ev; reply = r }) → line ≡ answered_line ev r (drop (length (answered_line ev r [])) line) → IsAfter bus (history_after ev r past) → IsNext c past line needs bus
next_is c past line ev r needs bus enters spelled event reply needed is_line after = record {
  entry = record { event = ev; reply = r };
  rest = drop (length (answered_line ev r [])) line;
  good = record { spelled = spelled; version = six_takes (needs_of (record { event = ev; reply = r })); event = event; reply = reply };
  needed = needed;
  is_line = is_line;
  after = subst (IsAfter bus) (history-entered ev r past enters) after;
}
