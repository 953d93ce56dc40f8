use Rattle.std.proofs.Common.{◌≡◌, ◌<◌, List, ◌∷◌, length, refl, sym, ap, ◌∙◌, subst, arith}
use Rattle.can_filter.specs.Filters.{CanFilter}
use Rattle.can_event.specs.declared.bus_config.BusConfig.{BusConfig}
use Rattle.can_event.specs.declared.entry.Entry.{Entry}
use Rattle.can_event.specs.declared.event.Event.{Event}
use Rattle.can_event.specs.declared.event.Event.TheVariants.{SetFilters}
use Rattle.can_event.specs.declared.reply.Reply.{Reply}
use Rattle.can_event.specs.declared.reply.Reply.TheVariants as reply
use Rattle.can_event.specs.declared.refusal.Refusal.TheVariants as refusal
use Rattle.can_event.specs.declared.socket_id.SocketId.{SocketId}
use Rattle.can_event.specs.Replies.{Enters}
use Rattle.can_event.specs.Spelled.{IsSpelled}
use Rattle.can_record.specs.Journal.{Journal, Kept}
use Rattle.can_bus.specs.Lean.{Carries, IsReady, record_of}
use Rattle.can_bus.specs.Legal.{legal_reply}
use Rattle.can_bus.specs.Run.{IsAnswer, IsAnswered, history_after}
use Rattle.can_bus.specs.State.{Parts, kept_parts, IsKept}
use Rattle.can_record.specs.Journal.{IsLonger}
use Rattle.can_bus.proofs.Fitting.{legal_has_line, answer_suits}
use Rattle.can_bus.proofs.Keeping.{kept_more, noted}
use Rattle.can_bus.proofs.Narrow.{SetsFilters}

-- A bus answers an event as its state does, and records the event.

-- ---- facts about a reply from an answer

-- a reply that enters the record is the legal one, and the record had room
pub entered_is_legal : (c : BusConfig) (past : List Entry) (e : Event) (r : Reply) → IsAnswer c past e r → Enters r → (length past < c.limit) × (r ≡ legal_reply c past e)
entered_is_legal c past e (reply.Refused refusal.RecordFull) answer enters = absurd (cc (enters))
entered_is_legal c past e (reply.Refused refusal.NoMemory) answer enters = absurd (cc (enters))
entered_is_legal c past e r answer enters = answer

-- an answer that enters the record has a line
pub answer_is_spelled : (c : BusConfig) (past : List Entry) (e : Event) (r : Reply) → IsAnswer c past e r → Enters r → IsSpelled c (record { event = e; reply = r })
answer_is_spelled c past e r answer enters = legal_has_line c past e r (entered_is_legal c past e r answer enters).1

-- the entry is added to the history
pub history-entered : (e : Event) (r : Reply) (past : List Entry) → Enters r → history_after e r past ≡ record { event = e; reply = r } ∷ past
history-entered e (reply.Refused refusal.RecordFull) past enters = absurd (cc (enters))
history-entered e (reply.Refused refusal.NoMemory) past enters = absurd (cc (enters))
history-entered e r past enters = refl

-- ---- the state and the record

-- the facts about a record also hold for the record that its history makes
pub of_history : (j : Kept) (parts : Parts) → IsKept j parts → IsKept (record_of j.config j.history) parts
of_history j parts kept = record { of_parts = kept.of_parts; legal = kept.legal; proper = kept.proper; room = omega arith }

-- if the record has room, one more entry is allowed
pub is_ready : (j : Kept) (parts : Parts) (c : BusConfig) → IsKept j parts → length j.history < j.config.limit → c ≡ j.config → IsReady c parts
is_ready j parts c kept room same = subst (λ (k : BusConfig). IsReady k parts) (sym same) (record { past = j.history; kept = of_history j parts kept; room = room })

-- the state carried the event out, for any entries
abbrev pub CarriesAll : BusConfig → Parts → Event → Reply → Parts → Type 0
CarriesAll c parts e r new = (past : List Entry) → IsKept (record_of c past) parts → length past < c.limit → Carries c past e r new

pub carries : {j : Kept} {parts new : Parts} {c : BusConfig} {e called : Event} {r : Reply} → IsKept j parts → length j.history < j.config.limit → c ≡ j.config
    → called ≡ e → CarriesAll c parts called r new → Carries j.config j.history e r new
carries {j} {parts} {new} {c} {e} {called} {r} kept room same is all =
    subst (λ (x : Event). Carries j.config j.history x r new) is ((subst (λ (k : BusConfig). CarriesAll k parts called r new) same all) j.history (of_history j parts kept) room)

-- an event that a bus answered: the new record and state, and the facts about the history
pub record KeepsAnswer (before : Journal) (e : Event) (r : Reply) (new : Kept) (parts : Parts) : Type 0 where
  pub kept : IsKept new parts
  pub answered : IsAnswered before e r (record { config = new.config; history = new.history })

-- the record has one more entry
pub entered : {j new : Kept} {before : Journal} {parts parts' : Parts} {e : Event} {r : Reply}
    → ◌≡◌ {A = Journal} (record { config = j.config; history = j.history }) before → IsKept j parts
    → Carries j.config j.history e r parts' → Enters r → IsLonger j (record { event = e; reply = r }) new → KeepsAnswer before e r new parts'
entered {j} {new} {before} {parts} {parts'} {e} {r} view kept carries enters longer =
    let here : Entry = record { event = e; reply = r } in
    let legal = entered_is_legal j.config j.history e r carries.answer enters in
    let is_noted = noted j new before here view longer legal.0 legal.1 in
    record {
      kept = kept_more j new here parts parts' kept longer legal.0 (record { lawful = legal.1; after = carries.after.of_parts ∙ ap (kept_parts j.config) (history-entered e r j.history enters) });
      answered = record {
        answer = subst (λ (b : Journal). IsAnswer b.config b.history e r) view carries.answer;
        after = is_noted.new_is ∙ ap (λ (h : List Entry). record before { history = h }) (sym (history-entered e r before.history enters));
        suits = answer_suits j.config j.history e r carries.answer;
      };
    }

-- ---- events that do not set filters

pub not_filters : (e : Event) → ((s : SocketId) (fs : List CanFilter) → e ≡ SetFilters s fs → ⊥) → ¬ SetsFilters e
not_filters (SetFilters s fs) other sets = other s fs refl
not_filters _ other sets = absurd sets
