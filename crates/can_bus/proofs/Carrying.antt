use Rattle.std.proofs.Common.{◌≡◌, ℕ, ◌<◌, List, ◌∷◌, length, refl, sym, subst, arith}
use Rattle.can_filter.specs.Filters.{CanFilter}
use Rattle.can_event.specs.declared.bus_config.BusConfig.{BusConfig}
use Rattle.can_event.specs.declared.entry.Entry.{Entry}
use Rattle.can_event.specs.declared.event.Event.{Event}
use Rattle.can_event.specs.declared.event.Event.TheVariants.{Open, SetFilters}
use Rattle.can_event.specs.declared.reply.Reply.{Reply}
use Rattle.can_event.specs.declared.reply.Reply.TheVariants as reply
use Rattle.can_event.specs.declared.refusal.Refusal.TheVariants as refusal
use Rattle.can_event.specs.declared.socket_id.SocketId.{SocketId}
use Rattle.can_bus.specs.Answer.{TakesMemory}
use Rattle.can_bus.specs.Changes.{Opens, Sets, Refilters}
use Rattle.can_bus.specs.Lean.{Carries, record_of}
use Rattle.can_bus.specs.Legal.{legal_reply}
use Rattle.can_bus.specs.Run.{IsAnswer, history_after}
use Rattle.can_bus.specs.State.{Parts, kept_parts, IsKept}
use Rattle.can_bus.proofs.Keeping.{Follows}
use Rattle.can_bus.proofs.Opening.{no_memory, opened_follows}
use Rattle.can_bus.proofs.Refusing.{never_full, never_no_memory}
use Rattle.can_bus.proofs.Setting.{filters_follow}

-- An event has the reply that the entries before it require, and the state after it is the one that the longer history
-- gives.

-- a legal reply is an answer, and enters the record
record IsNoted (c : BusConfig) (past : List Entry) (e : Event) (r : Reply) : Type 0 where
  answer : IsAnswer c past e r
  after : history_after e r past ≡ record { event = e; reply = r } ∷ past

noted : (c : BusConfig) (past : List Entry) (e : Event) (r : Reply) → length past < c.limit → r ≡ legal_reply c past e → IsNoted c past e r
noted c past e (reply.Refused refusal.RecordFull) room lawful = absurd (never_full c past e lawful)
noted c past e (reply.Refused refusal.NoMemory) room lawful = absurd (never_no_memory c past e lawful)
noted c past e _ room lawful = record { answer = (room, lawful); after = refl }

-- the state changed in this way, and this is the reply
pub carried : {w r : Reply} {parts parts' : Parts} (c : BusConfig) (past : List Entry) (e called : Event) (Changed : Parts → Type 0)
    → called ≡ e → IsKept (record_of c past) parts → length past < c.limit → Changed parts → w ≡ r
    → (Changed (kept_parts c past) → Follows c past (record { event = e; reply = r }) parts')
    → Carries c past called w parts'
carried {w} {r} {parts} {parts'} c past e called Changed is_event kept room changed is follows =
    let next = follows (subst Changed kept.of_parts changed) in
    let here = noted c past e r room next.lawful in
    subst (λ (x : Event). Carries c past x w parts') (sym is_event) (subst (λ (x : Reply). Carries c past e x parts') (sym is) (record {
      answer = here.answer;
      after = subst (λ (h : List Entry). IsKept (record_of c h) parts') (sym here.after) (record {
        of_parts = next.after;
        legal = (room, next.lawful, kept.legal);
        proper = kept.proper;
        room = omega arith;
      });
    }))

-- memory was refused, and nothing has changed
carried-no_memory : (c : BusConfig) (past : List Entry) (e : Event) (parts parts' : Parts) → IsKept (record_of c past) parts → length past < c.limit
    → parts' ≡ parts → TakesMemory e (legal_reply c past e) → Carries c past e (reply.Refused refusal.NoMemory) parts'
carried-no_memory c past e parts parts' kept room same takes = record { answer = (room, takes); after = subst (IsKept (record_of c past)) (sym same) kept }

-- a socket was opened, or that was refused
pub carried-open : (c : BusConfig) (past : List Entry) (i k : ℕ) (r : Reply) (parts parts' : Parts) → IsKept (record_of c past) parts → length past < c.limit
    → Opens parts i k r parts' → Carries c past (Open i k) r parts'
carried-open c past i k (reply.Refused refusal.NoMemory) parts parts' kept room opens =
    carried-no_memory c past (Open i k) parts parts' kept room opens.3 (no_memory c past i k parts' (subst (λ (p : Parts). Opens p i k (reply.Refused refusal.NoMemory) parts') kept.of_parts opens))
carried-open c past i k r parts parts' kept room opens =
    carried c past (Open i k) (Open i k) (λ (p : Parts). Opens p i k r parts') refl kept room opens refl (opened_follows c past i k r parts' (λ is. cc) kept.legal)

-- filters were set, or that was refused
pub carried-filters : (c : BusConfig) (past : List Entry) (s : SocketId) (fs : List CanFilter) (r : Reply) (parts parts' : Parts) → IsKept (record_of c past) parts → length past < c.limit
    → Refilters parts s.0 fs r parts' → Carries c past (SetFilters s fs) r parts'
carried-filters c past s fs (reply.Refused refusal.NoMemory) parts parts' kept room same = carried-no_memory c past (SetFilters s fs) parts parts' kept room same tt
carried-filters c past s fs r parts parts' kept room sets =
    carried c past (SetFilters s fs) (SetFilters s fs) (λ (p : Parts). Sets p s.0 (λ v. record v { filters = fs }) r parts') refl kept room sets refl (filters_follow c past s fs r parts')
