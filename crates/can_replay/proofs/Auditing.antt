use Rattle.std.proofs.Common.{◌≡◌, ◌≢◌, ℕ, ◌+◌, ◌<◌, ◌≤◌, zero, suc, nat_le, List, [], ◌∷◌, length, get_or, take, reverse, Some, None, inl, inr, arith, refl, sym, ap, ◌∙◌, subst}
use Rattle.std.proofs.lemmas.Bool.{cond-true, cond-false, le-leb, lt-leb, cases_lt}
use Rattle.std.proofs.lemmas.List.{length-reverse, length-take-le, reverse-reverse, take_all}
use Rattle.std.proofs.lemmas.Option.{slice_get_read, slice_get_within, get_or_from_slice_get}
use Rattle.can_event.specs.declared.bus_config.BusConfig.{BusConfig}
use Rattle.can_event.specs.declared.entry.Entry.{Entry}
use Rattle.can_event.specs.declared.event.Event.{Event}
use Rattle.can_event.specs.declared.reply.Reply.{Reply}
use Rattle.can_event.specs.declared.attempt.Attempt.TheVariants as attempt
use Rattle.can_event.specs.declared.reply.Reply.TheVariants as reply
use Rattle.can_event.specs.declared.refusal.Refusal.TheVariants as refusal
use Rattle.can_bus.specs.Lean.{Lean, IsAfter}
use Rattle.can_event.specs.Events.{IsConfig}
use Rattle.can_event.specs.Spelled.{FitsReply}
use Rattle.can_bus.specs.Legal.{legal_reply, IsLegal}
use Rattle.can_bus.specs.Run.{IsAnswer, history_after}
use Rattle.can_replay.specs.declared.audits.AuditFault.{AuditFault}
use Rattle.can_replay.specs.declared.audits.AuditFault.TheVariants as fault
use Rattle.can_replay.specs.Audits.{IsFirstWrongEntry, IsToldWrong, Blames, fault_at}
use Rattle.can_replay.specs.Histories.{before}
use Rattle.can_replay.proofs.EntriesBefore.{before_more, legal_front}

-- A bus carries out the entries in order, as long as they are legal.

-- Entry k is read, after a legal history.
record Read (c : BusConfig) (es : List Entry) (k : ℕ) (e : Entry) : Type 0 where
  below : k < length es
  read : e ≡ get_or es k e
  legal : IsLegal c (before es k)

-- An entry at or past the limit is wrong, and no reply would be legal there.
past_limit : (c : BusConfig) (es : List Entry) (k : ℕ) (e : Entry) → Read c es k e → c.limit ≤ k → IsToldWrong c es k None
past_limit c es k e at past = record {
  first = record {
    entry = e;
    there = slice_get_read es (length es) k e refl at.below at.read;
    legal_before = at.legal;
    wrong = inl past;
  };
  is_allowed = sym (cond-true (nat_le c.limit k) _ _ (le-leb c.limit k past));
}

-- An entry is wrong if its reply differs from the legal one.
other_reply : (c : BusConfig) (es : List Entry) (k : ℕ) (e : Entry) (r : Reply) → Read c es k e → k < c.limit → r ≡ legal_reply c (before es k) e.event → r ≢ e.reply → IsToldWrong c es k (Some r)
other_reply c es k e r at room lawful other = record {
  first = record {
    entry = e;
    there = slice_get_read es (length es) k e refl at.below at.read;
    legal_before = at.legal;
    wrong = inr (λ same. other (lawful ∙ sym same));
  };
  is_allowed = ap Some lawful ∙ sym (cond-false (nat_le c.limit k) _ _ (lt-leb c.limit k room));
}

count_before : (es : List Entry) (k : ℕ) → k < length es → length (before es k) ≡ k
count_before es k lt = length-reverse (take k es) ∙ length-take-le k es (omega (arith, lt))

blamed_at : (c : BusConfig) (es : List Entry) (k : ℕ) (e : Entry) (r : Reply) → Read c es k e → IsAnswer c (before es k) e.event r → r ≢ e.reply → Blames c es (fault_at k r)
blamed_at c es k e (reply.Refused refusal.RecordFull) at is other = past_limit c es k e at (omega (arith, is, count_before es k at.below))
blamed_at c es k e (reply.Refused refusal.NoMemory) at is other = tt
blamed_at c es k e (reply.Refused refusal.NoInterface) at is other = other_reply c es k e _ at (omega (arith, is.0, count_before es k at.below)) is.1 other
blamed_at c es k e (reply.Refused refusal.BadCapacity) at is other = other_reply c es k e _ at (omega (arith, is.0, count_before es k at.below)) is.1 other
blamed_at c es k e (reply.Refused refusal.TooManySockets) at is other = other_reply c es k e _ at (omega (arith, is.0, count_before es k at.below)) is.1 other
blamed_at c es k e (reply.Refused refusal.NoSocket) at is other = other_reply c es k e _ at (omega (arith, is.0, count_before es k at.below)) is.1 other
blamed_at c es k e (reply.Refused refusal.FdOff) at is other = other_reply c es k e _ at (omega (arith, is.0, count_before es k at.below)) is.1 other
blamed_at c es k e (reply.Refused refusal.BusOff) at is other = other_reply c es k e _ at (omega (arith, is.0, count_before es k at.below)) is.1 other
blamed_at c es k e (reply.Refused refusal.NoBuffers) at is other = other_reply c es k e _ at (omega (arith, is.0, count_before es k at.below)) is.1 other
blamed_at c es k e (reply.Refused refusal.NotBusOff) at is other = other_reply c es k e _ at (omega (arith, is.0, count_before es k at.below)) is.1 other
blamed_at c es k e (reply.Refused refusal.Down) at is other = other_reply c es k e _ at (omega (arith, is.0, count_before es k at.below)) is.1 other
blamed_at c es k e (reply.Opened s) at is other = other_reply c es k e _ at (omega (arith, is.0, count_before es k at.below)) is.1 other
blamed_at c es k e (reply.Closed n) at is other = other_reply c es k e _ at (omega (arith, is.0, count_before es k at.below)) is.1 other
blamed_at c es k e reply.Done at is other = other_reply c es k e _ at (omega (arith, is.0, count_before es k at.below)) is.1 other
blamed_at c es k e (reply.Sent n) at is other = other_reply c es k e _ at (omega (arith, is.0, count_before es k at.below)) is.1 other
blamed_at c es k e (reply.Received x) at is other = other_reply c es k e _ at (omega (arith, is.0, count_before es k at.below)) is.1 other
blamed_at c es k e (reply.Attempted (attempt.Idle set)) at is other = other_reply c es k e _ at (omega (arith, is.0, count_before es k at.below)) is.1 other
blamed_at c es k e (reply.Attempted (attempt.Tried t)) at is other = other_reply c es k e _ at (omega (arith, is.0, count_before es k at.below)) is.1 other

-- Entry k was carried out: the bus answered its event with this reply.
pub record Turn (c : BusConfig) (es : List Entry) (k : ℕ) (e : Entry) (bus : Lean) (r : Reply) : Type 0 where
  pub below : k < length es
  pub read : e ≡ get_or es k e
  pub config : bus.config ≡ c
  pub is_after : IsAfter bus (before es k)
  pub answer : (past : List Entry) → IsAfter bus past → IsAnswer bus.config past e.event r

-- The bus's reply differs from the entry's reply: the audit reports this fault.
pub blamed : (c : BusConfig) (es : List Entry) (k : ℕ) (e : Entry) (bus : Lean) (r : Reply) → Turn c es k e bus r → r ≢ e.reply → Blames c es (fault_at k r)
blamed c es k e bus r t other =
    let at : Read c es k e = record { below = t.below; read = t.read; legal = subst (λ (d : BusConfig). IsLegal d (before es k)) t.config t.is_after.kept.legal } in
    blamed_at c es k e r at (subst (λ (d : BusConfig). IsAnswer d (before es k) e.event r) t.config (t.answer (before es k) t.is_after)) other

-- An entry of a record extends the history.
entered : (v : Event) (r : Reply) (past : List Entry) → FitsReply v r → history_after v r past ≡ record { event = v; reply = r } ∷ past
entered v (reply.Refused refusal.RecordFull) past fits = absurd (cc (fits))
entered v (reply.Refused refusal.NoMemory) past fits = absurd (cc (fits))
entered v r past fits = refl

-- The bus's reply equals the entry's reply: the bus continues with the next entry.
pub replayed_more : (es : List Entry) (k : ℕ) (e : Entry) (bus after : Lean) (r : Reply) → k < length es → e ≡ get_or es k e → FitsReply e.event e.reply → r ≡ e.reply → IsAfter bus (before es k)
    → ((past : List Entry) → IsAfter bus past → IsAfter after (history_after e.event r past)) → IsAfter after (before es (k + 1))
replayed_more es k e bus after r below read fits same so_far more =
    let noted : history_after e.event r (before es k) ≡ before es (k + 1) =
    ap (λ (q : Reply). history_after e.event q (before es k)) same ∙ entered e.event e.reply (before es k) fits ∙ sym (before_more es k e below read) in
    subst (IsAfter after) noted (more (before es k) so_far)

-- If all entries are carried out, they are legal.
pub all_legal : (c : BusConfig) (past : List Entry) (k : ℕ) (bus : Lean) → length past ≤ k → bus.config ≡ c → IsAfter bus (before (reverse past) k) → IsLegal c past
all_legal c past k bus end config so_far =
    let whole : before (reverse past) k ≡ past = ap reverse (take_all k (reverse past) (omega (arith, length-reverse past, end))) ∙ reverse-reverse past in
    subst (IsLegal c) whole (subst (λ (d : BusConfig). IsLegal d (before (reverse past) k)) config so_far.kept.legal)

-- ---- the result

-- A legal history does not end with a wrong entry.
pub last-right : (c : BusConfig) (es : List Entry) (k : ℕ) → IsLegal c (before es (k + 1)) → IsFirstWrongEntry c es k → ⊥
last-right c es k legal f =
    let below = slice_get_within es k f.entry f.there in
    let read = get_or_from_slice_get es k f.entry f.entry f.there in
    let here = subst (IsLegal c) (before_more es k f.entry below (sym read)) legal in
    elim f.wrong [
      | inl past ↦ absurd (omega (arith, past, here.0, length-reverse (take k es), length-take-le k es (omega (arith, below))))
      | inr other ↦ other here.1
    ]

-- No entry of a legal history is wrong.
pub none-wrong : (c : BusConfig) (es : List Entry) (k : ℕ) → IsLegal c (reverse es) → IsFirstWrongEntry c es k → ⊥
none-wrong c es k legal f = last-right c es k (legal_front c es (k + 1) legal) f

take_take : (es : List Entry) (j k : ℕ) → j ≤ k → take j (take k es) ≡ take j es
take_take es zero k le = refl
take_take [] (suc j) zero le = refl
take_take [] (suc j) (suc k) le = refl
take_take (e ∷ es) (suc j) zero le = absurd (omega (arith, le))
take_take (e ∷ es) (suc j) (suc k) le = ap (λ (xs : List Entry). e ∷ xs) (take_take es j k (omega (arith, le)))

-- No entry before the first wrong entry is itself a first wrong entry.
none-before : (c : BusConfig) (es : List Entry) (j k : ℕ) → j < k → IsFirstWrongEntry c es j → IsFirstWrongEntry c es k → ⊥
none-before c es j k lt f g =
    let all = legal_front c (take k es) (j + 1) g.legal_before in
    last-right c es j (subst (λ (xs : List Entry). IsLegal c (reverse xs)) (take_take es (j + 1) k (omega (arith, lt))) all) f

pub one-first : (c : BusConfig) (es : List Entry) (j k : ℕ) → IsFirstWrongEntry c es j → IsFirstWrongEntry c es k → j ≡ k
one-first c es j k f g =
    elim (cases_lt j k) [
      | inl lt ↦ absurd (none-before c es j k lt f g)
      | inr le ↦ elim (cases_lt k j) [
        | inl lt ↦ absurd (none-before c es k j lt g f)
        | inr ge ↦ omega (arith, le, ge)
      ]
    ]

-- The only fault for a legal history is lack of memory.
pub spared : (c : BusConfig) (past : List Entry) (why : AuditFault) → IsConfig c → Blames c (reverse past) why → IsLegal c past → why ≡ fault.NoMemory
spared c past (fault.Wrong k legal) proper told h = absurd (none-wrong c (reverse past) k (subst (IsLegal c) (sym (reverse-reverse past)) h) told.first)
spared c past fault.NoMemory proper told h = refl
