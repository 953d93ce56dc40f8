use Rattle.std.proofs.Common.{◌≡◌, ◌+◌, ◌-◌, ◌++◌, ◌∙◌, ℕ, false, List, Option, Some, None, Err, ap, arith, append-nil, drop, is_some, length, length-drop, refl, subst, sym, take, take_all}
use Rattle.memchr.specs.Find.{IsFirstByte, is_byte}
use Rattle.can_event.specs.declared.bus_config.BusConfig.{BusConfig}
use Rattle.can_record_text.specs.RecordFaults.{Reads}
use Rattle.can_replay.specs.declared.wanted.Wanted.{Wanted}
use Rattle.can_replay.specs.EventTexts.{HasWritten}
use Rattle.can_replay.specs.TextAudits.{AreTaken, IsLine, MayFollow, bus_taken}
use Rattle.canbusd_audit.specs.Audited.{TakesMore}
use Rattle.canbusd_audit.proofs.HeldLines.{begins_wrong, fails_in, takes_more}
use Rattle.canbusd_audit.proofs.buffered.carry_held.Goals as goal

none_when : (o : Option BusConfig) → is_some o ≡ false → o ≡ None
none_when None is = refl
none_when (Some c) is = absurd cc

whole_rest : (xs : List ℕ) (n : ℕ) → take (length xs - n) (drop n xs) ≡ drop n xs
whole_rest xs n = take_all _ _ (omega (arith, length-drop n xs))

pub loop-place-init : goal.loop-place-init
loop-place-init c = record {
  within = omega arith;
  taken = λ w text events start. subst (λ (x : List ℕ). HasWritten w x events c.args.audit.now) (sym (append-nil text)) start;
  unknown = λ none. none;
  asked = refl;
}

pub returns-in-Err-clause-fault : goal.returns-in-Err-clause-fault
returns-in-Err-clause-fault c =
    let held = c.args.held.now in
    let len = c.loop-place.len in
    let place = c.in-Some.place in
    let found : IsFirstByte (is_byte 10) (drop len held) (Some place) = rw whole_rest at c.in-Some.ensures in
    let size : len + place + 1 - len ≡ place + 1 = omega arith in
    fails_in held len place c.args.audit.now c.loop-place.audit c.in-Err.fault found c.loop-place.invariant.taken
    (subst (λ (n : ℕ). (text after : List ℕ) → AreTaken text c.loop-place.audit → IsLine (take n (drop len held)) → MayFollow (take n (drop len held)) after → Reads (text ++ (take n (drop len held) ++ after)) (Err c.in-Err.fault)) size c.in-Err.ensures.fault)

pub returns-in-Err-clause-before : goal.returns-in-Err-clause-before
returns-in-Err-clause-before c =
    let held = c.args.held.now in
    let len = c.loop-place.len in
    let place = c.in-Some.place in
    let found : IsFirstByte (is_byte 10) (drop len held) (Some place) = rw whole_rest at c.in-Some.ensures in
    let size : len + place + 1 - len ≡ place + 1 = omega arith in (
      c.loop-place.audit,
      c.loop-place.invariant.taken,
      c.loop-place.invariant.unknown,
      c.loop-place.invariant.asked,
      c.in-Err.ensures.held,
      begins_wrong held len place c.loop-place.audit c.in-Err.fault found
          (subst (λ (n : ℕ). (text after : List ℕ) → AreTaken text c.loop-place.audit → IsLine (take n (drop len held)) → MayFollow (take n (drop len held)) after → Reads (text ++ (take n (drop len held) ++ after)) (Err c.in-Err.fault)) size c.in-Err.ensures.fault),
    )

-- the bus of the record is now known
pub returns-then-learned_bus-clause-taken : goal.returns-then-learned_bus-clause-taken
returns-then-learned_bus-clause-taken c = λ none.
    let held = c.args.held.now in
    let len = c.loop-place.len in
    let place = c.in-Some.place in
    let found : IsFirstByte (is_byte 10) (drop len held) (Some place) = rw whole_rest at c.in-Some.ensures in
    let size : len + place + 1 - len ≡ place + 1 = omega arith in
    let end : len + (place + 1) ≡ len + place + 1 = omega arith in
    subst (λ (n : ℕ). TakesMore c.args.audit.now (take n held) c.carry.new.self) end
    (takes_more held len place c.args.audit.now c.loop-place.audit c.carry.new.self found c.loop-place.invariant.taken
    (subst (λ (n : ℕ). (w : Wanted) (events text : List ℕ) → HasWritten w text events c.loop-place.audit → IsLine (take n (drop len held)) → HasWritten w (text ++ take n (drop len held)) events c.carry.new.self) size c.in-Ok.ensures.written))

pub loop-place-preserved : goal.loop-place-preserved
loop-place-preserved c =
    let held = c.args.held.now in
    let len = c.loop-place.len in
    let place = c.in-Some.place in
    let found : IsFirstByte (is_byte 10) (drop len held) (Some place) = rw whole_rest at c.in-Some.ensures in
    let size : len + place + 1 - len ≡ place + 1 = omega arith in
    let end : len + (place + 1) ≡ len + place + 1 = omega arith in
    record {
      within = omega (arith, found.0.high, length-drop len held);
      taken = subst (λ (n : ℕ). TakesMore c.args.audit.now (take n held) c.carry.new.self) end
          (takes_more held len place c.args.audit.now c.loop-place.audit c.carry.new.self found c.loop-place.invariant.taken
          (subst (λ (n : ℕ). (w : Wanted) (events text : List ℕ) → HasWritten w text events c.loop-place.audit → IsLine (take n (drop len held)) → HasWritten w (text ++ take n (drop len held)) events c.carry.new.self) size c.in-Ok.ensures.written));
      unknown = λ none. none_when (bus_taken c.carry.new.self.phase)
          (sym (c.learned_bus.ensures (c.knows_bus-was_known.ensures ∙ ap (λ (o : Option BusConfig). is_some o) none)) ∙ c.if-learned_bus.false);
      asked = c.carry.ensures.events ∙ c.loop-place.invariant.asked;
    }
