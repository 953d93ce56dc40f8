use Rattle.std.proofs.Common.{◌≡◌, ◌++◌, ◌∷◌, List, ℕ, true, Result, Ok, Err, OnOk, is_ok, if◌then◌else◌, ap, subst, sym, ◌∙◌}
use Rattle.can_event.specs.declared.entry.Entry.{Entry}
use Rattle.can_bus.specs.Lean.{Lean, IsAfter}
use Rattle.can_replay.specs.declared.wanted.Wanted.{Wanted}
use Rattle.can_replay.specs.Brought.{is_step}
use Rattle.can_replay.specs.EventsText.{asked_of, nothing_wanted, with_parts}
use Rattle.can_replay.specs.inner.Seen.{HasSeen}
use Rattle.can_replay.proofs.events_text.EventsText.write_parts.Goals as goal

when_ok : {A E : Type 0} (P : Type 0) (r : Result A E) (now more before : List ℕ) → now ≡ (if is_ok r then more else before) → (now ≡ more → P) → OnOk r P
when_ok P (Ok a) now more before is f = f is
when_ok P (Err e) now more before is f = tt

-- If no additional parts are wanted, no fault rule is queried.
none_asked : (w : Wanted) (e : Entry) → w ≡ nothing_wanted → w ≡ record w { faults = asked_of w.faults e }
unfolding asked_of
none_asked w e is = is ∙ ap (λ (x : Wanted). record x { faults = asked_of x.faults e }) (sym is)

pub returns-clause-written : goal.returns-clause-written
returns-clause-written c = when_ok _ c.extend_from_slice.result c.extend_from_slice.new.self.items (c.args.self.now.text.items ++ c.deref.result.now) c.args.self.now.text.items c.extend_from_slice.ensures.items (λ wrote past e saw after step good is.
    let old = c.args.self.now in
    let line = c.args.line.now in
    let config = c.args.audit.now.bus.config in
    let put = subst
    (λ (b : Lean). HasSeen b.config past old.before → IsAfter b (e ∷ past) → is_step e.event ≡ true → c.put_line.new.out.items ≡ c.clear.new.self.items ++ with_parts nothing_wanted b.config past e line)
    c.bus.ensures (c.in_ok-put_line.ensures past e) saw after step in (
      wrote ∙ ap (λ (x : List ℕ). old.text.items ++ x)
          (c.deref.ensures.value ∙ put ∙ ap (λ (x : List ℕ). x ++ with_parts nothing_wanted config past e line) c.clear.ensures.items ∙ ap (λ (w : Wanted). with_parts w config past e line) (sym c.requires)),
      none_asked old.wanted e c.requires,
    ))
