use Rattle.std.proofs.Common.{Err, Ok, OnOk, Result, sym, ◌++◌, ◌∙◌}
use Rattle.can_replay.proofs.EventLines.{nothing_more, stays_written}
use Rattle.can_replay.proofs.events_text.EventsText.carry.Goals as goal

so : {A E : Type 0} (P : Type 0) (r : Result A E) → P → OnOk r P
so P (Ok a) h = h
so P (Err e) h = tt

pub returns-then-not-is_legal_yet-clause-written : goal.returns-then-not-is_legal_yet-clause-written
returns-then-not-is_legal_yet-clause-written c = so _ c.carry.result (λ w text cleared g h is complete wanted.
    stays_written w text c.args.line.now c.args.audit.now c.carry.new.self g h (cleared ++ c.args.self.now.text.items) c.args.self.now.wanted
    (nothing_more text c.args.line.now c.args.audit.now c.carry.new.self g h is (sym c.is_legal_yet.ensures ∙ c.if-not-is_legal_yet.true)) complete wanted)
