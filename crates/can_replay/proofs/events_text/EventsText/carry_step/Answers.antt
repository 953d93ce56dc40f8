use Rattle.std.proofs.Common.{subst, sym, ◌++◌, ◌∙◌}
use Rattle.can_bus.specs.Lean.{Lean, IsAfter}
use Rattle.can_replay.specs.inner.Seen.{HasSeen}
use Rattle.can_replay.proofs.EventLines.{nothing_legal, one_more, stays_written, step_more}
use Rattle.can_replay.proofs.events_text.EventsText.carry_step.Goals as goal

pub returns-then-not-is_legal_yet-clause-written : goal.returns-then-not-is_legal_yet-clause-written
returns-then-not-is_legal_yet-clause-written c = λ w text cleared g h is complete wanted.
    stays_written w text c.args.line.now c.args.audit.now c.carry.new.self g h (cleared ++ c.args.self.now.text.items) c.args.self.now.wanted
    (nothing_legal text c.args.line.now c.args.audit.now c.carry.new.self g h is c.requires.legal (sym c.is_legal_yet.ensures ∙ c.if-not-is_legal_yet.true)) complete wanted

pub returns-in-Ok-write_step-clause-written : goal.returns-in-Ok-write_step-clause-written
returns-in-Ok-write_step-clause-written c = λ w text cleared g h is complete wanted.
    let line = c.args.line.now in
    let one = one_more text line c.args.audit.now c.carry.new.self g h is c.requires.legal (sym c.is_legal_yet.ensures ∙ c.if-not-is_legal_yet.false) in
    let saw = subst (λ (b : Lean). IsAfter b one.past → HasSeen b.config one.past c.look.new.self) c.bus.ensures (c.in-Ok.ensures one.past) one.before in
    step_more w text line c.args.audit.now c.carry.new.self g h cleared (record c.args.self.now { before = c.look.new.self }) c.write_step.new.self one (c.requires.step one.entry one.is_line) saw c.in-Ok-write_step.ensures.written complete wanted
