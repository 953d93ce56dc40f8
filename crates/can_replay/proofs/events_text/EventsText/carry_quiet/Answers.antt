use Rattle.std.proofs.Common.{sym, ◌++◌, ◌∙◌}
use Rattle.can_replay.proofs.EventLines.{nothing_legal, one_more, plain_more, stays_written}
use Rattle.can_replay.proofs.events_text.EventsText.carry_quiet.Goals as goal

pub returns-then-not-is_legal_yet-clause-written : goal.returns-then-not-is_legal_yet-clause-written
returns-then-not-is_legal_yet-clause-written c = λ w text cleared g h is complete wanted.
    stays_written w text c.args.line.now c.args.audit.now c.carry.new.self g h (cleared ++ c.args.self.now.text.items) c.args.self.now.wanted
    (nothing_legal text c.args.line.now c.args.audit.now c.carry.new.self g h is c.requires.legal (sym c.is_legal_yet.ensures ∙ c.if-not-is_legal_yet.true)) complete wanted

pub returns-in-Ok-clause-written : goal.returns-in-Ok-clause-written
returns-in-Ok-clause-written c = λ w text cleared g h is complete wanted.
    let line = c.args.line.now in
    let one = one_more text line c.args.audit.now c.carry.new.self g h is c.requires.legal (sym c.is_legal_yet.ensures ∙ c.if-not-is_legal_yet.false) in
    plain_more w text line c.args.audit.now c.carry.new.self g h cleared c.args.self.now.text.items c.extend_from_slice.new.self.items c.args.self.now.wanted one (c.requires.quiet one.entry one.is_line) c.in-Ok.ensures.items complete wanted
