use Rattle.std.proofs.Common.{◌≡◌, ◌∙◌, ◌++◌, [], Option, Some, None, drop, length, subst, sym}
use Rattle.std.specs.Prelude.{IsSome}
use Rattle.can_record_text.specs.Spelling.{entry_line, entry_words}
use Rattle.can_record_text.proofs.Again.{spell-rest}
use Rattle.can_replay.specs.declared.text_fault.WrongLine.{WrongLine}
use Rattle.can_replay.specs.inner.EntryAudits.{IsGoing}
use Rattle.can_replay.proofs.Taking.{behind_more}
use Rattle.can_replay.proofs.entry_audit.EntryAudit.read_on.Goals as goal

not_none : (o : Option WrongLine) → IsSome o → o ≡ None → ⊥
not_none None some is = absurd cc
not_none (Some w) some is = absurd cc

pub returns : goal.returns
returns c = λ text g going is.
    let old = c.args.self.now in
    let e = c.in_ok-entry.entry in
    let line = c.args.line.now in
    let rest = drop (length (entry_line e [])) line in
    let found = c.in_ok-entry.ensures.found in
    subst (IsGoing (text ++ line)) (sym c.add.ensures)
    (behind_more text line rest old c.of.result e g (not_none old.wrong c.requires.wrong) going is found.good (found.begins ∙ spell-rest (entry_words e) rest) c.of.ensures)
