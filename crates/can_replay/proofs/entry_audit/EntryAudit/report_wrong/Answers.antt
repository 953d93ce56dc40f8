use Rattle.std.proofs.Common.{◌∙◌, ◌++◌, [], Some, drop, length, refl, subst, sym}
use Rattle.can_record_text.specs.Spelling.{entry_line, entry_words}
use Rattle.can_record_text.proofs.Again.{spell-rest}
use Rattle.can_replay.specs.declared.entry_audit.EntryAudit.{EntryAudit}
use Rattle.can_replay.specs.inner.EntryAudits.{IsGoing}
use Rattle.can_replay.proofs.Taking.{wrong_here}
use Rattle.can_replay.proofs.entry_audit.EntryAudit.report_wrong.Goals as goal

pub returns : goal.returns
returns c = λ text read going config is other.
    let old = c.args.self.now in
    let e = c.in_ok-entry.entry in
    let line = c.args.line.now in
    let rest = drop (length (entry_line e [])) line in
    let found = c.in_ok-entry.ensures.found in
    subst (λ (n : EntryAudit). IsGoing (text ++ line) (record n { wrong = Some (record { place = old.count; entry = e; legal = c.args.legal; limit = n.config.limit }) })) (sym c.add.ensures)
    (wrong_here text line rest old c.of-needs.result e e c.args.legal old.config.limit read c.requires.legal going config is other found.good (found.begins ∙ spell-rest (entry_words e) rest) c.of-needs.ensures refl refl)
