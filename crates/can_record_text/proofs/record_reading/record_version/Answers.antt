use Rattle.std.proofs.Common.{inr, drop, length, subst}
use Rattle.can_record_text.specs.Spelling.{first_line}
use Rattle.can_record_text.specs.Texts.{StartsWith}
use Rattle.can_record_text.specs.declared.version.Version.{Version}
use Rattle.can_record_text.specs.declared.version.Version.TheVariants as version
use Rattle.can_record_text.proofs.record_reading.record_version.Goals as goal

pub returns-in-Some-Four-clause-only : goal.returns-in-Some-Four-clause-only
returns-in-Some-Four-clause-only c = λ none.
    let text = c.args.text.now in
    inr (drop (length (first_line version.Four)) text, subst (λ (v : Version). StartsWith (first_line v) text) c.in-Some-Four.field-0-is c.in-Some-Four.ensures.found)
