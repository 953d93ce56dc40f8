use Rattle.std.proofs.Common.{◌∙◌, ◌/◌, refl}
use Rattle.can_record.specs.PackedEntry.{tried_in, stamp_moment}
use Rattle.can_record.specs.Verdicts.{verdict_in}
use Rattle.can_record_text.proofs.TriedLines.{tried_line}
use Rattle.can_record_text.proofs.packed_lines.push_entry_attempt.Goals as goal

pub returns-else-is_remote : goal.returns-else-is_remote
returns-else-is_remote c =
    let k = c.in-Tried in
    λ frames yes. rw k.is (tried_line (stamp_moment k.stamp) (verdict_in (k.end / 4) k.named) (tried_in k.end k.word k.number k.accepted k.restarted k.bytes k.stamp)
    c.push_attempt-in-Tried.new.line c.push_winner.new.line c.push_packed.new.line c.push_outcome.new.line
    (c.push_attempt-in-Tried.ensures.text ∙ rw (c.moment.ensures, c.verdict.ensures) refl)
    (c.push_winner.ensures.text ∙ rw (c.winner.ensures, c.from.ensures) refl)
    (c.push_packed.ensures.text ∙ rw c.len.ensures refl)
    (c.push_outcome.ensures ∙ rw (c.class.ensures, c.off.ensures) refl))
