use Rattle.std.proofs.Common.{◌≡◌, length}
use Rattle.std.specs.Prelude.{All}
use Rattle.can_record_text.specs.Values.{HasLine}
use Rattle.can_record_text.specs.Spelling.{entry_lines}
use Rattle.can_record_text.proofs.record_reading.read_lines.Given as goal

abbrev pub invariant-loop-entry : goal.invariant-loop-entry
invariant-loop-entry l = record {
  lines : l.text ≡ entry_lines l.entries.items l.rest;
  have : All (HasLine l.version l.config) l.entries.items;
}

abbrev pub decreases-loop-entry : goal.decreases-loop-entry
decreases-loop-entry l = length l.rest
