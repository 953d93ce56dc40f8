use Rattle.std.proofs.Common.{◌≡◌, take}
use Rattle.can_record_text.specs.Spelling.{all_needs}
use Rattle.can_record_text.proofs.needs.Needs.of_entries.Given as goal

abbrev pub invariant-loop-entry : goal.invariant-loop-entry
invariant-loop-entry l = l.needs ≡ all_needs (take l.entry-index l.entries)
