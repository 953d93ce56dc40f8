use Rattle.std.proofs.Common.{◌≡◌, reverse, take}
use Rattle.can_record_text.specs.Spelling.{all_needs}
use Rattle.can_record_text.proofs.needs.Needs.of_record.Given as goal

abbrev pub invariant-loop-place : goal.invariant-loop-place
invariant-loop-place l = l.needs ≡ all_needs (take l.place (reverse l.record.history))
