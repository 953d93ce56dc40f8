use Rattle.std.proofs.Common.{[], take}
use Rattle.std.specs.Io.KnownBytes.{Appends}
use Rattle.can_record_text.specs.Spelling.{entry_lines}
use Rattle.can_record_text.proofs.long_writing.write_block.Given as goal

abbrev pub invariant-loop-place : goal.invariant-loop-place
invariant-loop-place g l = Appends (g.W.Write.contents l.initial.writer) (g.W.Write.contents l.writer) (entry_lines (take l.place l.block.entries) [])
