use Rattle.std.proofs.Common.{◌≡◌, ◌≤◌, length}
use Rattle.std.specs.Prelude.{reverse}
use Rattle.std.specs.Io.KnownBytes.{Appends}
use Rattle.can_record.specs.Tapes.{tape}
use Rattle.can_logfile.specs.Log.{log_lines, joined}
use Rattle.can_logfile.proofs.Fronts.{front}
use Rattle.can_logfile.proofs.log_writing.write_entries.Given as goal

abbrev pub invariant-loop-place : goal.invariant-loop-place
invariant-loop-place g l = record {
  few : l.whole_lines ≤ l.place;
  count : l.whole_lines ≡ length (tape (front l.place (reverse l.entries.entries)));
  out : Appends (g.W.Write.contents l.fn.writer) (g.W.Write.contents l.writer) (joined (log_lines l.names (front l.place (reverse l.entries.entries))));
}
