use Rattle.std.proofs.Common.{◌≡◌, ◌+◌, length, drop, map}
use Rattle.std.specs.Prelude.{IsTrue}
use Rattle.can_fault.specs.Scripts.{lines_in, line_spelling, sayings, spelled_after, script_spelling, takes_memory}
use Rattle.can_fault.proofs.script.Script.read.Given as goal

abbrev pub invariant-loop-line : goal.invariant-loop-line
invariant-loop-line l = record {
  number : l.number ≡ length l.yielded;
  spelled : script_spelling l.names l.text ≡ spelled_after l.script (l.number + 1) (map (line_spelling l.names) (drop (length l.yielded) (lines_in l.text)));
  memory : IsTrue (takes_memory (map (line_spelling l.names) (drop (length l.yielded) (lines_in l.text)))) → IsTrue (takes_memory (sayings l.names l.text));
}
