use Rattle.std.proofs.Common.{◌≡◌, ◌+◌, length, drop}
use Rattle.std.specs.Prelude.{IsTrue}
use Rattle.std.specs.List.{list_any}
use Rattle.can_fault.specs.Scripts.{lines_in}
use Rattle.can_rules.specs.Plans.{has_bytes}
use Rattle.can_rules.specs.RunFaults.{run_lines, run_spelling}
use Rattle.can_rules.proofs.run_faults.RunFaults.read.Given as goal

abbrev pub invariant-loop-line : goal.invariant-loop-line
invariant-loop-line l = record {
  number : l.number ≡ length l.yielded;
  names : l.faults.names ≡ l.fn.names;
  spelled : run_spelling l.fn.names l.text ≡ run_lines l.fn.names l.faults (l.number + 1) (drop (length l.yielded) (lines_in l.text));
  memory : IsTrue (list_any has_bytes (drop (length l.yielded) (lines_in l.text))) → IsTrue (list_any has_bytes (lines_in l.text));
}
