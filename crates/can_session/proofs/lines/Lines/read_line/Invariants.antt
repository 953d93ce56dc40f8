use Rattle.std.proofs.Common.{◌≡◌, ◌≤◌, ◌-◌, false, length, take}
use Rattle.std.specs.List.{list_any}
use Rattle.can_session.specs.Lines.{is_lf, IsWithinLimits, Waits}
use Rattle.can_session.proofs.lines.Lines.read_line.Given as goal

abbrev pub invariant-loop-len : goal.invariant-loop-len
invariant-loop-len g l = record {
  within : IsWithinLimits l.self;
  waits : Waits l.fn.self l.self;
  fine : l.self.fault ≡ l.fn.self.fault;
  began : l.fn.self.ended ≡ false;
  going : l.self.ended ≡ false;
  searched : l.searched ≤ length l.self.held;
  short : l.searched ≤ 4096;
  unbroken : list_any is_lf (take l.searched l.self.held) ≡ false;
}

abbrev pub decreases-loop-len : goal.decreases-loop-len
decreases-loop-len g l = 16777216 - l.self.reads
