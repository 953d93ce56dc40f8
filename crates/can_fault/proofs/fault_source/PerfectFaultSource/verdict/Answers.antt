use Rattle.std.proofs.Common.{rules}
use Rattle.std.specs.FinMap.{gets}
use Rattle.can_fault.proofs.fault_source.PerfectFaultSource.verdict.Goals as goal

pub returns-clause-answer : goal.returns-clause-answer
returns-clause-answer c = grind (gets, rules)
