use Rattle.can_fault.proofs.LineGrammar.{line-lacks, lacks-read}
use Rattle.can_fault.proofs.laws.an_unknown_interface_is_the_only_fault_of_its_line.Goals as goal

pub returns : goal.returns
returns c = λ names line. (line-lacks names line, lacks-read names line)
