use Rattle.can_fault.proofs.LineGrammar.{line-spelled, grammar-read}
use Rattle.can_fault.proofs.laws.a_line_is_read_as_it_is_spelled.Goals as goal

pub returns : goal.returns
returns c = λ names line attempt verdict. (line-spelled names line attempt verdict, grammar-read names line attempt verdict)
