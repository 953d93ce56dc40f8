use Rattle.can_bus.proofs.Fitting.{legal-spelled}
use Rattle.can_bus.proofs.laws.legal_entries_have_lines.Goals as goal

pub returns : goal.returns
returns c past legal = legal-spelled c.args.config past legal
