use Rattle.std.proofs.Common.{not, rules, tests}
use Rattle.std.proofs.lemmas.List.Elements.{filter_from_retain}
use Rattle.can_rules.specs.Rules.{is_used_up}
use Rattle.can_rules.proofs.rules.keep_unused.Goals as goal

pub returns-clause-unused : goal.returns-clause-unused
returns-clause-unused c = filter_from_retain _ (λ rule. not (is_used_up rule)) (λ p x b q said. search (rules, tests)) _ _ _ c.retain.ensures.filtered
