use Rattle.std.proofs.Common.{◌++◌, List, ℕ, sym, ap, ◌∙◌, arith}
use Rattle.std.proofs.lemmas.Fmt.{decimal_digit}
use Rattle.can_proto.proofs.spelling.push_length.Goals as goal

pub returns-clause-text : goal.returns-clause-text
returns-clause-text c = c.push.ensures.text ∙ ap (λ (t : List ℕ). c.args.text.now ++ t) (sym (decimal_digit c.args.len (omega (arith, c.requires.small))))
