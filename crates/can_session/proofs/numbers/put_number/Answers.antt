use Rattle.std.proofs.Common.{◌++◌, List, ℕ, sym, ap, ◌∙◌, arith}
use Rattle.std.proofs.lemmas.Fmt.{decimal_digit}
use Rattle.can_session.proofs.numbers.put_number.Goals as goal

pub returns-then-number-lt10 : goal.returns-then-number-lt10
returns-then-number-lt10 c = c.in_ok-push.ensures.items ∙ ap (λ (t : List ℕ). c.args.said.now.items ++ t) (sym (decimal_digit c.args.number (omega (arith, c.if-number-lt10.true))))
