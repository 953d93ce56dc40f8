use Rattle.std.proofs.Common.{arith}
use Rattle.can_arbiter.proofs.Moving.{none_held}
use Rattle.can_arbiter.proofs.index_arbiter.place_of.Goals as goal

pub returns-clause-none : goal.returns-clause-none
returns-clause-none c = λ _. none_held c.args.row.now c.args.iface (λ k inside. c.loop-place.invariant.apart k (omega (arith, inside, c.loop-place-test.false)))
