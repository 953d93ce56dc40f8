use Rattle.std.proofs.Common.{◌≡◌, ◌≤◌, ℕ, ◌+◌, ◌-◌, true, Result, length, sym, ap, subst, ◌∙◌, arith}
use Rattle.canbusd_c.specs.declared.local_bus.RunFault.{RunFault}
use Rattle.canbusd_c.specs.Locals.{Local, AreDueMade, AreLocalTries}
use Rattle.canbusd_c.proofs.Runs.{adds, ok_of}
use Rattle.canbusd_c.proofs.local_bus.LocalBus.run_to.Goals as goal

pub overflow_sub-result : goal.overflow_sub-result
overflow_sub-result c =
    let ok = ok_of c.make_due.result (sym c.is_err.ensures.value ∙ c.if-is_err.false) in
    let made = subst (λ (o : Result (Unit {0}) RunFault). AreDueMade c.args.moment c.args.self.now o c.make_due.new.self) ok.1 c.make_due.ensures in
    let longer = adds c.args.moment made.0 c.args.self.now c.make_due.new.self made.1 in
    let set = ap (λ (l : Local). length l.bus.journal.history) c.set_moment.ensures in
    let after = c.len.ensures in let before = c.len-before.ensures in
    omega (arith, longer, set, after, before)

pub returns : goal.returns
returns c =
    let ok = ok_of c.make_due.result (sym c.is_err.ensures.value ∙ c.if-is_err.false) in
    let made = subst (λ (o : Result (Unit {0}) RunFault). AreDueMade c.args.moment c.args.self.now o c.make_due.new.self) ok.1 c.make_due.ensures in
    let longer = adds c.args.moment made.0 c.args.self.now c.make_due.new.self made.1 in
    let set = ap (λ (l : Local). length l.bus.journal.history) c.set_moment.ensures in
    let after = c.len.ensures in let before = c.len-before.ensures in
    let count : made.0 ≡ c.len.result - c.len-before.result = omega (arith, longer, set, after, before) in (
      c.make_due.new.self,
      subst (λ (n : ℕ). AreLocalTries c.args.moment n c.args.self.now c.make_due.new.self) count made.1,
      made.2,
      c.set_moment.ensures,
      sym c.can_run.ensures ∙ c.if-not-can_run.false,
    )
