use Rattle.std.proofs.Common.{◌≡◌, ℕ, reverse, ap, ◌∙◌, arith}
use Rattle.can_frame.specs.Sets.{bits_where}
use Rattle.can_audit.proofs.Restarting.{is_due_at, due-all}
use Rattle.can_audit.proofs.restarts.restarted_next.Goals as goal

pub returns : goal.returns
returns c =
    let past = reverse c.args.past.now in
    let ended : c.loop-place.place ≡ 16 = omega (arith, c.loop-place-test.false, c.loop-place.auto.place-end) in
    due-all c.args.config past c.loop-place.restarted (c.loop-place.invariant ∙ ap (λ (n : ℕ). bits_where (is_due_at c.args.config past) n) ended)
