use Rattle.std.proofs.Common.{◌≤◌, ℕ, if◌then◌else◌, arith}
use Rattle.std.proofs.lemmas.List.FromFn.{fill_by_all}
use Rattle.can_frame.specs.Sets.{is_in}
use Rattle.can_confine.specs.Confinement.{at_start}
use Rattle.can_attempt.specs.Attempts.{counts_at}
use Rattle.can_bus.proofs.attempts.begun_anew.Goals as goal

pub returns : goal.returns
returns c =
    let ended : 16 ≤ c.loop-place.place = omega (arith, c.loop-place-test.false) in
    fill_by_all (λ (i : ℕ). if is_in i c.args.restarted then at_start else counts_at c.args.nodes.now i) c.loop-place.counters 16 at_start c.loop-place.invariant.0
    (λ k h. c.loop-place.invariant.1 k (omega (arith, h, ended)))
