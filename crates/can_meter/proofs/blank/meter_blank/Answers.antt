use Rattle.std.proofs.Common.{◌≡◌, ◌<◌, ◌≤◌, ℕ, slice_index, take, replicate, length-take, arith}
use Rattle.std.proofs.lemmas.Grind.{common_steps}
use Rattle.can_meter.proofs.Steps.{begins}
use Rattle.can_meter.proofs.blank.meter_blank.Goals as goal

zero_at : (n i : ℕ) → n ≤ 16 → i < n → slice_index (take n (replicate 16 0)) i ≡ 0
zero_at n i le lt = grind (arith, common_steps)

pub of_words-requires : goal.of_words-requires
of_words-requires c =
    begins c.args.ifaces _ (omega (arith, length-take {A = ℕ} c.args.ifaces (replicate 16 0))) (λ i lt. zero_at c.args.ifaces i c.requires.1 lt)
