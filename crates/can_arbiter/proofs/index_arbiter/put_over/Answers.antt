use Rattle.std.proofs.Common.{arith, length, ap, refl, ◌+◌, ◌-◌, ◌<◌}
use Rattle.std.specs.List.{remove}
use Rattle.std.proofs.lemmas.List.Edits.{length-insert, length-remove}
use Rattle.can_arbiter.proofs.Moving.{put_first, steps_before, steps_behind, below_at, below_next, put_among}
use Rattle.can_arbiter.proofs.index_arbiter.put_over.Goals as goal
use Rattle.can_arbiter.proofs.index_arbiter.put_over.Goals.{then-loop-at-test+else-rank-row, else-loop-at-test}

pub loop-at-init : goal.loop-at-init
loop-at-init c = record {
  within = omega (arith, length-remove c.args.row.now c.args.place c.requires.within);
  put = put_first c.args.row.now c.args.place c.args.rank c.requires.within;
  rank = refl;
}

pub loop-at-preserved : goal.loop-at-preserved
loop-at-preserved c = record {
  within = omega (arith, c.loop-at.invariant.within);
  put = steps_before (remove c.args.row.now c.args.place) c.loop-at.row _ c.loop-at.at (c.loop-at.at - 1) c.args.rank (omega (arith, c.loop-at-test.true)) c.loop-at.invariant.within c.loop-at.invariant.put refl;
  rank = refl;
}

pub loop-at-2-init : goal.loop-at-2-init
loop-at-2-init c = record {
  within = c.loop-at.invariant.within;
  put = c.loop-at.invariant.put;
  rank = refl;
  below = elim c.loop-at-test.branch [
    | then-loop-at-test+else-rank-row w ↦ below_at (remove c.args.row.now c.args.place) c.loop-at.row c.loop-at.at c.args.rank c.loop-at.invariant.within c.loop-at.invariant.put (λ _. w.if-rank-row.false)
    | else-loop-at-test w ↦ λ after. absurd (omega (arith, after, w.loop-at-test.false))
  ];
}

pub loop-at-2-preserved : goal.loop-at-2-preserved
loop-at-2-preserved c =
    let long = length-insert (remove c.args.row.now c.args.place) c.loop-at-2.at c.args.rank c.loop-at-2.invariant.within in
    let inside : c.loop-at-2.at < length (remove c.args.row.now c.args.place) = omega (arith, long, ap length c.loop-at-2.invariant.put, c.loop-at-2-test.true) in
    record {
      within = omega (arith, inside);
      put = steps_behind (remove c.args.row.now c.args.place) c.loop-at-2.row _ c.loop-at-2.at (c.loop-at-2.at + 1) c.args.rank (omega arith) inside c.loop-at-2.invariant.put refl;
      rank = refl;
      below = below_next (remove c.args.row.now c.args.place) c.loop-at-2.row c.loop-at-2.at c.args.rank inside c.loop-at-2.invariant.put c.if-row-at.true;
    }

pub returns-else-row-at : goal.returns-else-row-at
returns-else-row-at c =
    put_among (remove c.args.row.now c.args.place) c.loop-at-2.row c.loop-at-2.at c.args.rank c.requires.in_order c.loop-at-2.invariant.within c.loop-at-2.invariant.put c.loop-at-2.invariant.below
    (λ _. c.if-row-at.false)

pub returns-after-loop-at-2 : goal.returns-after-loop-at-2
returns-after-loop-at-2 c =
    let long = length-insert (remove c.args.row.now c.args.place) c.loop-at-2.at c.args.rank c.loop-at-2.invariant.within in
    put_among (remove c.args.row.now c.args.place) c.loop-at-2.row c.loop-at-2.at c.args.rank c.requires.in_order c.loop-at-2.invariant.within c.loop-at-2.invariant.put c.loop-at-2.invariant.below
    (λ inside. absurd (omega (arith, inside, long, ap length c.loop-at-2.invariant.put, c.loop-at-2-test.false)))
