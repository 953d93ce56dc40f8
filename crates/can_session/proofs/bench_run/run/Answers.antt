use Rattle.std.proofs.Common.{◌≡◌, ℕ, ◌+◌, [], ◌∷◌, ◌++◌, arith, refl, sym, ap, ◌∙◌}
use Rattle.can_session.specs.Lines.{Input, left_of}
use Rattle.can_session.proofs.Running.{of_start, of_more, of_all, left_unread, fine_behind, short_line, ran_start, ran_on, ran_kept, ends_stop, push_length, counted_more, match_true, match_false}
use Rattle.can_session.proofs.bench_run.run.Goals as goal

pub loop-number-init : goal.loop-number-init
loop-number-init g c =
    let now = c.args.lines.now in
    let none : now.given ≡ 0 = ap (λ (i : Input). i.given) c.requires in
    let left = ap left_of c.requires ∙ left_unread now.coming in (
      [],
      of_start now.coming now left none,
      ap (λ (i : Input). i.fault) c.requires,
      ran_start g.W.Write.contents (g.F.FaultSource.verdicts c.args.script.now) c.args.state.now c.args.out.now,
      refl,
      omega (arith, none),
      omega (arith, none),
      refl,
    )

pub go_on-requires : goal.go_on-requires
go_on-requires g c = c.loop-number.invariant.2

pub loop-number-preserved : goal.loop-number-preserved
loop-number-preserved g c =
    let inv = c.loop-number.invariant in
    let old = c.loop-number.lines in
    let new = c.go_on.new.lines in
    let on = match_true _ c.in-Ok-true.field-0 c.in-Ok-true.field-0-test c.in-Ok-true.ensures.on in
    let v = g.F.FaultSource.verdicts c.args.script.now in
    let w = g.F.FaultSource.verdicts c.loop-number.script in (
      inv.0 ++ new.line ∷ [],
      of_more c.args.lines.now.coming inv.0 old new inv.1 on.0,
      fine_behind old new inv.2 on.0,
      ran_on g.W.Write.contents v w inv.0 new.line c.args.state.now c.loop-number.state c.go_on.new.state c.args.out.now c.loop-number.out c.go_on.new.out inv.7 inv.3 (short_line old new on.0) (on.1, on.2, on.3),
      ap (λ (n : ℕ). n + 1) (inv.4 ∙ sym (push_length inv.0 new.line)),
      counted_more inv.0 old new inv.5 on.0,
      (let within = c.go_on.ensures.within.bytes in omega (arith, within)),
      c.go_on.ensures.keeps ∙ inv.7,
    )

pub returns-in-Ok-false : goal.returns-in-Ok-false
returns-in-Ok-false g c =
    let inv = c.loop-number.invariant in
    let on = match_false _ c.in-Ok-false.field-0 c.in-Ok-false.field-0-test c.in-Ok-false.ensures.on in (
      inv.0,
      c.loop-number.state,
      of_all c.args.lines.now.coming inv.0 c.loop-number.lines c.go_on.new.lines inv.1 on.0 c.go_on.ensures.within,
      on.0.1,
      on.0.0.fault ∙ inv.2,
      ran_kept g.W.Write.contents (g.F.FaultSource.verdicts c.args.script.now) inv.0 c.args.state.now c.loop-number.state c.args.out.now c.loop-number.out c.go_on.new.out inv.3 on.2,
      sym on.1,
    )

pub returns-in-Err : goal.returns-in-Err
returns-in-Err g c =
    let inv = c.loop-number.invariant in
    ends_stop g.W.Write.contents (g.F.FaultSource.verdicts c.args.script.now) c.args.lines.now.coming inv.0 c.loop-number.number c.loop-number.lines c.go_on.new.lines c.args.state.now c.loop-number.state c.go_on.new.state c.args.out.now c.loop-number.out c.go_on.new.out c.in-Err.fault
    inv.1 c.go_on.ensures.within inv.4 inv.3 c.in-Err.ensures.stops c.in-Err.ensures.leaves
