use Rattle.std.proofs.Common.{ℕ, List, Option, Some, ap, subst}
use Rattle.can_session.specs.Lines.{Input, unread}
use Rattle.can_session.specs.Runs.{EndsLeaving}
use Rattle.can_session.proofs.Running.{ends_in_bytes, none_taken}
use Rattle.can_session.proofs.bench_run.take_lines.Goals as goal

pub returns-in_default : goal.returns-in_default
returns-in_default g c =
    (unread (Some c.args.text.now), none_taken (g.F.FaultSource.verdicts c.args.script.now) c.args.text.now c.args.state.now c.args.out.now.items)

pub returns : goal.returns
returns g c =
    let v = g.F.FaultSource.verdicts c.args.script.now in
    let ran = ends_in_bytes v c.in-Ok.lines.coming c.args.state.now c.run.new.state c.args.out.now c.run.new.out c.run.new.lines c.run.result c.run.ensures in (
      c.run.new.lines,
      subst (λ (input : Option (List ℕ)). EndsLeaving (λ (bytes : List ℕ). Some bytes) v input c.args.state.now c.args.out.now.items c.run.result c.run.new.lines c.run.new.out.items c.run.new.state)
          (ap (λ (i : Input). i.coming) c.in-Ok.ensures) ran,
    )
