use Rattle.std.proofs.Common.{◌≡◌, ◌≤◌, ◌+◌, length, take, inr, refl, sym, ap, ◌∙◌, arith}
use Rattle.std.proofs.lemmas.List.{take_at}
use Rattle.can_session.proofs.Inputs.{overruns}
use Rattle.can_session.proofs.lines.Lines.fill.Goals as goal

pub returns-then-read-left-clause-err : goal.returns-then-read-left-clause-err
returns-then-read-left-clause-err g c =
    let gains = c.in-Ok.ensures.ok in
    let held = c.consume.new.self in
    let same : length c.as_slice-held.result.now ≡ length held = ap length c.as_slice-held.ensures.bytes in
    let kept : c.truncate.new.self ≡ held = c.truncate.ensures ∙ ap (take (length c.as_slice-held.result.now)) gains.behind ∙ take_at held gains.bytes _ (sym same) in
    let len : length c.truncate.new.self ≡ length held = ap length kept in
    let inside : c.self.inside.given + length held ≤ 16777216 = rw c.consume.ensures c.self.invariant.2.bytes in
    let one : c.in-Ok.read ≡ 1 = omega (arith, c.in-Ok.ensures.most, same, inside) in
    rw (← c.self.view_is) (inr (overruns _ _ c.read_from.new.self c.in-Ok.read (rw c.consume.ensures at gains) one (kept ∙ c.consume.ensures) refl refl (omega (arith, c.in-Ok.ensures.most, same, inside, len))))
