use Rattle.std.proofs.Common.{◌≡◌, ℕ, length, slice_range, ap, arith}
use Rattle.std.proofs.lemmas.List.{length-take, length-drop}
use Rattle.can_session.proofs.HeldBytes.{fewer}
use Rattle.can_session.proofs.read_buffer.ReadBuffer.consume.Goals as goal

pub returns : goal.returns
returns c =
    let w = c.self.inside in
    let same : length (slice_range w.bytes.items w.start w.end) ≡ length c.args.self.now = ap length c.self.view_is in
    rw (← c.self.view_is) (fewer w.bytes.items w.start w.end c.args.count (omega (arith, same, length-take {A = ℕ}, length-drop {A = ℕ})))
