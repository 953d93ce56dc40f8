use Rattle.std.proofs.Common.{◌≡◌, ◌==◌, ◌++◌, ℕ, length, take, drop, sym, ap, subst, ◌∙◌, arith}
use Rattle.std.proofs.Math.Seq.{take-append_seam}
use Rattle.can_dialog.specs.Deliveries.{GivesItems}
use Rattle.can_server.specs.Batches.{texts_of}
use Rattle.can_server.proofs.Batching.{used_rooms}
use Rattle.can_server.proofs.batch.Batch.take.Goals as goal

pub returns-clause-takes : goal.returns-clause-takes
returns-clause-takes g c =
    let step = g.P.Port.step in
    let stage = c.args.session.now.dialog.stage in
    let rooms = c.receive-items.new.rooms in
    let used = c.min.result in
    let others = drop (length rooms) c.args.self.now.rooms.items in
    let len : length rooms ≡ c.args.self.now.rooms.len = omega (arith, c.receive-items.auto.rooms, c.as_mut_slice.ensures.len) in
    let seen = take c.args.self.now.rooms.len (rooms ++ others) in
    let same : seen ≡ rooms = ap (λ (n : ℕ). take n (rooms ++ others)) (sym len) ∙ take-append_seam rooms others in
    subst (λ (n : ℕ). GivesItems step n stage c.args.port.now (texts_of (take used seen)) c.receive-items.new.port (c.receive-items.result == c.min-most.result)) c.min-most.ensures
    (used_rooms step stage c.args.port.now c.receive-items.new.port c.min-most.result c.receive-items.result used rooms (take used seen)
    (ap (take used) same) c.min.ensures c.receive-items.ensures.within c.receive-items.ensures.all c.receive-items.ensures.few)
