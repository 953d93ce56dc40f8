use Rattle.std.proofs.Common.{sym, ◌∙◌, arith}
use Rattle.can_server.specs.declared.batch.Room.{Room}
use Rattle.can_server.proofs.Batching.{given_last, given_more}
use Rattle.can_server.proofs.batch.receive.Goals as goal

pub returns-then-not-is_item-clause-few : goal.returns-then-not-is_item-clause-few
returns-then-not-is_item-clause-few g c = λ low.
    let room : Room = record { item = c.take-room.new.room; delivery = c.take-room.result } in
    given_last g.P.Port.step c.args.session.now.dialog.stage c.args.port.now c.loop-place.port c.take-room.new.port c.loop-place.rooms c.loop-place.place room (omega (arith, c.loop-place.auto.rooms, c.requires))
    c.loop-place.invariant c.take-room.ensures c.args.most low (sym c.is_item.ensures ∙ c.if-not-is_item.true)

pub loop-place-preserved : goal.loop-place-preserved
loop-place-preserved g c =
    let room : Room = record { item = c.take-room.new.room; delivery = c.take-room.result } in
    given_more g.P.Port.step c.args.session.now.dialog.stage c.args.port.now c.loop-place.port c.take-room.new.port c.loop-place.rooms c.loop-place.place room (omega (arith, c.loop-place.auto.rooms, c.loop-place-test.true, c.requires))
    c.loop-place.invariant c.take-room.ensures (sym c.is_item.ensures ∙ c.if-not-is_item.false)
