use Rattle.std.proofs.Common.{◌++◌, ◌∷◌, [], arith}
use Rattle.can_dialog.proofs.Turning.{turns_taken}
use Rattle.can_dialog.proofs.session.take_turns.Goals as goal

pub loop-item-preserved : goal.loop-item-preserved
loop-item-preserved g c =
    let turns = c.loop-item.invariant.0 in
    let said = c.take_turn.ensures.turn in
    let played = said.1 in
    let more = turns_taken g.P.Port.step c.args.moment c.args.dialog.now turns.0 c.args.items.now c.args.port.now c.loop-item.port c.take_turn.new.port c.loop-item.said.items
    said.0 c.loop-item.dialog c.take_turn.new.dialog played.0 c.loop-item.item-index c.item-item.result c.loop-item-test.true c.item-item.is turns.1 played.1 in
    ((turns.0 ++ played.0 ∷ [], rw said.2 more), omega (arith, c.loop-item.invariant.1), c.take_turn.ensures.room)
