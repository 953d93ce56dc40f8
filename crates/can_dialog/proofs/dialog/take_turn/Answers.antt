use Rattle.can_proto.specs.declared.answer.Answer.TheVariants as answer
use Rattle.can_proto.specs.Spelling.{answer_text}
use Rattle.can_dialog.specs.Sessions.{TakesTurn}
use Rattle.can_dialog.proofs.Faulting.{faulted}
use Rattle.can_dialog.proofs.dialog.take_turn.Goals as goal

pub returns-in-Err-clause-turn : goal.returns-in-Err-clause-turn
returns-in-Err-clause-turn g c =
    let read = rw (c.mode.ensures, c.in-Err.is) at c.read.ensures in
    let said : TakesTurn g.P.Port.step c.args.moment c.args.dialog.now c.args.item.now c.args.port.now c.args.port.now (answer_text (answer.Refused c.from.result)) c.args.dialog.now =
    rw (c.from.ensures, c.in-Message.is) (faulted g.P.Port.step c.args.moment c.args.dialog.now c.in-Message.message c.args.port.now c.in-Err.fault read c.in_default.not-Ended) in
    (answer_text (answer.Refused c.from.result), said, c.say-in-Err.ensures.text)
