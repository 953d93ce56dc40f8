use Rattle.can_dialog.specs.Turns.{greeting}
use Rattle.can_session.proofs.Speaking.{ends_spoken}
use Rattle.can_session.proofs.turns.start_session.Goals as goal

pub returns : goal.returns
returns c =
    let begun = c.in_ok-begun.ensures in
    let greeted = c.in_ok-session.ensures in
    let ended = c.in_ok-end_output.ensures in
    (greeted.0, ends_spoken c.args.number c.in_ok-begun.begun greeting c.begin_output.new.said.items c.greeted.new.said.items c.end_output.new.said.items begun.text begun.len greeted.1 ended.none ended.some)
