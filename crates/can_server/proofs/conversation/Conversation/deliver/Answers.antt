use Rattle.std.proofs.Common.{inr, ◌∙◌, take}
use Rattle.can_hub.specs.PassSteps.{PassStep}
use Rattle.can_server.specs.Batches.{texts_of}
use Rattle.can_server.proofs.Talking.{gives_of}
use Rattle.can_server.proofs.conversation.Conversation.deliver.Goals as goal

pub returns-then-not-write_items : goal.returns-then-not-write_items
returns-then-not-write_items g c =
    let text = texts_of (take c.take-taken.result.rooms c.take-taken.new.self.rooms.items) in
    inr (
      text,
      c.into_port.result,
      c.take-taken.result.are_items,
      gives_of (PassStep g.row.F.Denot) c.args.self.now.session.dialog.stage text _ _ _ _ _ c.take-taken.result.are_items (c.new-port.ensures ∙ c.take.ensures) c.into_port.ensures c.take-taken.ensures.takes,
      c.end.ensures.ends,
    )
