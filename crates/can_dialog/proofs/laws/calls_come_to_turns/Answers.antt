use Rattle.std.proofs.Common.{[], ◌∙◌}
use Rattle.can_dialog.specs.Lives.{heard_in}
use Rattle.can_dialog.proofs.Living.{lives, heard-given}
use Rattle.can_dialog.proofs.laws.calls_come_to_turns.Goals as goal

pub returns : goal.returns
returns g c = record {
  texts = λ before after calls p q text h. lives g.P.Port.step before.capacity before.stage [] calls p q text after h;
  heard = λ calls. heard-given [] calls ∙ c.every_cut_gives_the_same_messages.ensures (heard_in calls);
}
