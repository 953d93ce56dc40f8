use Rattle.std.proofs.Common.{ap, ◌∙◌}
use Rattle.std.proofs.lemmas.Result.{on_ok_weaker}
use Rattle.can_bus.specs.State.{Parts}
use Rattle.can_replay.specs.inner.Seen.{seen_in}
use Rattle.can_replay.proofs.Told.{seen_is}
use Rattle.can_replay.proofs.before.Before.look.Goals as goal

pub returns : goal.returns
returns c past after =
    on_ok_weaker c.see.result (λ seen. seen ∙ ap (λ (parts : Parts). seen_in parts) (c.state.ensures ∙ after.kept.of_parts) ∙ seen_is c.args.bus.now.config past) c.see.ensures
