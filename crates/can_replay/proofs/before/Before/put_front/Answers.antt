use Rattle.std.proofs.Common.{List, ℕ, ◌++◌, ap, ◌∙◌}
use Rattle.std.proofs.lemmas.Result.{on_ok_weaker}
use Rattle.can_bus.specs.State.{Parts}
use Rattle.can_replay.specs.EventsText.{parts_of, unended}
use Rattle.can_replay.specs.inner.Seen.{Seen, seen_after, told_parts}
use Rattle.can_replay.proofs.Lists.{two}
use Rattle.can_replay.proofs.Told.{parts_told}
use Rattle.can_replay.proofs.before.Before.put_front.Goals as goal

pub returns : goal.returns
returns c past e seen after step =
    let config = c.args.bus.now.config in
    let t0 = c.args.out.now.items in
    let t1 = c.put_unended.new.out.items in
    on_ok_weaker c.put_parts.result
    (λ put. two t0 t1 _ (unended c.args.line.now) (parts_of config past e) c.in_ok-put_unended.ensures
    (put
    ∙ ap (λ (s : Seen). t1 ++ told_parts s c.state.result.now) seen
    ∙ ap (λ (parts : Parts). t1 ++ told_parts (seen_after config past) parts) (c.state.ensures ∙ after.kept.of_parts)
    ∙ ap (λ (text : List ℕ). t1 ++ text) (parts_told config past e after.kept.legal.2 step)))
    c.put_parts.ensures
