use Rattle.std.proofs.Common.{◌≡◌, ◌<◌, ◌≤◌, ◌++◌, List, length, get_or, ap, subst, ◌∙◌, arith}
use Rattle.can_proto.specs.Spelling.{spaced}
use Rattle.can_hub.specs.Buses.{BusSeen}
use Rattle.can_hub.proofs.AllNames.{one_bus_more, all_buses}
use Rattle.can_hub.proofs.buses.Buses.put_names.Goals as goal

pub loop-network-preserved : goal.loop-network-preserved
loop-network-preserved g c =
    let n = c.loop-network.network-index in
    let same : c.deref-network-items.result.now ≡ c.args.self.now = c.deref-network-items.ensures.value ∙ c.self.view_is in
    one_bus_more c.args.self.now n c.network-item.result c.args.text.now.items c.loop-network.text.items c.put_names.new.text.items
    (subst (λ (bs : List BusSeen). n < length bs) same c.loop-network-test.true) (c.network-item.is ∙ ap (λ (bs : List BusSeen). get_or bs n c.network-item.result) same)
    c.loop-network.invariant (c.in_ok-put_names.ensures ∙ ap (λ (b : BusSeen). c.loop-network.text.items ++ spaced b.names) c.network.view_is)

pub returns : goal.returns
returns g c =
    let n = c.loop-network.network-index in
    let same : c.deref-network-items.result.now ≡ c.args.self.now = c.deref-network-items.ensures.value ∙ c.self.view_is in
    let ended : length c.deref-network-items.result.now ≤ n = omega (arith, c.loop-network-test.false) in
    all_buses c.args.self.now n c.args.text.now.items c.loop-network.text.items (subst (λ (bs : List BusSeen). length bs ≤ n) same ended) c.loop-network.invariant
