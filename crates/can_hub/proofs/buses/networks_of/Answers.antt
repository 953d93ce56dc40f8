use Rattle.std.proofs.Common.{◌≡◌, ◌+◌, [], ◌∷◌, ◌++◌, length, length-append, sym, ap, ◌∙◌, subst, List, rules, arith, All}
use Rattle.std.specs.Vec.Iter.{into_iter_items}
use Rattle.can_hub.proofs.Making.{emptied, made_first, named_first, made_next, named_next, proper_here, proper_next, made_last}
use Rattle.can_hub.specs.Benches.{IsWithin}
use Rattle.can_hub.specs.Settling.{AreNewScrolls}
use Rattle.can_roll.specs.Seen.{ScrollSeen}
use Rattle.can_hub.proofs.Ending.{new_push}
use Rattle.can_hub.proofs.buses.networks_of.Goals as goal

pub loop-bench-init : goal.loop-bench-init
loop-bench-init g c =
    let made = c.in_ok-networks.networks.items in
    let items = into_iter_items c.into_iter-bench-iterator.result in
    let none : made ≡ [] = c.in_ok-networks.ensures.items in
    let zero = ap length none in
    let given = c.into_iter-bench-iterator.ensures.into_iter_gives in
    let long = ap length given.0 in
    record {
      made = made_first made items c.args.benches.items none given.0;
      named = named_first g.N.RollName.roll g.N.MeterName.meter made items c.args.benches.items none given.0 c.requires.named;
      proper = subst (λ (r : List _). All (λ b. IsWithin g.L.Leaves.limits b) r) (sym given.0) c.requires.proper;
      left = omega (arith, given.1, long, c.args.benches.ok.0);
      count = omega (arith, zero, given.1, c.args.benches.ok.0);
      room = search (rules, c.in_ok-networks.ensures, c.len.ensures, c.args.benches.ok);
      few = c.requires.few;
      scrolls = subst (λ (ss : List ScrollSeen). AreNewScrolls 0 ss) (sym c.in_ok-scrolls.ensures.items) tt;
      same = ap length c.in_ok-scrolls.ensures.items ∙ sym zero;
      scroll_room = search (rules, c.in_ok-scrolls.ensures, c.len-2.ensures, c.args.benches.ok);
    }

pub new-requires-clause-proper : goal.new-requires-clause-proper
new-requires-clause-proper g c = proper_here g.L.Leaves.limits c.in-Some.bench (into_iter_items c.loop-bench.bench-iterator) (into_iter_items c.next.new.self) c.in-Some.ensures.steps.0 c.loop-bench.invariant.proper

pub loop-bench-preserved : goal.loop-bench-preserved
loop-bench-preserved g c =
    let i = c.loop-bench.invariant in
    let made = c.loop-bench.networks.items in
    let new = c.push_reserved.new.self.items in
    let b = c.in-Some.bench in
    let items = into_iter_items c.loop-bench.bench-iterator in
    let more = into_iter_items c.next.new.self in
    let steps = c.in-Some.ensures.steps in
    let shorter = ap length steps.0 in
    let pushed : new ≡ made ++ c.in_ok-network.network ∷ [] = c.push_reserved.ensures.items in
    let longer : length new ≡ length made + 1 = ap length pushed ∙ length-append made (c.in_ok-network.network ∷ []) in
    let scrolls = c.loop-bench.scrolls.items in
    let scroll = c.in_ok-network.scroll in
    let scrolled = c.push_reserved-in-loop-bench.ensures.items in
    let more_scrolls : length c.push_reserved-in-loop-bench.new.self.items ≡ length scrolls + 1 = ap length scrolled ∙ length-append scrolls (scroll ∷ []) in
    let n : length made ≡ c.len-number.result = omega (arith, c.len-number.ensures, c.loop-bench.networks.ok.0) in
    record {
      made = made_next made new c.in_ok-network.network b items more _ c.len-number.result steps.0 pushed c.in_ok-network.ensures.made n i.made;
      named = named_next g.N.RollName.roll g.N.MeterName.meter (length made) (length new) b items more steps.0 (omega (arith, longer)) i.named;
      proper = proper_next g.L.Leaves.limits b items more steps.0 i.proper;
      left = omega (arith, steps.1, i.left, shorter);
      count = omega (arith, steps.1, i.count, longer);
      room = omega (arith, i.room, c.push_reserved.ensures.capacity);
      few = i.few;
      scrolls = subst (λ (ss : List ScrollSeen). AreNewScrolls 0 ss) (sym scrolled) (new_push 0 c.len-number.result scrolls scroll i.scrolls (omega (arith, i.same, n)) c.in_ok-network.ensures.scroll);
      same = omega (arith, i.same, longer, more_scrolls);
      scroll_room = omega (arith, i.scroll_room, c.push_reserved-in-loop-bench.ensures.capacity);
    }

pub returns-clause-made : goal.returns-clause-made
returns-clause-made g c =
    let none : into_iter_items c.loop-bench.bench-iterator ≡ [] = emptied (into_iter_items c.loop-bench.bench-iterator) (omega (arith, c.in-None.ensures.steps.0, c.loop-bench.invariant.left)) in
    made_last c.loop-bench.networks.items (into_iter_items c.loop-bench.bench-iterator) _ none c.loop-bench.invariant.made
