use Rattle.std.proofs.Common.{List, length, rules, arith, sym, subst, ap}
use Rattle.can_hub.specs.Buses.{BusSeen, NumberedFrom, AllApart, names_of}
use Rattle.can_hub.specs.Benches.{MakeHubWithin}
use Rattle.can_hub.proofs.Making.{limited, numbered, same_names, same_length}
use Rattle.can_hub.proofs.hub.Hub.make.Goals as goal

pub invariant_of-buses : goal.invariant_of-buses
invariant_of-buses g c =
    let benches = c.args.benches.items in
    let made = c.in_ok-networks.ensures.made in
    let hub : MakeHubWithin g.L.Leaves.limits benches = subst (λ (b : List _). MakeHubWithin g.L.Leaves.limits b) c.deref.ensures.value (c.make_hub.ensures.0 (search (rules, c.if-not-make_hub.false))) in
    let long = ap length made in
    let same = same_length 0 benches in (
      subst (λ (bs : List BusSeen). NumberedFrom 0 bs) (sym made) (numbered 0 benches),
      subst (λ (bs : List BusSeen). AllApart (names_of bs)) (sym made) (subst AllApart (sym (same_names 0 benches)) hub.apart),
      omega (arith, long, same, hub.few),
    )

pub invariant_of-result : goal.invariant_of-result
invariant_of-result g c =
    let benches = c.args.benches.items in
    let made = c.in_ok-networks.ensures.made in
    let hub : MakeHubWithin g.L.Leaves.limits benches = subst (λ (b : List _). MakeHubWithin g.L.Leaves.limits b) c.deref.ensures.value (c.make_hub.ensures.0 (search (rules, c.if-not-make_hub.false))) in
    let long = ap length made in
    let same = same_length 0 benches in (
      limited g.L.Leaves.limits 0 benches c.in_ok-networks.networks.items made hub.proper,
      c.in_ok-settled.ensures.items,
      omega (arith, long, same, c.in_ok-settled.ensures.capacity, c.len.ensures, c.args.benches.ok.0),
    )

pub returns-clause-bad : goal.returns-clause-bad
returns-clause-bad g c =
    let hub : MakeHubWithin g.L.Leaves.limits c.args.benches.items = subst (λ (b : List _). MakeHubWithin g.L.Leaves.limits b) c.deref.ensures.value (c.make_hub.ensures.0 (search (rules, c.if-not-make_hub.false))) in
    (λ e. absurd (cc (e)), λ no. absurd (no hub))
