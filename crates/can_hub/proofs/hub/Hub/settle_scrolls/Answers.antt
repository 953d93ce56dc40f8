use Rattle.std.proofs.Common.{All, ◌≡◌, ◌+◌, ◌∷◌, ◌++◌, ◌∙◌, ℕ, suc, List, [], Vec, Global, length, length-append, append_assoc, append-nil, inl, inr, arith, sym, subst, ap}
use Rattle.std.specs.Vec.Iter.{into_iter_items}
use Rattle.std.proofs.lemmas.List.Elements.{All-head, All-tail}
use Rattle.can_record.specs.Journal.{Journal}
use Rattle.can_roll.specs.Seen.{ScrollSeen}
use Rattle.can_hub.specs.HubBuses.{left_in}
use Rattle.can_hub.specs.Buses.{BusSeen, NumberedFrom}
use Rattle.can_station.specs.Passes.{PassSeen, AllOf, SettlesIn, SomeOther}
use Rattle.can_hub.specs.Settling.{AllConfigured, AllHanded, AllSettleIn}
use Rattle.can_hub.proofs.Making.{emptied}
use Rattle.can_hub.proofs.Ending.{configured_push, handed_push, own_push, own_scroll_push, settle_none, settle_push}
use Rattle.can_hub.proofs.hub.Hub.settle_scrolls.Goals as goal

pub loop-network-init : goal.loop-network-init
loop-network-init g c =
    let own = c.self.invariant in
    let wired = c.buses.invariant in
    let given = c.into_iter-network-iterator.ensures.into_iter_gives in
    let items = into_iter_items c.into_iter-network-iterator.result in
    let lists = c.into_iter-lists.ensures in
    let scrolls = c.into_iter-scrolls.ensures in
    let known = ap length scrolls.rest in
    let zero : length c.self.inside.settled.items ≡ 0 = ap length own.1 in
    let networks = ap length given.0 in
    let passes = ap length lists.rest in
    let same : c.buses.inside.networks.items ≡ c.args.self = c.buses.view_is ∙ c.self.view_is in
    let here : length c.buses.inside.networks.items ≡ length c.self.inside.buses = ap length c.buses.view_is in
    let buses : length c.buses.inside.networks.items ≡ length c.args.self = ap length same in (
      [],
      [],
      [],
      record {
        buses = given.0 ∙ same;
        configured = subst (λ (ds : List _). AllConfigured g.L.Leaves.journal [] ds) (sym own.1) tt;
        limited = subst (λ (bs : List BusSeen). All (λ b. g.L.Leaves.limits b.config) bs) (sym (given.0 ∙ c.buses.view_is)) own.0;
        lists = lists.rest;
        own = tt;
        settled = settle_none Global g.L.Leaves.journal c.self.inside.settled.items own.1;
        place = sym zero;
        numbered = subst (λ (ds : List _). NumberedFrom (length ds) items) (sym own.1) (subst (λ (ws : List BusSeen). NumberedFrom 0 ws) (sym given.0) wired.0);
        networks = omega (arith, given.1, networks, c.buses.inside.networks.ok.0);
        passes = omega (arith, lists.len, passes, c.args.passes.ok.0);
        same = omega (arith, given.1, c.buses.inside.networks.ok.0, lists.len, c.args.passes.ok.0, c.requires.passes, buses);
        scrolls = scrolls.rest;
        own_scrolls = tt;
        handed = subst (λ (ds : List _). AllHanded g.L.Leaves.handed [] ds) (sym own.1) tt;
        scroll_place = sym zero;
        scroll_count = omega (arith, scrolls.len, known, c.args.scrolls.ok.0);
        scroll_same = omega (arith, given.1, c.buses.inside.networks.ok.0, scrolls.len, c.args.scrolls.ok.0, c.requires.scrolls, buses);
        room = omega (arith, zero, given.1, c.buses.inside.networks.ok.0, own.2, here);
      },
    )

pub returns-in_default-settle_scroll-clause-refused : goal.returns-in_default-settle_scroll-clause-refused
returns-in_default-settle_scroll-clause-refused g c =
    let before = c.loop-network.invariant.0 in
    let i = c.loop-network.invariant.3 in
    let known = c.loop-network.invariant.2 in
    let own = c.in-Some-next.own in
    let scroll = c.in-Some-next-2.scroll in
    let done = c.loop-network.settled.items in
    let numbered = subst (λ (ws : List BusSeen). NumberedFrom (length done) ws) c.in-Some.ensures.steps.0 i.numbered in
    let here : c.network.inside.station.number ≡ c.in-Some.network.number = ap (λ (b : BusSeen). b.number) c.network.view_is in
    let bus : c.network.inside.station.number ≡ c.len.result = omega (arith, numbered.0, here, c.len.ensures, c.loop-network.settled.ok.0) in
    let none = ap length c.new.ensures.items in
    record {
      before = before;
      own = own;
      after = into_iter_items c.next-in-loop-network.new.self;
      lists = sym i.lists ∙ ap (λ (r : List (Vec PassSeen Global)). before ++ r) c.in-Some-next.ensures.items;
      place = omega (arith, i.place, c.len.ensures, c.loop-network.settled.ok.0);
      earlier = i.own;
      scrolls_before = known;
      scroll = scroll;
      scrolls_after = into_iter_items c.next-in-loop-network-2.new.self;
      scrolls_are = sym i.scrolls ∙ ap (λ (r : List ScrollSeen). known ++ r) c.in-Some-next-2.ensures.items;
      scroll_place = omega (arith, i.scroll_place, c.len.ensures, c.loop-network.settled.ok.0);
      earlier_scrolls = i.own_scrolls;
      foreign = elim c.in_default-settle_scroll.ensures.refused [
        | inl other ↦ inl (λ same. other (same ∙ sym bus))
        | inr others ↦ elim others [
          | inl other ↦ inr (subst (λ (k : ℕ). SomeOther k own.items) bus other)
          | inr gauges ↦ absurd (gauges (λ k d lt. absurd (omega (arith, lt, none))))
        ]
      ];
    }

pub settled_as-requires : goal.settled_as-requires
settled_as-requires g c =
    let all : All (λ b. g.L.Leaves.limits b.config) (c.in-Some.network ∷ into_iter_items c.next.new.self) = subst (λ (bs : List BusSeen). All (λ b. g.L.Leaves.limits b.config) bs) c.in-Some.ensures.steps.0 c.loop-network.invariant.3.limited in
    subst g.L.Leaves.limits (sym (c.in-Ok.ensures.config ∙ ap (λ (b : BusSeen). b.config) c.network.view_is)) (All-head (λ (b : BusSeen). g.L.Leaves.limits b.config) c.in-Some.network (into_iter_items c.next.new.self) all)

pub loop-network-preserved : goal.loop-network-preserved
loop-network-preserved g c =
    let before = c.loop-network.invariant.0 in
    let gone = c.loop-network.invariant.1 in
    let i = c.loop-network.invariant.3 in
    let known = c.loop-network.invariant.2 in
    let own = c.in-Some-next.own in
    let scroll = c.in-Some-next-2.scroll in
    let done = c.loop-network.settled.items in
    let new = c.push_reserved.new.self.items in
    let steps = c.in-Some.ensures.steps in
    let lists = c.in-Some-next.ensures in
    let scrolls = c.in-Some-next-2.ensures in
    let rolled = ap length scrolls.items in
    let known_longer : length (known ++ scroll ∷ []) ≡ length known + 1 = length-append known (scroll ∷ []) in
    let more = into_iter_items c.next.new.self in
    let numbered = subst (λ (ws : List BusSeen). NumberedFrom (length done) ws) steps.0 i.numbered in
    let here : c.network.inside.station.number ≡ c.in-Some.network.number = ap (λ (b : BusSeen). b.number) c.network.view_is in
    let bus : c.network.inside.station.number ≡ length done = omega (arith, numbered.0, here) in
    let grown : length new ≡ length done + 1 = ap length c.push_reserved.ensures.items ∙ length-append done (c.settled_as.result ∷ []) in
    let longer : length (before ++ own ∷ []) ≡ length before + 1 = length-append before (own ∷ []) in
    let networks = ap length steps.0 in
    let passes = ap length lists.items in
    let s = c.settled_as.result in
    let all : All (λ b. g.L.Leaves.limits b.config) (c.in-Some.network ∷ more) = subst (λ (bs : List BusSeen). All (λ b. g.L.Leaves.limits b.config) bs) steps.0 i.limited in
    let next : suc (length done) ≡ length new = omega (arith, grown) in (
      before ++ own ∷ [],
      gone ++ c.in-Some.network ∷ [],
      known ++ scroll ∷ [],
      record {
        buses = append_assoc gone (c.in-Some.network ∷ []) (into_iter_items c.next.new.self) ∙ ap (λ (r : List BusSeen). gone ++ r) (sym steps.0) ∙ i.buses;
        configured = subst (λ (ds : List _). AllConfigured g.L.Leaves.journal (gone ++ c.in-Some.network ∷ []) ds) (sym c.push_reserved.ensures.items)
            (configured_push g.L.Leaves.journal gone done c.in-Some.network s i.configured (ap (λ (j : Journal). j.config) c.settled_as.ensures.history ∙ c.in-Ok.ensures.config ∙ ap (λ (b : BusSeen). b.config) c.network.view_is));
        limited = All-tail (λ (b : BusSeen). g.L.Leaves.limits b.config) c.in-Some.network more all;
        lists = append_assoc before (own ∷ []) (into_iter_items c.next-in-loop-network.new.self) ∙ ap (λ (r : List (Vec PassSeen Global)). before ++ r) (sym lists.items) ∙ i.lists;
        own = own_push 0 (length done) before own i.own (omega (arith, i.place)) (subst (λ (k : ℕ). AllOf k own.items) bus c.in-Ok.ensures.refused.1);
        settled = subst (λ (ds : List _). AllSettleIn g.L.Leaves.journal (before ++ own ∷ []) ds) (sym c.push_reserved.ensures.items) (settle_push g.L.Leaves.journal before done own s i.settled
            (subst (λ (j : Journal). SettlesIn j s.passes own.items) (sym c.settled_as.ensures.history) (subst (λ (n : ℕ). SettlesIn (left_in c.in-Ok.left.history) n own.items) (sym c.settled_as.ensures.passes) c.in-Ok.ensures.settled)));
        place = omega (arith, grown, longer, i.place);
        numbered = subst (λ (k : ℕ). NumberedFrom k more) next numbered.1;
        networks = omega (arith, steps.1, i.networks, networks);
        passes = omega (arith, lists.len, i.passes, passes);
        same = omega (arith, steps.1, lists.len, i.same);
        scrolls = append_assoc known (scroll ∷ []) (into_iter_items c.next-in-loop-network-2.new.self) ∙ ap (λ (r : List ScrollSeen). known ++ r) (sym scrolls.items) ∙ i.scrolls;
        own_scrolls = own_scroll_push 0 (length done) known scroll i.own_scrolls (omega (arith, i.scroll_place)) (c.in-Ok.ensures.refused.0 ∙ bus);
        handed = subst (λ (ds : List _). AllHanded g.L.Leaves.handed (known ++ scroll ∷ []) ds) (sym c.push_reserved.ensures.items) (handed_push g.L.Leaves.handed known done scroll s i.handed (c.in-Ok.ensures.scroll ∙ sym c.settled_as.ensures.out));
        scroll_place = omega (arith, grown, known_longer, i.scroll_place);
        scroll_count = omega (arith, scrolls.len, i.scroll_count, rolled);
        scroll_same = omega (arith, steps.1, scrolls.len, i.scroll_same);
        room = omega (arith, grown, steps.1, i.room, c.push_reserved.ensures.capacity);
      },
    )

pub returns-clause-settled : goal.returns-clause-settled
returns-clause-settled g c =
    let before = c.loop-network.invariant.0 in
    let i = c.loop-network.invariant.3 in
    let none = emptied (into_iter_items c.loop-network.lists) (omega (arith, c.in-None.ensures.steps.0, i.same, i.passes)) in
    let all : before ≡ c.args.passes.items = sym (append-nil before) ∙ ap (λ (r : List (Vec PassSeen Global)). before ++ r) (sym none) ∙ i.lists in
    subst (λ (ps : List (Vec PassSeen Global)). AllSettleIn g.L.Leaves.journal ps c.loop-network.settled.items) all i.settled

pub returns-clause-configured : goal.returns-clause-configured
returns-clause-configured g c =
    let gone = c.loop-network.invariant.1 in
    let i = c.loop-network.invariant.3 in
    let none = emptied (into_iter_items c.loop-network.network-iterator) (omega (arith, c.in-None.ensures.steps.0, i.networks)) in
    let all : gone ≡ c.args.self = sym (append-nil gone) ∙ ap (λ (r : List BusSeen). gone ++ r) (sym none) ∙ i.buses in
    subst (λ (bs : List BusSeen). AllConfigured g.L.Leaves.journal bs c.loop-network.settled.items) all i.configured

pub returns-clause-handed : goal.returns-clause-handed
returns-clause-handed g c =
    let known = c.loop-network.invariant.2 in
    let i = c.loop-network.invariant.3 in
    let none = emptied (into_iter_items c.loop-network.scrolls) (omega (arith, c.in-None.ensures.steps.0, i.scroll_same, i.scroll_count)) in
    let all : known ≡ c.args.scrolls.items = sym (append-nil known) ∙ ap (λ (r : List ScrollSeen). known ++ r) (sym none) ∙ i.scrolls in
    subst (λ (ss : List ScrollSeen). AllHanded g.L.Leaves.handed ss c.loop-network.settled.items) all i.handed
