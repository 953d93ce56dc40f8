use Rattle.std.proofs.Common.{◌≡◌, length, sym, ap, ◌∙◌, subst}
use Rattle.can_record.specs.Journal.{Journal}
use Rattle.can_roll.specs.Lists.{AllBelow}
use Rattle.can_roll.specs.Seen.{RollSeen}
use Rattle.can_station.specs.Passes.{SettlesIn, numbers_of}
use Rattle.can_station.specs.Published.{AreTrue}
use Rattle.can_station.proofs.Marking.{marked-all}
use Rattle.can_station.proofs.PublishedFacts.{all_true}
use Rattle.can_station.proofs.station_state.settle_bus.Goals as goal

pub returns-clause-settled : goal.returns-clause-settled
returns-clause-settled g c =
    let b = c.requires.booked in
    let m = b.marked in
    let r = c.recall_all.ensures in
    let marks = b.marks in
    let j : Journal = g.B.Journaled.journal c.args.bus in
    let count : c.passes.result ≡ length c.args.roll.lists = c.passes.ensures ∙ ap (λ (s : RollSeen). length s.lists) r.roll in
    subst (λ (left : Journal). SettlesIn left c.passes.result c.args.passes.items) (sym c.into_left.ensures.left)
    (record {
      legal = b.legal;
      marks = marks;
      long = m.long;
      below = subst (λ n. AllBelow n marks) (sym count) m.below;
      each = marked-all c.args.roll.lists marks j.history c.args.passes.items m r.each;
      different = r.once;
      entered = subst (λ n. AllBelow n (numbers_of c.args.passes.items)) (sym count) r.below;
    })

pub returns-clause-gauges : goal.returns-clause-gauges
returns-clause-gauges g c =
    subst (λ (left : Journal). AreTrue left c.args.gauges.items) (sym c.into_left.ensures.left)
    (all_true c.args.keeper c.args.roll.number (g.B.Journaled.journal c.args.bus) c.args.gauges.items c.requires.published c.take_back_gauges.ensures.seen)
