use Rattle.std.proofs.Common.{◌≡◌, ◌++◌, reverse, ap, sym, ◌∙◌}
use Rattle.can_roll.specs.Lists.{row}
use Rattle.can_roll.specs.Seen.{ScrollSeen, scroll_seen}
use Rattle.can_roll.proofs.Scrolls.{handed_then, one_still, same_entries, scroll_then}
use Rattle.can_roll.proofs.scroll.HandedOut.hand_out.Goals as goal

pub invariant_of-self : goal.invariant_of-self
invariant_of-self g c = one_still c.self.inside.roll c.note_all.new.self c.scroll.inside.slip.pass (reverse c.args.block.now.entries) c.self.invariant c.note_all.ensures.below c.note_all.ensures.roll

pub returns : goal.returns
returns g c =
    let handed : scroll_seen c.self.inside.roll.number (reverse (row c.self.inside.roll.lists 0)) ≡ c.args.self.now = c.self.view_is in
    let scroll : scroll_seen c.scroll.inside.slip.number (reverse c.scroll.inside.slip.calls) ≡ c.args.scroll.now = c.scroll.view_is in
    let block = c.args.block.now.entries in
    record {
      before = sym (ap (λ (s : ScrollSeen). s.entries) scroll)
          ∙ same_entries c.self.inside.roll c.scroll.inside.slip c.self.invariant c.note_all.ensures.below c.note_all.ensures.before
          ∙ ap (λ (s : ScrollSeen). s.entries) handed;
      handed = handed_then c.self.inside.roll c.note_all.new.self c.scroll.inside.slip.pass block c.self.invariant c.note_all.ensures.below c.note_all.ensures.roll
          ∙ ap (λ (s : ScrollSeen). scroll_seen s.number (s.entries ++ block)) handed;
      scroll = scroll_then c.scroll.inside.slip c.note_all.new.slip block c.note_all.ensures.slip
          ∙ ap (λ (s : ScrollSeen). scroll_seen s.number (s.entries ++ block)) scroll;
    }
