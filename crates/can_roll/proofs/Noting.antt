-- The three steps that note calls: the roll calls their pass in, notes the calls, and sends the pass out again.
use Rattle.std.proofs.Common.{◌≡◌, ℕ, ◌<◌, List, [], ◌∷◌, ◌++◌, length, ap, ◌∙◌}
use Rattle.can_event.specs.declared.entry.Entry.{Entry}
use Rattle.can_roll.specs.declared.rule.View.{View}
use Rattle.can_roll.specs.declared.rule.View.TheVariants.{OfSlip}
use Rattle.can_roll.specs.Lists.{row, added_all, last_pass, without_last}
use Rattle.can_roll.specs.Seen.{RollSeen, roll_seen}
use Rattle.can_roll.proofs.Rows.{row_added_all}
use Rattle.can_roll.proofs.Passes.{last_at_end, without_at_end}

-- The roll after the calls are noted.
pub once_noted : (old in_hand new : RollSeen) (p : ℕ) (calls : List Entry)
    → in_hand ≡ roll_seen old.number old.lists (old.called ++ p ∷ [])
    → new ≡ roll_seen in_hand.number (added_all in_hand.lists (last_pass in_hand.called) calls) in_hand.called
    → new ≡ roll_seen old.number (added_all old.lists p calls) (old.called ++ p ∷ [])
once_noted old in_hand new p calls came noted =
    noted
    ∙ (λ k. roll_seen (came k).number (added_all (came k).lists (last_pass (came k).called) calls) (came k).called)
    ∙ ap (λ q. roll_seen old.number (added_all old.lists q calls) (old.called ++ p ∷ [])) (last_at_end old.called p)

-- The roll after the pass is sent out.
pub once_sent : (old in_hand new : RollSeen) (p : ℕ) (calls : List Entry)
    → in_hand ≡ roll_seen old.number (added_all old.lists p calls) (old.called ++ p ∷ [])
    → new ≡ roll_seen in_hand.number in_hand.lists (without_last in_hand.called)
    → new ≡ roll_seen old.number (added_all old.lists p calls) old.called
once_sent old in_hand new p calls noted went =
    went
    ∙ (λ k. roll_seen (noted k).number (noted k).lists (without_last (noted k).called))
    ∙ ap (λ ps. roll_seen old.number (added_all old.lists p calls) ps) (without_at_end old.called p)

-- The view of the pass's new slip.
pub slip_again : (old in_hand : RollSeen) (p : ℕ) (calls : List Entry) (views : List View)
    → in_hand ≡ roll_seen old.number (added_all old.lists p calls) (old.called ++ p ∷ [])
    → p < length old.lists
    → views ≡ OfSlip (last_pass in_hand.called) (row in_hand.lists (last_pass in_hand.called)) ∷ []
    → views ≡ OfSlip p (calls ++ row old.lists p) ∷ []
slip_again old in_hand p calls views noted below are =
    are
    ∙ (λ k. OfSlip (last_pass (noted k).called) (row (noted k).lists (last_pass (noted k).called)) ∷ [])
    ∙ ap (λ q. OfSlip q (row (added_all old.lists p calls) q) ∷ []) (last_at_end old.called p)
    ∙ ap (λ l. OfSlip p l ∷ []) (row_added_all old.lists p calls below)
