use Rattle.std.proofs.Common.{◌≡◌, ◌∙◌, List, ℕ, Option, Some, None, IfSome, sym}
use Rattle.can_frame.specs.declared.item.Item.{Item}
use Rattle.can_frame.specs.FrameText.{IsItem}
use Rattle.can_frame.specs.FrameGuess.{item_in}
use Rattle.can_frame.proofs.Guessing.{guessed}
use Rattle.can_frame.proofs.Guessed.{item-good}
use Rattle.can_frame.proofs.frame_guess.guess_item.Goals as goal

pub returns-clause-good : goal.returns-clause-good
returns-clause-good c = is_item c.args.text.now c.by_mark.result c.by_mark.ensures
  where
    is_item : (text : List ℕ) (r : Option Item) → r ≡ item_in text → IfSome r IsItem
    is_item text (Some i) e = item-good text i (sym e)
    is_item text None e = tt

pub returns-clause-only : goal.returns-clause-only
returns-clause-only c i good spells = c.by_mark.ensures ∙ guessed c.args.text.now i good spells
