use Rattle.std.specs.Prelude.{ℕ, List, [], ◌∷◌, codes, None}
use Rattle.can_frame.specs.Frames.{CanFrame}
use Rattle.can_frame.specs.FrameText.{IsItem, Spells}
use Rattle.can_frame.specs.declared.item.Item.TheVariants as item
use Rattle.clap.specs.Words.{Row}
use Rattle.canbusd_options.specs.declared.bits_options.BitsOptions.{BitsOptions}
use Rattle.canbusd_options.specs.Options.{IsTimed, value_of, words_given}

-- The options of the command `bits`, as the values of a command line's arguments give them (own choice).

-- the text spells this frame
abbrev pub IsFrameOf : CanFrame → List ℕ → Type 0
IsFrameOf f text = IsItem (item.Data f) × Spells text (item.Data f)

-- the text spells a frame
abbrev pub GiveFrame : List ℕ → Type 0
GiveFrame text = (f : CanFrame) × IsFrameOf f text

-- each text spells the frame at the same place
abbrev pub AreFramesOf : List CanFrame → List (List ℕ) → Type 0
AreFramesOf [] [] = Unit {0}
AreFramesOf (f ∷ frames) (text ∷ texts) = IsFrameOf f text × AreFramesOf frames texts
AreFramesOf _ _ = ⊥

-- each text spells a frame
abbrev pub GiveFrames : List (List ℕ) → Type 0
GiveFrames texts = (frames : List CanFrame) × AreFramesOf frames texts

-- the rows give these options of `bits`
pub record AreBitsOptions (rows : List Row) (o : BitsOptions) : Type 0 where
  pub frame : IsFrameOf o.frame (value_of rows (codes "FRAME"))
  pub others : AreFramesOf o.others.items (words_given rows (codes "OTHER"))
  pub timed : IsTimed rows [] None o.timing

-- the rows give valid options of `bits`
abbrev pub GiveBitsOptions : List Row → Type 0
GiveBitsOptions rows = (o : BitsOptions) × AreBitsOptions rows o
