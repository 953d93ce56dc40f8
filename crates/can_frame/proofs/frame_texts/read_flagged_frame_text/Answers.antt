use Rattle.std.proofs.Common.{refl, arith}
use Rattle.std.proofs.lemmas.List.{length-map}
use Rattle.std.specs.Char.{to_ascii_uppercase}
use Rattle.can_frame.specs.FrameText.{upper}
use Rattle.can_frame.proofs.Guessing.{short}
use Rattle.can_frame.proofs.frame_texts.read_flagged_frame_text.Goals as goal

pub returns-then-text-gt144-clause-only : goal.returns-then-text-gt144-clause-only
returns-then-text-gt144-clause-only c i good spells =
    let fits = short (upper c.args.text.now) i good spells in
    absurd (omega (arith, c.if-text-gt144.true, fits, length-map c.args.text.now to_ascii_uppercase))

pub returns-then-text-gt144-clause-bad : goal.returns-then-text-gt144-clause-bad
returns-then-text-gt144-clause-bad c = (
  λ _ i good spells.
      let fits = short (upper c.args.text.now) i good spells in
      omega (arith, c.if-text-gt144.true, fits, length-map c.args.text.now to_ascii_uppercase),
  λ _. refl,
)
