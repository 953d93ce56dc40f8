use Rattle.std.proofs.Common.{map, take}
use Rattle.canbusd_options.specs.BitsOptions.{AreFramesOf}
use Rattle.canbusd_options.proofs.bits_options.read_frames.Given as goal

abbrev pub invariant-loop-word : goal.invariant-loop-word
invariant-loop-word l = AreFramesOf l.frames.items (map (λ word. word.now) (take l.word-index l.words))
