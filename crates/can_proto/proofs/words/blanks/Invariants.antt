use Rattle.std.proofs.Common.{◌≡◌, drop}
use Rattle.can_proto.specs.Words.{words_of}
use Rattle.can_proto.proofs.words.blanks.Given as goal

abbrev pub invariant-loop-i : goal.invariant-loop-i
invariant-loop-i l = words_of l.text ≡ words_of (drop l.i l.text)
