use Rattle.std.proofs.Common.{◌≡◌, ◌++◌, false, drop, take}
use Rattle.can_proto.specs.Words.{words_after, front}
use Rattle.can_proto.proofs.words.letters.Given as goal

abbrev pub invariant-loop-i : goal.invariant-loop-i
invariant-loop-i l = record {
  word : front l.text ≡ take l.i l.text ++ front (drop l.i l.text);
  rest : words_after false l.text ≡ words_after false (drop l.i l.text);
}
