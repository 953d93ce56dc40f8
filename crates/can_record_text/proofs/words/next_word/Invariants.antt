use Rattle.std.proofs.Common.{◌≡◌, ◌++◌, take, drop}
use Rattle.can_record_text.specs.inner.Words.{word, after}
use Rattle.can_record_text.proofs.words.next_word.Given as goal

abbrev pub invariant-loop-end : goal.invariant-loop-end
invariant-loop-end l = record {
  word : word l.text ≡ take l.end l.text ++ word (drop l.end l.text);
  after : after l.text ≡ after (drop l.end l.text);
}
