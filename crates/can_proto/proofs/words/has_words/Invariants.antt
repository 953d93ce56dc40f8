use Rattle.std.proofs.Common.{◌≡◌, ◌+◌, length}
use Rattle.can_proto.specs.Words.{words_of}
use Rattle.can_proto.proofs.words.has_words.Given as goal

abbrev pub invariant-loop : goal.invariant-loop
invariant-loop l = length (words_of l.rest) + l.counter ≡ length (words_of l.text)
