use Rattle.std.proofs.Common.{◌≡◌, ◌++◌, ◌∷◌, length}
use Rattle.std.specs.List.{flat_map, join_with_byte}
use Rattle.can_proto.specs.Words.{words_of}
use Rattle.can_proto.proofs.client_words.ClientWords.joined.Given as goal

-- the words so far and the remaining words, each with a space before it, are all the words
abbrev pub invariant-loop-next : goal.invariant-loop-next
invariant-loop-next l = join_with_byte 32 (l.fn.word ∷ words_of l.fn.rest) ≡ l.bytes.items ++ flat_map (λ w. 32 ∷ w) (words_of l.rest)

abbrev pub decreases-loop-next : goal.decreases-loop-next
decreases-loop-next l = length (words_of l.rest)
