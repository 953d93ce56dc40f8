use Rattle.std.proofs.Common.{All, take}
use Rattle.canbusd_options.specs.Options.{IsNumberWithin}
use Rattle.canbusd_options.specs.RateWords.{number_in_word}
use Rattle.canbusd_options.proofs.bit_rates.RateOption.check_numbers.Given as goal

abbrev pub invariant-loop-word : goal.invariant-loop-word
invariant-loop-word l = All (λ word. IsNumberWithin 5000 l.most (number_in_word word.now)) (take l.word-index l.self.words.now)
