use Rattle.std.proofs.Common.{ℕ, [], List, map, sym, subst}
use Rattle.std.specs.Prelude.{All}
use Rattle.std.proofs.lemmas.List.{take_all}
use Rattle.std.proofs.lemmas.List.Elements.{All-map, All-more}
use Rattle.canbusd_options.specs.Help.{IsNoMemory}
use Rattle.canbusd_options.specs.Options.{AreRatesWithin, IsNumberWithin}
use Rattle.canbusd_options.specs.RateWords.{number_in_word}
use Rattle.canbusd_options.proofs.GivenWords.{at_word}
use Rattle.canbusd_options.proofs.Helping.{passed_on}
use Rattle.canbusd_options.proofs.bit_rates.RateOption.check_numbers.Goals as goal
use denote.Ref.{Bor}

pub loop-word-preserved : goal.loop-word-preserved
loop-word-preserved c =
    let none : Bor (List ℕ) = record { ref_ptr = (0, 0); now = [] } in
    let n = c.in_ok-text_within.field-0 in
    All-more (λ word. IsNumberWithin 5000 c.args.most (number_in_word word.now)) c.args.self.now.words.now c.loop-word.word-index none c.loop-word-test.true c.loop-word.invariant
    (subst (λ text. IsNumberWithin 5000 c.args.most text) c.read.ensures.number (n, c.in_ok-text_within.ensures.number, c.in_ok-text_within.ensures.least, c.in_ok-text_within.ensures.most))

pub returns-in_err-text_within-clause-taken : goal.returns-in_err-text_within-clause-taken
returns-in_err-text_within-clause-taken c =
    let words = c.args.self.now.words.now in
    let none : Bor (List ℕ) = record { ref_ptr = (0, 0); now = [] } in
    let most = c.args.most in
    passed_on (λ e. AreRatesWithin most (map (λ word. word.now) words) → IsNoMemory e) c.in_err-text_within.field-0.0 c.from_residual.result c.from_residual.ensures.1
    (λ all. c.in_err-text_within.ensures.taken (subst (λ text. IsNumberWithin 5000 most text) (sym c.read.ensures.number)
    (at_word (λ word. IsNumberWithin 5000 most (number_in_word word)) words none c.loop-word.word-index c.loop-word-test.true all)))

pub returns-clause-given : goal.returns-clause-given
returns-clause-given c =
    let words = c.args.self.now.words.now in
    All-map (λ word. IsNumberWithin 5000 c.args.most (number_in_word word)) (λ word. word.now) words
    (subst (All (λ word. IsNumberWithin 5000 c.args.most (number_in_word word.now))) (take_all c.loop-word.word-index words c.loop-word-test.false) c.loop-word.invariant)
