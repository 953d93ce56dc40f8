use Rattle.std.proofs.Common.{◌+◌, ℕ, [], List, Some, map, take, sym, subst}
use Rattle.std.specs.Prelude.{All}
use Rattle.std.specs.List.{AllZip}
use Rattle.canbusd_options.specs.BusWords.{names_part}
use Rattle.canbusd_options.specs.Help.{IsNoMemory}
use Rattle.canbusd_options.specs.Options.{GiveRatesOf, HasRatesFor, HasRatesOf}
use Rattle.canbusd_options.proofs.GivenWords.{at_word}
use Rattle.canbusd_options.proofs.Helping.{passed_on}
use Rattle.canbusd_options.proofs.Timings.{zip_more}
use Rattle.canbusd_options.proofs.serve_options.read_timings.Goals as goal
use denote.Ref.{Bor}

pub loop-word-preserved : goal.loop-word-preserved
loop-word-preserved c =
    let none : Bor (List ℕ) = record { ref_ptr = (0, 0); now = [] } in
    let words = c.args.words.now in
    let rates = c.args.rates.now in
    subst (AllZip (HasRatesFor rates) (map (λ word. word.now) (take (c.loop-word.word-index + 1) words))) (sym c.in_ok-push.ensures.items)
    (zip_more (HasRatesFor rates) (λ word. word.now) words c.loop-word.timings.items c.loop-word.word-index none c.in_ok-timing.timing c.loop-word-test.true c.loop-word.invariant
    (subst (λ names. HasRatesOf rates (Some names) c.in_ok-timing.timing) c.read.ensures.names c.in_ok-timing.ensures.given))

pub returns-in_err-timing-clause-taken : goal.returns-in_err-timing-clause-taken
returns-in_err-timing-clause-taken c =
    let none : Bor (List ℕ) = record { ref_ptr = (0, 0); now = [] } in
    let words = c.args.words.now in
    let rates = c.args.rates.now in
    passed_on (λ e. All (λ word. GiveRatesOf rates (Some (names_part word))) (map (λ word. word.now) words) → IsNoMemory e) c.in_err-timing.field-0.0 c.from_residual.result c.from_residual.ensures.1
    (λ all. c.in_err-timing.ensures.taken (subst (λ names. GiveRatesOf rates (Some names)) (sym c.read.ensures.names)
    (at_word (λ word. GiveRatesOf rates (Some (names_part word))) words none c.loop-word.word-index c.loop-word-test.true all)))
