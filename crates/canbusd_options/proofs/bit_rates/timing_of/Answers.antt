use Rattle.std.proofs.Common.{◌≡◌, Some, rules, sym, subst}
use Rattle.can_wire.specs.Times.{AreBitRates}
use Rattle.can_wire.specs.Timings.{timing_of}
use Rattle.canbusd_options.specs.Options.{IsTimingOf, word_in}
use Rattle.canbusd_options.proofs.bit_rates.timing_of.Goals as goal

pub returns-clause-given : goal.returns-clause-given
returns-clause-given c =
    let allowed : AreBitRates (timing_of c.in_ok-nominal.nominal (Some c.in_ok-fast.fast)).rates = search rules in
    let timing : c.unwrap-2.result ≡ timing_of c.in_ok-nominal.nominal (Some c.in_ok-fast.fast) = search rules in
    subst (λ text. IsTimingOf c.args.bitrate.now (word_in text) c.unwrap-2.result) (sym c.in-Some.is) (record {
      nominal = c.in_ok-nominal.nominal;
      fast = Some c.in_ok-fast.fast;
      number = c.in_ok-nominal.ensures.number;
      data_number = c.in_ok-fast.ensures.number;
      allowed = allowed;
      timing = timing;
    })
