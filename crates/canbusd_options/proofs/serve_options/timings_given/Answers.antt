use Rattle.std.proofs.Common.{map}
use Rattle.canbusd_options.specs.Help.{IsNoMemory}
use Rattle.canbusd_options.specs.Options.{GiveTimings, rows_in}
use Rattle.canbusd_options.proofs.Helping.{passed_on}
use Rattle.canbusd_options.proofs.Timings.{give_each, numbers_in, timed_all}
use Rattle.canbusd_options.proofs.serve_options.timings_given.Goals as goal

pub returns-in_err-timings-clause-taken : goal.returns-in_err-timings-clause-taken
returns-in_err-timings-clause-taken c =
    let rows = rows_in c.args.serve.now in
    let buses = map (λ word. word.now) c.args.words.now in
    passed_on (λ e. GiveTimings rows buses → IsNoMemory e) c.in_err-timings.field-0.0 c.from_residual-in_err-timings.result c.from_residual-in_err-timings.ensures.1
    (λ give. c.in_err-timings.ensures.taken (give_each rows c.in_ok-rates.rates buses c.in_ok-rates.ensures.words give))

pub returns-clause-given : goal.returns-clause-given
returns-clause-given c =
    let rows = rows_in c.args.serve.now in
    let buses = map (λ word. word.now) c.args.words.now in
    record {
      taken = record {
        together = c.in_ok-rates.ensures.given;
        numbers = numbers_in rows c.in_ok-rates.rates c.in_ok-rates.ensures.words c.in_ok-check_numbers.ensures.given;
      };
      each = timed_all rows c.in_ok-rates.rates buses c.in_ok-timings.timings.items c.in_ok-rates.ensures.words c.in_ok-timings.ensures.given;
    }
