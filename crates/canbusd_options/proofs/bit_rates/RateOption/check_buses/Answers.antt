use Rattle.std.proofs.Common.{◌≡◌, map, not, Some, None, sym, ap, ◌∙◌}
use Rattle.std.specs.List.{find}
use Rattle.canbusd_options.specs.BusWords.{names_part}
use Rattle.canbusd_options.specs.Options.{word_in}
use Rattle.canbusd_options.specs.RateWords.{is_known, is_once}
use Rattle.canbusd_options.proofs.GivenWords.{all_pass, none_fails}
use Rattle.canbusd_options.proofs.bit_rates.RateOption.check_buses.Goals as goal

pub returns-in-Some-clause-taken : goal.returns-in-Some-clause-taken
returns-in-Some-clause-taken c = λ go.
    let words = map (λ word. word.now) c.args.self.now.words.now in
    let buses = map (λ bus. bus.now) c.args.buses.now in
    let there : Some c.in-Some.word.now ≡ find (λ word. not (is_known buses word)) words = ap word_in (sym c.in-Some.is) ∙ c.unknown_word.ensures in
    let none : find (λ word. not (is_known buses word)) words ≡ None = none_fails (is_known buses) words go.known in
    cc

pub returns-in_ok-twice_error-in-Some-bus_with_two-clause-taken : goal.returns-in_ok-twice_error-in-Some-bus_with_two-clause-taken
returns-in_ok-twice_error-in-Some-bus_with_two-clause-taken c = λ go.
    let words = map (λ word. word.now) c.args.self.now.words.now in
    let buses = map (λ bus. bus.now) c.args.buses.now in
    let there : Some c.in-Some-bus_with_two.bus.now ≡ find (λ bus. not (is_once words (Some (names_part bus)))) buses =
    ap word_in (sym c.in-Some-bus_with_two.is) ∙ c.bus_with_two.ensures in
    let none : find (λ bus. not (is_once words (Some (names_part bus)))) buses ≡ None = none_fails (λ bus. is_once words (Some (names_part bus))) buses go.once_for_each in
    cc

pub returns-in-None-clause-given : goal.returns-in-None-clause-given
returns-in-None-clause-given c =
    let words = map (λ word. word.now) c.args.self.now.words.now in
    let buses = map (λ bus. bus.now) c.args.buses.now in
    record {
      known = all_pass (is_known buses) words (sym c.unknown_word.ensures ∙ ap word_in c.in_default.is);
      once_for_all = sym c.is_once.ensures ∙ c.if-not-is_once.false;
      once_for_each = all_pass (λ bus. is_once words (Some (names_part bus))) buses (sym c.bus_with_two.ensures ∙ ap word_in c.in-None.is);
    }
