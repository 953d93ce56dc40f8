use Rattle.std.proofs.Common.{◌≡◌, ◌||◌, false, map, Some, None, rules, tests, ap, sym, ◌∙◌}
use Rattle.std.specs.List.{list_any}
use Rattle.std.proofs.lemmas.Iterator.{YieldsList-from_slice}
use Rattle.std.proofs.lemmas.Iterator.Search.{any_from_yields_List}
use Rattle.clap.proofs.WalkLemmas.{list_any-map}
use Rattle.canbusd_options.specs.BusWords.{names_part}
use Rattle.canbusd_options.specs.RateWords.{is_for}
use Rattle.canbusd_options.proofs.bit_rates.is_known.Goals as goal

pub returns-else-is_for : goal.returns-else-is_for
returns-else-is_for c =
    let word = c.args.word.now in
    let buses = c.args.buses.now in
    let own : is_for None word ≡ false = sym c.is_for.ensures ∙ c.if-is_for.false in
    let any : c.any.result ≡ list_any (λ bus. is_for (Some (names_part bus.now)) word) buses =
    any_from_yields_List (λ bus. is_for (Some (names_part bus.now)) word) _ _ c.any.result c.any.ensures.ran (YieldsList-from_slice buses cc) (λ x b q k. search (rules, tests)) in
    any ∙ list_any-map (λ bus. is_for (Some (names_part bus)) word) (λ bus. bus.now) buses
    ∙ ap (λ b. b || list_any (λ bus. is_for (Some (names_part bus)) word) (map (λ bus. bus.now) buses)) (sym own)
