use Rattle.std.proofs.Common.{◌≡◌, Some, map, not, rules, tests, ap, sym, ◌∙◌}
use Rattle.std.specs.List.{find}
use Rattle.std.specs.Option.{option_map}
use Rattle.std.proofs.lemmas.Iterator.{YieldsList-from_slice}
use Rattle.std.proofs.lemmas.Iterator.Adapters.{option_map_id}
use Rattle.std.proofs.lemmas.Iterator.Consumers.{YieldsList-from_copied}
use Rattle.std.proofs.lemmas.Iterator.Search.{find_from_yields_List}
use Rattle.clap.proofs.WalkLemmas.{find-map}
use Rattle.canbusd_options.specs.BusWords.{names_part}
use Rattle.canbusd_options.specs.RateWords.{is_once}
use Rattle.canbusd_options.proofs.bit_rates.RateOption.bus_with_two.Goals as goal

pub returns : goal.returns
returns c =
    let words = map (λ word. word.now) c.args.self.now.words.now in
    let buses = c.args.buses.now in
    let found : option_map (λ x. x) c.find.result ≡ find (λ bus. not (is_once words (Some (names_part bus.now)))) buses =
    find_from_yields_List (λ bus. not (is_once words (Some (names_part bus.now)))) _ _ c.find.result c.find.ensures.ran (YieldsList-from_copied (YieldsList-from_slice buses cc)) (λ x b q k. search (rules, tests)) in
    ap (option_map (λ bus. bus.now)) (sym (option_map_id c.find.result) ∙ found) ∙ find-map (λ bus. not (is_once words (Some (names_part bus)))) (λ bus. bus.now) buses
