use Rattle.std.proofs.Common.{◌≡◌, map, not, rules, tests, ap, sym, ◌∙◌}
use Rattle.std.specs.List.{find}
use Rattle.std.specs.Option.{option_map}
use Rattle.std.proofs.lemmas.Iterator.{YieldsList-from_slice}
use Rattle.std.proofs.lemmas.Iterator.Adapters.{option_map_id}
use Rattle.std.proofs.lemmas.Iterator.Consumers.{YieldsList-from_copied}
use Rattle.std.proofs.lemmas.Iterator.Search.{find_from_yields_List}
use Rattle.clap.proofs.WalkLemmas.{find-map}
use Rattle.canbusd_options.specs.RateWords.{is_known}
use Rattle.canbusd_options.proofs.bit_rates.RateOption.unknown_word.Goals as goal

pub returns : goal.returns
returns c =
    let words = c.args.self.now.words.now in
    let buses = map (λ bus. bus.now) c.args.buses.now in
    let found : option_map (λ x. x) c.find.result ≡ find (λ word. not (is_known buses word.now)) words =
    find_from_yields_List (λ word. not (is_known buses word.now)) _ _ c.find.result c.find.ensures.ran (YieldsList-from_copied (YieldsList-from_slice words cc)) (λ x b q k. search (rules, tests)) in
    ap (option_map (λ word. word.now)) (sym (option_map_id c.find.result) ∙ found) ∙ find-map (λ word. not (is_known buses word)) (λ word. word.now) words
