use Rattle.std.proofs.Common.{◌≡◌, sym, ◌∙◌, lit<, rules, tests}
use Rattle.std.specs.List.{list_all, enumerate_from}
use Rattle.std.proofs.lemmas.Iterator.Consumers.{YieldsList-from_enumerate}
use Rattle.std.proofs.lemmas.Iterator.Search.{all_from_yields_List}
use Rattle.std.proofs.lemmas.Iterator.Splits.{YieldsList-from_str_split}
use Rattle.can_frame.specs.Names.{names_in}
use Rattle.can_frame.proofs.Naming.{stands_first, distinct-from_places, places-from_distinct}
use Rattle.can_frame.proofs.names.are_distinct.Goals as goal

pub returns : goal.returns
returns c =
    let names = names_in c.args.text.now in
    let all : c.all.result ≡ list_all (stands_first names) (enumerate_from 0 names) = all_from_yields_List (stands_first names) _ _ _ c.all.ensures.ran (YieldsList-from_enumerate (YieldsList-from_str_split 44 c.args.text.now (lit< tt) (cc) (cc) (cc)) (cc)) (λ x b q k. search (rules, tests)) in
    (λ h. distinct-from_places names (sym all ∙ h), λ h. all ∙ places-from_distinct names h)
