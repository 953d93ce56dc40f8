use Rattle.std.proofs.Common.{◌≡◌, [], codes, unwrap_or, rules, ap, sym, ◌∙◌}
use Rattle.clap.specs.Words.{first_value, found_of}
use Rattle.canbusd_options.specs.Options.{value_of, rows_in}
use Rattle.canbusd_options.proofs.Rules.{text_in_rows}
use Rattle.canbusd_options.proofs.bus_options.is_on.Goals as goal

pub returns : goal.returns
returns c =
    let read : c.unwrap_or.result.now ≡ unwrap_or (first_value (found_of c.args.matches.now) c.args.flag.now) [] = search rules in
    let rows : value_of (rows_in c.args.matches.now) c.args.flag.now ≡ c.unwrap_or.result.now = ap (λ o. unwrap_or o []) (sym (text_in_rows c.args.matches.now c.args.flag.now)) ∙ sym read in (
      λ yes. let same : c.unwrap_or.result.now ≡ codes "true" = search (rules, yes) in rows ∙ same,
      λ is. let same : c.unwrap_or.result.now ≡ codes "true" = sym rows ∙ is in search (rules, same),
    )
