use Rattle.std.proofs.Common.{◌≡◌, ◌∷◌, [], Option, Some, List, ℕ, codes, unwrap_or, rules, ap, sym, subst, ◌∙◌}
use Rattle.std.proofs.lemmas.Bool.{false≢true}
use Rattle.clap.specs.Words.{first_of, first_value, found_of}
use Rattle.canbusd_options.specs.BusWords.{names_part, path_of, script_part}
use Rattle.canbusd_options.specs.Options.{AreOneFile, IsTimed, value_of, rows_in}
use Rattle.canbusd_options.proofs.Rules.{flag_in_rows, text_in_rows}
use Rattle.canbusd_options.proofs.bench_options.bench_options.Goals as goal

pub returns-clause-given : goal.returns-clause-given
returns-clause-given c =
    let m = c.args.bench.now in
    let rows = rows_in m in
    let read : c.unwrap_or-word.result.now ≡ unwrap_or (first_value (found_of m) (codes "BUS")) [] = search rules in
    let word : c.unwrap_or-word.result.now ≡ value_of rows (codes "BUS") = read ∙ ap (λ o. unwrap_or o []) (text_in_rows m (codes "BUS")) in
    let kept : path_of c.get_str-record.result ≡ first_of (codes "record") rows = c.get_str-record.ensures ∙ text_in_rows m (codes "record") in
    let logged : path_of c.get_str-log.result ≡ first_of (codes "log") rows = c.get_str-log.ensures ∙ text_in_rows m (codes "log") in
    record {
      settings = c.in_ok-settings.ensures.given;
      bus = (c.read-bus.ensures.names ∙ ap names_part word, c.read-bus.ensures.script ∙ ap script_part word);
      timed = subst (λ w. IsTimed rows (w ∷ []) (Some c.read-bus.result.names.now) c.in_ok-timing.timing) word c.in_ok-timing.ensures.given;
      kept = kept;
      logged = logged;
      apart = λ one. false≢true (sym c.if-are_one_file.false ∙ c.are_one_file.ensures.1
          (subst (λ o. AreOneFile o (path_of c.get_str-log.result)) (sym kept) (subst (λ o. AreOneFile (first_of (codes "record") rows) o) (sym logged) one)));
      strict = λ on. c.get_flag.ensures.value (flag_in_rows m (codes "strict") ∙ on);
      lenient = λ off. c.get_flag.ensures.other (flag_in_rows m (codes "strict") ∙ off);
      showing = λ on. c.get_flag-2.ensures.value (flag_in_rows m (codes "show-faults") ∙ on);
      hiding = λ off. c.get_flag-2.ensures.other (flag_in_rows m (codes "show-faults") ∙ off);
    }
