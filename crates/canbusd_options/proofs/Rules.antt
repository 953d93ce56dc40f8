use Rattle.std.proofs.Common.{◌≡◌, ◌&&◌, not, ℕ, Bool, true, false, List, [], Option, Some, None, unwrap_or, refl, rules, ap, ap₂, ◌∙◌}
use Rattle.std.specs.Option.{UnwrapsOrElse, option_map}
use Rattle.clap.specs.declared.builder.arg.Arg.{Arg}
use Rattle.clap.specs.declared.builder.command.Command.{Command}
use Rattle.clap.specs.declared.parser.matches.ArgMatches.{ArgMatches}
use Rattle.clap.specs.Words.{AddsArg, AddsSubcommand, App, Rule, Text, all_of, app_of, first_of, first_value, found_of, matched_of, one_of, one_text, raw_values, rule_of, with_rule, with_subcommand}
use Rattle.clap.proofs.WalkLemmas.{first_value-rows, one_text-rows, raw_values-rows}
use Rattle.canbusd_options.specs.Options.{rows_in}

-- The rows of a parse, and the rules of a command.

-- the text that a getter reads is that of the rows
pub text_in_rows : (m : ArgMatches) (id : Text) → first_value (found_of m) id ≡ first_of id (rows_in m)
text_in_rows m id = first_value-rows (found_of m) id

pub flag_in_rows : (m : ArgMatches) (id : Text) → one_text (found_of m) id ≡ one_of id (rows_in m)
flag_in_rows m id = one_text-rows (found_of m) id

pub texts_in_rows : (m : ArgMatches) (id : Text) → option_map raw_values (matched_of (found_of m) id) ≡ all_of id (rows_in m)
texts_in_rows m id = raw_values-rows (found_of m) id

-- an argument that is added to a command adds its rule
pub added : (old new : Command) (a : Arg) (app : App) (r : Rule) → AddsArg old a new → a.global ≡ false → rule_of a ≡ r → app_of old ≡ app → app_of new ≡ with_rule app r
added old new a app r adds local rule is = adds.shape local ∙ ap₂ with_rule is rule

third : (a b c d : Bool) → (a && (not b && (not c && d))) ≡ true → c ≡ false
third true false false d e = refl
third true false true d e = absurd (search rules)
third true true c d e = absurd (search rules)
third false b c d e = absurd (search rules)

-- a subcommand that is added to a command adds its rules
pub below : (old sub new : Command) (app s : App) → AddsSubcommand old sub new → app_of sub ≡ s → s.top.is_plain ≡ true → app_of old ≡ app → app_of new ≡ with_subcommand app s.top
below old sub new app s adds built plain is =
    adds.shape (third _ _ _ _ (ap (λ (a : App). a.top.is_plain) built ∙ plain)) ∙ ap₂ with_subcommand is (ap (λ (a : App). a.top) built)

-- the texts of an option, or no texts if the option is absent
pub unwrapped : {A : Type 0} (f : A → List (List ℕ)) (o : Option A) (r : A) (P : A → Type 0) (rows : Option (List (List ℕ))) → UnwrapsOrElse o P r → (P r → f r ≡ []) → option_map f o ≡ rows → f r ≡ unwrap_or rows []
unwrapped f None r P rows is empty same = empty is ∙ ap (λ q. unwrap_or q []) same
unwrapped f (Some x) r P rows is empty same = ap f is ∙ ap (λ q. unwrap_or q []) same
