use Rattle.std.proofs.Common.{◌≡◌, ℕ, ◌+◌, ◌^◌, ◌<◌, ◌==◌, Bool, true, false, cond, List, [], ◌∷◌, ◌++◌, length, Some, Result, Ok, Err, if◌then◌else◌, refl, ap, sym, ◌∙◌, ⊎_elim, arith, append_assoc, codes}
use Rattle.std.specs.Prelude.{◌||◌, decimal}
use Rattle.std.specs.List.{onto_first}
use Rattle.std.specs.Str.{bytes_eq}
use Rattle.std.proofs.lemmas.Bool.Decides.{nat_tests}
use Rattle.std.proofs.lemmas.Fmt.{decimal_by_steps}
use Rattle.std.proofs.lemmas.List.Splits.{length-slice_split}
use Rattle.can_fault.specs.Scripts.{lines_in}
use Rattle.can_rules.specs.declared.run_faults.Change.TheVariants as change
use Rattle.can_rules.specs.declared.run_faults.Later.{Later}
use Rattle.can_rules.specs.declared.plan.PlanError.{PlanError}
use Rattle.can_rules.specs.declared.plan.PlanError.TheVariants as plan
use Rattle.can_rules.specs.declared.rule.Rule.{Rule}
use Rattle.can_fault.specs.declared.script.ScriptError.TheVariants as script
use Rattle.can_rules.specs.Plans.{gone_on, line_taken}
use Rattle.can_rules.specs.RuleLines.{given_words, given_line, nofaults_words, nofaults_line, IsOfLines, with_change}
use Rattle.can_rules.specs.RuleWords.{rule_spelling}
use Rattle.can_rules.specs.RunFaults.{RunSeen, no_run, is_later, later_spelling, may_come, with_later, run_with_plan, run_line, run_lines, run_spelling}
use Rattle.can_rules.proofs.OneLine.{has_feed, neither, feed-append}
use Rattle.can_rules.proofs.RuleOneLine.{rule-one-line}
use Rattle.can_rules.proofs.Cuts.{word-cut}
use Rattle.can_rules.proofs.Reading.{given-again, ended-again}

-- Lines that are appended to a text of whole lines are read after that text.

-- The lines of a text that goes on after a line feed.
some-lines : (text : List ℕ) → 0 < length (lines_in text)
some-lines text = omega (arith, length-slice_split (λ (b : ℕ). b == 10) text)

onto-more : (b : ℕ) (lines more : List (List ℕ)) → 0 < length lines → onto_first b (lines ++ more) ≡ onto_first b lines ++ more
onto-more b [] more some = absurd (omega (arith, some))
onto-more b (line ∷ lines) more some = refl

lines-more : (front rest : List ℕ) → lines_in (front ++ 10 ∷ rest) ≡ lines_in front ++ lines_in rest
lines-more [] rest = refl
lines-more (b ∷ bs) rest =
    ap (λ (lines : List (List ℕ)). cond (b == 10) ([] ∷ lines) (onto_first b lines)) (lines-more bs rest)
    ∙ (elim (b == 10) as (λ t. cond t ([] ∷ (lines_in bs ++ lines_in rest)) (onto_first b (lines_in bs ++ lines_in rest)) ≡ cond t ([] ∷ lines_in bs) (onto_first b (lines_in bs)) ++ lines_in rest) [
      | true ↦ refl
      | false ↦ onto-more b (lines_in bs) (lines_in rest) (some-lines bs)
    ])

one-line : (line : List ℕ) → has_feed line ≡ false → lines_in line ≡ line ∷ []
one-line [] h = refl
one-line (b ∷ bs) h =
    let parts = neither (b == 10) (has_feed bs) h in
    rw (parts.0, one-line bs parts.1) refl

pub rule-line : (names : List (List ℕ)) (words : List ℕ) (rule : Rule) → rule_spelling names words ≡ Ok rule → lines_in words ≡ words ∷ []
rule-line names words rule read = one-line words (rule-one-line names words rule read)

-- A text of whole lines splits into its lines and an empty last line.
lines-of : (text : List ℕ) → IsOfLines text → (lines : List (List ℕ)) × ((line : List ℕ) → has_feed line ≡ false → lines_in (text ++ (line ++ 10 ∷ [])) ≡ lines ++ line ∷ [] ∷ []) × (lines_in text ≡ lines ++ [] ∷ [])
lines-of text whole = ⊎_elim (λ none. let parts = ended none in ([], parts.0, parts.1)) (λ some. let parts = more some.0 some.1 in (lines_in some.0, parts.0, parts.1)) whole
  where
    last : (line : List ℕ) → has_feed line ≡ false → lines_in (line ++ 10 ∷ []) ≡ line ∷ [] ∷ []
    last line h = lines-more line [] ∙ ap (λ (lines : List (List ℕ)). lines ++ [] ∷ []) (one-line line h)

    ended : text ≡ [] → ((line : List ℕ) → has_feed line ≡ false → lines_in (text ++ (line ++ 10 ∷ [])) ≡ line ∷ [] ∷ []) × (lines_in text ≡ [] ∷ [])
    ended none = (λ line h. ap (λ (t : List ℕ). lines_in (t ++ (line ++ 10 ∷ []))) none ∙ last line h, ap lines_in none)

    more : (front : List ℕ) → text ≡ front ++ 10 ∷ [] → ((line : List ℕ) → has_feed line ≡ false → lines_in (text ++ (line ++ 10 ∷ [])) ≡ lines_in front ++ line ∷ [] ∷ []) × (lines_in text ≡ lines_in front ++ [] ∷ [])
    more front is = (
      λ line h. ap (λ (t : List ℕ). lines_in (t ++ (line ++ 10 ∷ []))) is ∙ ap lines_in (append_assoc front (10 ∷ []) (line ++ 10 ∷ []))
          ∙ lines-more front (line ++ 10 ∷ []) ∙ ap (λ (lines : List (List ℕ)). lines_in front ++ lines) (last line h),
      ap lines_in is ∙ lines-more front [],
    )

-- A run text with the line of one more change has one more change.
same-run : (one other : RunSeen) → ◌≡◌ {A = Result RunSeen PlanError} (Ok one) (Ok other) → one ≡ other
same-run one other h = cc

change-after : (names lines : List (List ℕ)) (known run : RunSeen) (n : ℕ) (line : List ℕ) (next : Later) → is_later line ≡ true → later_spelling names line ≡ Ok next → may_come run.later next.attempt ≡ true
    → run_lines names known n (lines ++ [] ∷ []) ≡ Ok run → run_lines names known n (lines ++ line ∷ [] ∷ []) ≡ Ok (with_change next run)
change-after names [] known run n line next is read may h =
    let same : known ≡ run = same-run known run h in
    let on : RunSeen → Result RunSeen PlanError = λ r. run_lines names r (n + 1) ([] ∷ []) in
    let may_here : may_come known.later next.attempt ≡ true = ap (λ (r : RunSeen). may_come r.later next.attempt) same ∙ may in
    ap (λ (b : Bool). gone_on (if b then with_later known n (later_spelling names line) else run_with_plan known (line_taken names known.plan n line)) on) is
    ∙ ap (λ (r : Result Later _). gone_on (with_later known n r) on) read
    ∙ ap (λ (b : Bool). gone_on (if b then Ok (with_change next known) else Err (plan.Script (script.BadLine n))) on) may_here
    ∙ ap (λ (r : RunSeen). Ok (with_change next r)) same
change-after names (first ∷ more) known run n line next is read may h =
    (elim (run_line names known n first) as (λ r. gone_on r (λ k. run_lines names k (n + 1) (more ++ [] ∷ [])) ≡ Ok run → gone_on r (λ k. run_lines names k (n + 1) (more ++ line ∷ [] ∷ [])) ≡ Ok (with_change next run)) [
      | Ok k ↦ λ e. change-after names more k run (n + 1) line next is read may e
      | Err why ↦ λ e. absurd (cc e)
    ]) h

after-text : (names : List (List ℕ)) (text line : List ℕ) (run : RunSeen) (next : Later) → IsOfLines text → run_spelling names text ≡ Ok run → may_come run.later next.attempt ≡ true → has_feed line ≡ false → is_later line ≡ true → later_spelling names line ≡ Ok next
    → run_spelling names (text ++ (line ++ 10 ∷ [])) ≡ Ok (with_change next run)
after-text names text line run next whole read may lacks is later =
    let (lines, more, all) = lines-of text whole in
    let before : run_lines names (no_run names) 1 (lines ++ [] ∷ []) ≡ Ok run = sym (ap (run_lines names (no_run names) 1) all) ∙ read in
    ap (run_lines names (no_run names) 1) (more line lacks) ∙ change-after names lines (no_run names) run 1 line next is later may before

-- The written lines of changes contain no line feed.
no-feed : (b : ℕ) → 10 < b → has_feed (b ∷ []) ≡ false
no-feed b h = let other : (b == 10) ≡ false = grind (arith, nat_tests) in ap (λ (t : Bool). t || false) other

feed-decimal : (n : ℕ) → n < 2 ^ 64 → has_feed (decimal n) ≡ false
feed-decimal n small =
    decimal_by_steps (λ n ds. has_feed ds ≡ false)
    (λ n lt. no-feed (48 + n) (omega arith))
    (λ n ds le before. feed-append ds _ before (no-feed _ (omega arith)))
    n small

feed-line : (attempt : ℕ) (words : List ℕ) → attempt < 10 ^ 10 → has_feed words ≡ false → has_feed (codes "at " ++ (decimal attempt ++ words)) ≡ false
feed-line attempt words few h = feed-append (decimal attempt) words (feed-decimal attempt (omega arith)) h

later-line : (rest : List ℕ) → is_later (codes "at " ++ rest) ≡ true
later-line rest = ap (λ (t : List ℕ). bytes_eq t (codes "at")) (word-cut (codes "at") rest (refl, (refl, tt)))

pub given-after : (names : List (List ℕ)) (text words : List ℕ) (run : RunSeen) (rule : Rule) (attempt : ℕ) → IsOfLines text → run_spelling names text ≡ Ok run → may_come run.later attempt ≡ true → attempt < 10 ^ 10 → rule_spelling names words ≡ Ok rule
    → run_spelling names (text ++ given_line attempt words) ≡ Ok (with_change (record { attempt = attempt; change = change.Give rule }) run)
given-after names text words run rule attempt whole read may few rule_read =
    let parts : given_words attempt words ≡ codes "at " ++ (decimal attempt ++ (codes " " ++ words)) = ap (λ (t : List ℕ). codes "at " ++ t) (append_assoc (decimal attempt) (32 ∷ []) words) in
    let line_lacks : has_feed (given_words attempt words) ≡ false = ap has_feed parts ∙ feed-line attempt (codes " " ++ words) few (rule-one-line names words rule rule_read) in
    after-text names text (given_words attempt words) run _ whole read may line_lacks (later-line ((decimal attempt ++ codes " ") ++ words)) (given-again names words rule attempt few rule_read)

pub ended-after : (names : List (List ℕ)) (text : List ℕ) (run : RunSeen) (attempt : ℕ) → IsOfLines text → run_spelling names text ≡ Ok run → may_come run.later attempt ≡ true → attempt < 10 ^ 10
    → run_spelling names (text ++ nofaults_line (Some attempt)) ≡ Ok (with_change (record { attempt = attempt; change = change.End }) run)
ended-after names text run attempt whole read may few =
    after-text names text (nofaults_words attempt) run _ whole read may (feed-line attempt (codes " nofaults") few refl) (later-line (decimal attempt ++ codes " nofaults")) (ended-again names attempt few)
