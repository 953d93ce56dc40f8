use Rattle.std.proofs.Common.{◌≡◌, ℕ, ◌^◌, ◌<◌, ◌≤◌, Bool, true, false, List, [], ◌∷◌, ◌++◌, length, Option, Some, None, Result, Ok, Err, if◌then◌else◌, refl, ap, sym, ◌∙◌, arith, append_assoc, codes}
use Rattle.std.specs.Prelude.{nat_lt, nat_le, ◌&&◌, decimal}
use Rattle.std.specs.Option.{ok_or}
use Rattle.std.specs.Str.{bytes_eq}
use Rattle.std.proofs.lemmas.Bool.Decides.{nat_tests}
use Rattle.std.proofs.lemmas.Fmt.{decimal_nonempty, length-decimal-le}
use Rattle.std.proofs.lemmas.Slice.Eq.{bytes_eq-Decides}
use Rattle.can_frame.specs.Numbers.{number_after, number_in}
use Rattle.can_frame.proofs.Numerals.{value-decimal}
use Rattle.can_fault.specs.Scripts.{word, after}
use Rattle.can_rules.specs.declared.rule.Rule.{Rule}
use Rattle.can_rules.specs.declared.rule_words.WrongWord.{WrongWord}
use Rattle.can_rules.specs.declared.rule_words.WrongWord.TheVariants as wrong
use Rattle.can_rules.specs.declared.run_faults.Change.{Change}
use Rattle.can_rules.specs.declared.run_faults.Change.TheVariants as change
use Rattle.can_rules.specs.declared.run_faults.Later.{Later}
use Rattle.can_rules.specs.RuleLines.{given_words, nofaults_words}
use Rattle.can_rules.specs.RuleWords.{◌>>=◌, second, beyond, rule_spelling}
use Rattle.can_rules.specs.RunFaults.{attempt_spelling, change_spelling, later_spelling}
use Rattle.can_rules.proofs.Cuts.{lacks-decimal, word-cut, after-cut}

-- The lines written for a rule and for the end of all rules are read back as the same change.

-- The number of an attempt is read back.
within : (some few : Bool) (o : Option ℕ) → some ≡ true → few ≡ true → (if some && few then o else None) ≡ o
within some few o h k = rw (h, k) refl

lt-true : (a b : ℕ) → a < b → nat_lt a b ≡ true
lt-true a b h = grind (arith, nat_tests)

le-true : (a b : ℕ) → a ≤ b → nat_le a b ≡ true
le-true a b h = grind (arith, nat_tests)

pub number-again : (most n : ℕ) → 0 < most → n < 10 ^ most → n < 2 ^ 64 → number_in 10 most (decimal n) ≡ Some n
number-again most n some few small =
    within _ _ (number_after 10 (Some 0) (decimal n)) (lt-true 0 (length (decimal n)) (decimal_nonempty n small)) (le-true (length (decimal n)) most (length-decimal-le most n some few small))
    ∙ value-decimal n small

attempt-again : (n : ℕ) → n < 10 ^ 10 → attempt_spelling (decimal n) ≡ Some n
attempt-again n few = number-again 10 n (omega arith) few (omega arith)

-- A line is read as the number of an attempt and a change.
abbrev later_from : Option ℕ → Result Change WrongWord → Result Later WrongWord
later_from number read = do
  attempt ← ok_or number wrong.Attempt
  change ← read
  Ok (record { attempt = attempt; change = change })

later-again : (names : List (List ℕ)) (attempt : ℕ) (words : List ℕ) (change : Change) → attempt < 10 ^ 10 → change_spelling names words ≡ Ok change
    → later_spelling names (codes "at " ++ (decimal attempt ++ 32 ∷ words)) ≡ Ok (record { attempt = attempt; change = change })
unfolding later_spelling
later-again names attempt words change few read =
    let line : List ℕ = codes "at " ++ (decimal attempt ++ 32 ∷ words) in
    let digits = lacks-decimal 32 attempt (omega arith) (omega arith) in
    let past : after line ≡ decimal attempt ++ 32 ∷ words = after-cut (codes "at") (decimal attempt ++ 32 ∷ words) (refl, (refl, tt)) in
    let number : attempt_spelling (second line) ≡ Some attempt = ap (λ (t : List ℕ). attempt_spelling (word t)) past ∙ ap attempt_spelling (word-cut (decimal attempt) words digits) ∙ attempt-again attempt few in
    let rest : change_spelling names (beyond line) ≡ Ok change = ap (λ (t : List ℕ). change_spelling names (after t)) past ∙ ap (change_spelling names) (after-cut (decimal attempt) words digits) ∙ read in
    ap (λ (o : Option ℕ). later_from o (change_spelling names (beyond line))) number ∙ ap (later_from (Some attempt)) rest

-- The text of a rule is never `nofaults`.
no-end : (names : List (List ℕ)) (words : List ℕ) (rule : Rule) → rule_spelling names words ≡ Ok rule → bytes_eq words (codes "nofaults") ≡ false
unfolding rule_spelling
no-end names words rule read = by_test (bytes_eq words (codes "nofaults")) (bytes_eq-Decides words (codes "nofaults")).0
  where
    none : rule_spelling names (codes "nofaults") ≡ Err wrong.Beginning
    none = refl

    by_test : (b : Bool) → (b ≡ true → words ≡ codes "nofaults") → b ≡ false
    by_test false h = refl
    by_test true h = let bad : Ok rule ≡ Err wrong.Beginning = sym read ∙ ap (rule_spelling names) (h refl) ∙ none in absurd (cc bad)

change-given : (names : List (List ℕ)) (words : List ℕ) (rule : Rule) → rule_spelling names words ≡ Ok rule → change_spelling names words ≡ Ok (change.Give rule)
unfolding change_spelling
change-given names words rule read =
    let give : Result Rule WrongWord → Result Change WrongWord = λ r. r >>= (λ known. Ok (change.Give known)) in
    ap (λ (b : Bool). if b then Ok change.End else give (rule_spelling names words)) (no-end names words rule read) ∙ ap give read

change-ended : (names : List (List ℕ)) → change_spelling names (codes "nofaults") ≡ Ok change.End
unfolding change_spelling
change-ended names = refl

pub given-again : (names : List (List ℕ)) (words : List ℕ) (rule : Rule) (attempt : ℕ) → attempt < 10 ^ 10 → rule_spelling names words ≡ Ok rule
    → later_spelling names (given_words attempt words) ≡ Ok (record { attempt = attempt; change = change.Give rule })
given-again names words rule attempt few read =
    ap (λ (t : List ℕ). later_spelling names (codes "at " ++ t)) (append_assoc (decimal attempt) (32 ∷ []) words)
    ∙ later-again names attempt words (change.Give rule) few (change-given names words rule read)

pub ended-again : (names : List (List ℕ)) (attempt : ℕ) → attempt < 10 ^ 10 → later_spelling names (nofaults_words attempt) ≡ Ok (record { attempt = attempt; change = change.End })
ended-again names attempt few = later-again names attempt (codes "nofaults") change.End few (change-ended names)
