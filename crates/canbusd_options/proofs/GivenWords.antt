use Rattle.std.proofs.Common.{◌≡◌, ℕ, ◌<◌, Bool, true, false, cond, not, List, [], ◌∷◌, Option, Some, None, get_or, length, map, arith, refl, sym, subst, ◌∙◌}
use Rattle.std.specs.List.{All, AllPass, find}
use Rattle.std.proofs.lemmas.List.{get_or-map, length-map}
use Rattle.std.proofs.lemmas.List.Elements.{All-cons, All-nil, All-tail}
use denote.Ref.{Bor}

-- The words of an option: one of them fails a test, or all of them pass.

passes : {A : Type 0} (x : A) (b : Bool) (rest : Option A) → cond (not b) (Some x) rest ≡ None → b ≡ true
passes x true rest none = refl
passes x false rest none = cc

goes_on : {A : Type 0} (x : A) (b : Bool) (rest : Option A) → b ≡ true → cond (not b) (Some x) rest ≡ rest
goes_on x true rest is = refl
goes_on x false rest is = cc

-- if none fails, all pass
pub all_pass : {A : Type 0} (p : A → Bool) (xs : List A) → find (λ x. not (p x)) xs ≡ None → AllPass p xs
all_pass p [] none = All-nil (λ y. p y ≡ true)
all_pass p (x ∷ xs) none =
    let here = passes x (p x) (find (λ y. not (p y)) xs) none in
    All-cons (λ y. p y ≡ true) x xs here (all_pass p xs (sym (goes_on x (p x) (find (λ y. not (p y)) xs) here) ∙ none))

-- if all pass, none fails
pub none_fails : {A : Type 0} (p : A → Bool) (xs : List A) → AllPass p xs → find (λ x. not (p x)) xs ≡ None
none_fails p [] all = refl
none_fails p (x ∷ xs) all = goes_on x (p x) (find (λ y. not (p y)) xs) (all 0 x (omega arith)) ∙ none_fails p xs (All-tail (λ y. p y ≡ true) x xs all)

-- a property of all words holds for the word at each place
pub at_word : (P : List ℕ → Type 0) (words : List (Bor (List ℕ))) (none : Bor (List ℕ)) (i : ℕ) → i < length words → All P (map (λ word. word.now) words) → P (get_or words i none).now
at_word P words none i below all = subst P (get_or-map (λ word. word.now) words i none [] below) (all i [] (rw length-map below))
