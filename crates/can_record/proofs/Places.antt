use Rattle.std.proofs.Common.{◌≡◌, ℕ, zero, suc, ◌+◌, ◌≤◌, List, [], ◌∷◌, length, drop, slice_get, Some, None, refl, sym, ap, ◌∙◌}
use Rattle.std.proofs.Math.ListN.{drop_of_length-le}
use Rattle.std.proofs.lemmas.List.{drop_more}
use Rattle.std.proofs.lemmas.Option.{slice_get_within, get_or_from_slice_get}

-- the rest of a list from a place on: the element at that place and those after it, or an empty list past the end
pub from_some : {X : Type 0} (xs : List X) (n : ℕ) (x : X) → Some x ≡ slice_get xs n → drop n xs ≡ x ∷ drop (n + 1) xs
from_some xs n x at = drop_more xs n x (slice_get_within xs n x (sym at)) ∙ ap (λ y. y ∷ drop (n + 1) xs) (get_or_from_slice_get xs n x x (sym at))

pub from_none : {X : Type 0} (xs : List X) (n : ℕ) → None ≡ slice_get xs n → drop n xs ≡ []
from_none [] zero at = refl
from_none [] (suc n) at = refl
from_none (x ∷ xs) zero at = cc
from_none (x ∷ xs) (suc n) at = from_none xs n at

pub from_past : {X : Type 0} (xs : List X) (n : ℕ) → length xs ≤ n → drop n xs ≡ []
from_past xs n past = drop_of_length-le xs past
