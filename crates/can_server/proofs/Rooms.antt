use Rattle.std.proofs.Common.{◌≡◌, ◌+◌, ◌<◌, ◌≤◌, ℕ, zero, suc, List, [], ◌∷◌, length, map, set, refl, ap, ◌∙◌, arith}
use Rattle.std.specs.Prelude.{slice_index_or, Bool, Option}
use Rattle.can_server.specs.Clients.{ClientsSeen}
use Rattle.can_server.specs.declared.clients.Client.{Client}

abbrev pub the_seen : List (Option Client) → Bool → ClientsSeen
the_seen xs a = record { places = xs; is_closed = a }

module _ {X : Type 0} (f : X → X) where
  -- `f` applied to the first `n` elements
  abbrev pub map_first : ℕ → List X → List X
  map_first zero xs = xs
  map_first (suc n) [] = []
  map_first (suc n) (x ∷ xs) = f x ∷ map_first n xs

  -- `f` applied to one more element
  map_one_more : (n m : ℕ) (xs : List X) (d : X) → n < length xs → m ≡ n + 1 → set (map_first n xs) n (f (slice_index_or (map_first n xs) n d)) ≡ map_first m xs
  map_one_more n zero xs d lt e = absurd (omega (arith, e))
  map_one_more n (suc m) [] d lt e = absurd (omega (arith, lt))
  map_one_more zero (suc zero) (x ∷ xs) d lt e = refl
  map_one_more zero (suc (suc m)) (x ∷ xs) d lt e = absurd (omega (arith, e))
  map_one_more (suc n) (suc m) (x ∷ xs) d lt e = ap (λ ys. f x ∷ ys) (map_one_more n m xs d (omega (arith, lt)) (omega (arith, e)))

  -- the next element `x` is replaced by `f x`
  pub map_next : (n : ℕ) (xs ys : List X) (x y : X) → ys ≡ map_first n xs → n < length xs → x ≡ slice_index_or ys n x → y ≡ f x → set ys n y ≡ map_first (n + 1) xs
  map_next n xs ys x y same lt is made =
      let at : x ≡ slice_index_or (map_first n xs) n x = is ∙ ap (λ zs. slice_index_or zs n x) same in
      ap (λ zs. set zs n y) same ∙ ap (λ z. set (map_first n xs) n z) (made ∙ ap f at) ∙ map_one_more n (n + 1) xs x lt refl

  -- `f` applied to all elements
  pub map_all : (n : ℕ) (xs : List X) → length xs ≤ n → map_first n xs ≡ map f xs
  map_all zero [] e = refl
  map_all (suc n) [] e = refl
  map_all zero (x ∷ xs) e = absurd (omega (arith, e))
  map_all (suc n) (x ∷ xs) e = ap (λ ys. f x ∷ ys) (map_all n xs (omega (arith, e)))

-- equal lists of clients and equal flags give equal states of the server's clients
pub seen_as : (xs ys : List (Option Client)) (a b : Bool) → xs ≡ ys → a ≡ b → the_seen xs a ≡ the_seen ys b
seen_as xs ys a b same closed = ap (λ zs. the_seen zs a) same ∙ ap (the_seen ys) closed
