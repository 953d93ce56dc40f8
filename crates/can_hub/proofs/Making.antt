use Rattle.std.proofs.Common.{◌≡◌, ◌-◌, ◌≤◌, ℕ, suc, List, [], ◌∷◌, ◌++◌, length, get_or, take, drop, take_all, append_assoc, append-nil, length-append, refl, ap, sym, subst, ◌∙◌, arith}
use Rattle.std.specs.Prelude.{All}
use Rattle.std.proofs.lemmas.List.Elements.{All-cons, All-head, All-nil, All-tail}
use Rattle.atomic_table.specs.Seated.{TableId}
use Rattle.can_roll.specs.Rule.{RollId}
use Rattle.can_hub.specs.Buses.{BusSeen, NumberedFrom, names_of}
use Rattle.can_hub.specs.Benches.{IsWithin, NamedFrom, bench_names, bus_of, buses_from}
use Rattle.can_event.specs.declared.bus_config.BusConfig.{BusConfig}
use Rattle.can_hub.specs.declared.bench.Bench.{Bench}

-- A list that is not empty consists of its first element and the rest.
parted : {X : Type 0} (xs : List X) (x : X) → 1 ≤ length xs → x ≡ get_or xs 0 x → xs ≡ x ∷ take (length xs - 1) (drop 1 xs)
parted [] x some is = absurd (omega (arith, some))
parted (y ∷ ys) x some is = let rest : take (length (y ∷ ys) - 1) ys ≡ ys = take_all (length (y ∷ ys) - 1) ys (omega arith) in ap (λ z. z ∷ ys) (sym is) ∙ ap (λ zs. x ∷ zs) (sym rest)

-- A list of length 0 is empty.
pub emptied : {X : Type 0} (xs : List X) → length xs ≡ 0 → xs ≡ []
emptied [] e = refl
emptied (x ∷ xs) e = absurd (omega (arith, e))

module _ {F G : Type 0} where
  -- The names of all benches are those of the first bench and those of the other benches.
  pub names_parted : (bs : List (Bench F G)) (b : Bench F G) → 1 ≤ length bs → b ≡ get_or bs 0 b → bench_names bs ≡ b.names ∷ bench_names (take (length bs - 1) (drop 1 bs))
  names_parted bs b some is = ap bench_names (parted bs b some is)

  -- The buses in each iteration of the loop: the buses made so far, followed by the buses to be made from the remaining benches.
  pub made_first : (made : List BusSeen) (rest bs : List (Bench F G)) → made ≡ [] → rest ≡ bs → made ++ buses_from (length made) rest ≡ buses_from 0 bs
  made_first made rest bs none same = ap (λ (m : List BusSeen). m ++ buses_from (length m) rest) none ∙ ap (buses_from 0) same

  pub named_first : (roll : ℕ → RollId) (meter : ℕ → TableId) (made : List BusSeen) (rest bs : List (Bench F G)) → made ≡ [] → rest ≡ bs → NamedFrom roll meter 0 bs → NamedFrom roll meter (length made) rest
  named_first roll meter made rest bs none same h = subst (λ (m : List BusSeen). NamedFrom roll meter (length m) rest) (sym none) (subst (λ (r : List (Bench F G)). NamedFrom roll meter 0 r) (sym same) h)

  pub made_next : (made new : List BusSeen) (w : BusSeen) (b : Bench F G) (rest more : List (Bench F G)) (all : List BusSeen) (n : ℕ)
      → rest ≡ b ∷ more → new ≡ made ++ w ∷ [] → w ≡ bus_of n b → length made ≡ n → made ++ buses_from (length made) rest ≡ all → new ++ buses_from (length new) more ≡ all
  made_next made new w b rest more all n er en ew el h =
      let this : w ≡ bus_of (length made) b = ew ∙ ap (λ (k : ℕ). bus_of k b) (sym el) in
      let grown : new ≡ made ++ bus_of (length made) b ∷ [] = en ∙ ap (λ (x : BusSeen). made ++ x ∷ []) this in
      let long : length new ≡ suc (length made) = ap length grown ∙ length-append made (bus_of (length made) b ∷ []) ∙ omega arith in
      ap (λ (m : List BusSeen). m ++ buses_from (length new) more) grown ∙ append_assoc made (bus_of (length made) b ∷ []) (buses_from (length new) more)
      ∙ ap (λ (k : ℕ). made ++ bus_of (length made) b ∷ buses_from k more) long ∙ ap (λ (r : List (Bench F G)). made ++ buses_from (length made) r) (sym er) ∙ h

  pub named_here : (roll : ℕ → RollId) (meter : ℕ → TableId) (n m : ℕ) (b : Bench F G) (rest more : List (Bench F G)) → rest ≡ b ∷ more → n ≡ m → NamedFrom roll meter n rest → (b.blanks.roll ≡ roll m) × (b.blanks.meter ≡ meter m)
  named_here roll meter n m b rest more er en h =
      let now = subst (λ (k : ℕ). NamedFrom roll meter k (b ∷ more)) en (subst (λ (r : List (Bench F G)). NamedFrom roll meter n r) er h) in (now.0, now.1)

  pub named_next : (roll : ℕ → RollId) (meter : ℕ → TableId) (n m : ℕ) (b : Bench F G) (rest more : List (Bench F G)) → rest ≡ b ∷ more → m ≡ suc n → NamedFrom roll meter n rest → NamedFrom roll meter m more
  named_next roll meter n m b rest more er en h =
      subst (λ (k : ℕ). NamedFrom roll meter k more) (sym en) (subst (λ (r : List (Bench F G)). NamedFrom roll meter n r) er h).2

  pub proper_here : (Limits : BusConfig → Type 0) (b : Bench F G) (rest more : List (Bench F G)) → rest ≡ b ∷ more → All (λ x. IsWithin Limits x) rest → IsWithin Limits b
  proper_here Limits b rest more er h = All-head (λ (x : Bench F G). IsWithin Limits x) b more (subst (λ (r : List (Bench F G)). All (λ x. IsWithin Limits x) r) er h)

  pub proper_next : (Limits : BusConfig → Type 0) (b : Bench F G) (rest more : List (Bench F G)) → rest ≡ b ∷ more → All (λ x. IsWithin Limits x) rest → All (λ x. IsWithin Limits x) more
  proper_next Limits b rest more er h = All-tail (λ (x : Bench F G). IsWithin Limits x) b more (subst (λ (r : List (Bench F G)). All (λ x. IsWithin Limits x) r) er h)

  pub made_last : (made : List BusSeen) (rest : List (Bench F G)) (all : List BusSeen) → rest ≡ [] → made ++ buses_from (length made) rest ≡ all → made ≡ all
  made_last made rest all none h = sym (append-nil made) ∙ ap (λ (r : List (Bench F G)). made ++ buses_from (length made) r) (sym none) ∙ h

  -- The buses that are made are numbered in order.
  pub numbered : (n : ℕ) (bs : List (Bench F G)) → NumberedFrom n (buses_from n bs)
  numbered n [] = tt
  numbered n (b ∷ more) = (refl, numbered (suc n) more)

  pub same_names : (n : ℕ) (bs : List (Bench F G)) → names_of (buses_from n bs) ≡ bench_names bs
  same_names n [] = refl
  same_names n (b ∷ more) = ap (λ ns. b.names ∷ ns) (same_names (suc n) more)

  pub same_length : (n : ℕ) (bs : List (Bench F G)) → length (buses_from n bs) ≡ length bs
  same_length n [] = refl
  same_length n (b ∷ more) = ap suc (same_length (suc n) more)

  -- Each bus has a configuration within the limits.
  pub limited : (Limits : BusConfig → Type 0) (n : ℕ) (bs : List (Bench F G)) (made : List BusSeen) → made ≡ buses_from n bs → All (λ x. IsWithin Limits x) bs → All (λ b. Limits b.config) made
  limited Limits n [] made is h = subst (λ (m : List BusSeen). All (λ b. Limits b.config) m) (sym is) (All-nil (λ (b : BusSeen). Limits b.config))
  limited Limits n (b ∷ more) made is h =
      let here : IsWithin Limits b = All-head (λ (x : Bench F G). IsWithin Limits x) b more h in
      let rest = limited Limits (suc n) more (buses_from (suc n) more) refl (All-tail (λ (x : Bench F G). IsWithin Limits x) b more h) in
      subst (λ (m : List BusSeen). All (λ b. Limits b.config) m) (sym is) (All-cons (λ (b : BusSeen). Limits b.config) (bus_of n b) (buses_from (suc n) more) here.config rest)
