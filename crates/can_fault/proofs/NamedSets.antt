use Rattle.std.proofs.Common.{◌≡◌, ◌≢◌, ℕ, ◌+◌, ◌<◌, ◌≤◌, ◌^◌, zero, suc, max, Bool, true, false, ◌||◌, ◌&&◌, nat_eq, ◌==◌, List, [], ◌∷◌, length}
use Rattle.std.proofs.Common.{Some, None, is_some, Result, Ok, Err, refl, ap, sym, ◌∙◌, arith, if◌then◌else◌, bit_or, ⊎_elim, drop, get_or, eq-eqb}
use Rattle.std.specs.Int.{bit_at}
use Rattle.std.specs.List.{list_any, list_all}
use Rattle.std.specs.Option.{option_eq, option_map_or}
use Rattle.std.specs.Str.{bytes_eq}
use Rattle.std.proofs.lemmas.Bool.{cases_lt, cases_eq}
use Rattle.std.proofs.lemmas.Bool.Decides.{nat_tests}
use Rattle.std.proofs.lemmas.List.{at_drop_more}
use Rattle.std.proofs.lemmas.List.Quantifiers.{position-Some}
use Rattle.std.proofs.lemmas.Nat.Bits.{bit_at-zero, bit_at_or, bit_at-pow_same, bit_at-pow_other, same_from_bits}
use Rattle.can_frame.specs.Names.{place_of, names_in, is_name}
use Rattle.can_frame.specs.Sets.{is_in, bits_where, set_where, no_ifaces}
use Rattle.can_frame.specs.declared.iface.IfaceSet.{IfaceSet}
use Rattle.can_fault.specs.Scripts.{set_named, set_spelling}
use Rattle.can_fault.specs.declared.script_lines.LineFault.{LineFault}
use Rattle.can_fault.specs.declared.script_lines.LineFault.TheVariants.{BadLine, UnknownInterface}

-- The set that a list of names gives, read one name after another.

-- a set with one more interface
abbrev pub with_iface : IfaceSet → ℕ → IfaceSet
with_iface set i = record { 0 = bit_or set.0 (2 ^ i) }

-- the interfaces of two sets
abbrev pub joined : IfaceSet → IfaceSet → IfaceSet
joined a b = record { 0 = bit_or a.0 b.0 }

-- the bus has an interface of this name
abbrev pub is_known : List (List ℕ) → List ℕ → Bool
is_known names piece = is_some (place_of names piece)

-- names added to a set, one after another, or the fault of a name that the bus does not have
abbrev pub added : List (List ℕ) → IfaceSet → List (List ℕ) → Result IfaceSet LineFault
added names set [] = Ok set
added names set (piece ∷ pieces) = option_map_or (λ i. added names (with_iface set i) pieces) (place_of names piece) (Err UnknownInterface)

-- one name more
pub added-turn : (names pieces : List (List ℕ)) (set : IfaceSet) (n : ℕ) (piece : List ℕ) → (n < length pieces) × (piece ≡ get_or pieces n piece)
    → added names set (drop n pieces) ≡ option_map_or (λ i. added names (with_iface set i) (drop (n + 1) pieces)) (place_of names piece) (Err UnknownInterface)
added-turn names pieces set n piece h =
    at_drop_more (added names set) pieces n piece h.0
    ∙ ap (λ (p : List ℕ). option_map_or (λ i. added names (with_iface set i) (drop (n + 1) pieces)) (place_of names p) (Err UnknownInterface)) (sym h.1)

-- 1 if the test is true, otherwise 0
abbrev bit : Bool → ℕ
bit true = 1
bit false = 0

above : (p : ℕ → Bool) (n j : ℕ) → n ≤ j → bit_at (bits_where p n) j ≡ 0
above p zero j h = bit_at-zero j
above p (suc n) j h =
    let rest : bit_at (bits_where p n) j ≡ 0 = above p n j (omega arith) in
    let apart : j ≢ n = omega arith in
    elim (p n) as (λ b. bit_at (if b then bit_or (bits_where p n) (2 ^ n) else bits_where p n) j ≡ 0) [
      | true ↦ bit_at_or (bits_where p n) (2 ^ n) j ∙ ap (λ x. max x (bit_at (2 ^ n) j)) rest ∙ ap (max 0) (bit_at-pow_other n j apart)
      | false ↦ rest
    ]

here : (p : ℕ → Bool) (n : ℕ) → bit_at (bits_where p (suc n)) n ≡ bit (p n)
here p n =
    let rest : bit_at (bits_where p n) n ≡ 0 = above p n n (omega arith) in
    elim (p n) as (λ b. bit_at (if b then bit_or (bits_where p n) (2 ^ n) else bits_where p n) n ≡ bit b) [
      | true ↦ bit_at_or (bits_where p n) (2 ^ n) n ∙ ap (λ x. max x (bit_at (2 ^ n) n)) rest ∙ ap (max 0) (bit_at-pow_same n)
      | false ↦ rest
    ]

earlier : (p : ℕ → Bool) (n j : ℕ) → bit_at (bits_where p n) j ≡ bit (p j) → j ≢ n → bit_at (bits_where p (suc n)) j ≡ bit (p j)
earlier p n j rest apart =
    elim (p n) as (λ b. bit_at (if b then bit_or (bits_where p n) (2 ^ n) else bits_where p n) j ≡ bit (p j)) [
      | true ↦ bit_at_or (bits_where p n) (2 ^ n) j ∙ ap (max (bit_at (bits_where p n) j)) (bit_at-pow_other n j apart) ∙ omega (arith, rest)
      | false ↦ rest
    ]

below : (p : ℕ → Bool) (n j : ℕ) → j < n → bit_at (bits_where p n) j ≡ bit (p j)
below p zero j h = absurd (omega arith)
below p (suc n) j h =
    ⊎_elim (λ e. ap (bit_at (bits_where p (suc n))) e ∙ here p n ∙ ap (λ k. bit (p k)) (sym e)) (λ apart. earlier p n j (below p n j (omega arith)) apart) (cases_eq j n)

one_bit : (i j : ℕ) (b : Bool) → bit (nat_eq i j || b) ≡ max (bit_at (2 ^ i) j) (bit b)
one_bit i j b = ⊎_elim same other (cases_eq j i)
  where
    same : j ≡ i → bit (nat_eq i j || b) ≡ max (bit_at (2 ^ i) j) (bit b)
    same e =
        let set : bit_at (2 ^ i) j ≡ 1 = ap (bit_at (2 ^ i)) e ∙ bit_at-pow_same i in
        let most : 1 ≡ max 1 (bit b) = elim b as (λ b. 1 ≡ max 1 (bit b)) [ true ↦ refl | false ↦ refl ] in
        ap (λ t. bit (t || b)) (eq-eqb i j (sym e)) ∙ most ∙ ap (λ x. max x (bit b)) (sym set)

    other : j ≢ i → bit (nat_eq i j || b) ≡ max (bit_at (2 ^ i) j) (bit b)
    other apart =
        let test : nat_eq i j ≡ false = grind (arith, nat_tests) in
        let most : bit b ≡ max 0 (bit b) = elim b as (λ b. bit b ≡ max 0 (bit b)) [ true ↦ refl | false ↦ refl ] in
        ap (λ t. bit (t || b)) test ∙ most ∙ ap (λ x. max x (bit b)) (sym (bit_at-pow_other i j apart))

-- one interface more in the test is one bit more
bit_at-more : (p : ℕ → Bool) (n i j : ℕ) → i < n → bit_at (bits_where (λ k. nat_eq i k || p k) n) j ≡ max (bit_at (2 ^ i) j) (bit_at (bits_where p n) j)
bit_at-more p n i j inside = ⊎_elim inner outer (cases_lt j n)
  where
    inner : j < n → bit_at (bits_where (λ k. nat_eq i k || p k) n) j ≡ max (bit_at (2 ^ i) j) (bit_at (bits_where p n) j)
    inner h = below (λ k. nat_eq i k || p k) n j h ∙ one_bit i j (p j) ∙ ap (max (bit_at (2 ^ i) j)) (sym (below p n j h))

    outer : n ≤ j → bit_at (bits_where (λ k. nat_eq i k || p k) n) j ≡ max (bit_at (2 ^ i) j) (bit_at (bits_where p n) j)
    outer h =
        let apart : j ≢ i = omega arith in
        above (λ k. nat_eq i k || p k) n j h ∙ sym (ap (λ x. max x (bit_at (bits_where p n) j)) (bit_at-pow_other i j apart) ∙ ap (max 0) (above p n j h))

bits_where-none : (n : ℕ) → bits_where (λ _. false) n ≡ 0
bits_where-none zero = refl
bits_where-none (suc n) = bits_where-none n

or-none : (a : ℕ) → bit_or a 0 ≡ a
or-none a = same_from_bits _ _ (λ j. bit_at_or a 0 j ∙ ap (max (bit_at a j)) (bit_at-zero j) ∙ omega arith)

one_more : (p : ℕ → Bool) (n i a : ℕ) → i < n → bit_or (bit_or a (2 ^ i)) (bits_where p n) ≡ bit_or a (bits_where (λ k. nat_eq i k || p k) n)
one_more p n i a inside = same_from_bits _ _ (λ j. bits j)
  where
    assoc : (x y z : ℕ) → max (max x y) z ≡ max x (max y z)
    assoc x y z = omega arith

    bits : (j : ℕ) → bit_at (bit_or (bit_or a (2 ^ i)) (bits_where p n)) j ≡ bit_at (bit_or a (bits_where (λ k. nat_eq i k || p k) n)) j
    bits j =
        bit_at_or (bit_or a (2 ^ i)) (bits_where p n) j
        ∙ ap (λ x. max x (bit_at (bits_where p n) j)) (bit_at_or a (2 ^ i) j)
        ∙ assoc (bit_at a j) (bit_at (2 ^ i) j) (bit_at (bits_where p n) j)
        ∙ ap (max (bit_at a j)) (sym (bit_at-more p n i j inside))
        ∙ sym (bit_at_or a (bits_where (λ k. nat_eq i k || p k) n) j)

pub added-named : (names : List (List ℕ)) (set : IfaceSet) (pieces : List (List ℕ)) → added names set pieces ≡ (if list_all (is_known names) pieces then Ok (joined set (set_named names pieces)) else Err UnknownInterface)
unfolding set_named
added-named names set [] = ap (λ (n : ℕ). Ok (record { 0 = n })) (sym (ap (bit_or set.0) (bits_where-none (length names)) ∙ or-none set.0))
added-named names set (piece ∷ pieces) =
    let named : ℕ → Bool = λ i. list_any (λ piece. option_eq nat_eq (place_of names piece) (Some i)) pieces in
    elim (place_of names piece) as (λ o. place_of names piece ≡ o
    → option_map_or (λ i. added names (with_iface set i) pieces) o (Err UnknownInterface) ≡ (if is_some o && list_all (is_known names) pieces then Ok (joined set (set_where (λ i. option_eq nat_eq o (Some i) || named i) (length names))) else Err UnknownInterface)) [
      | None ↦ λ _. refl
      | Some i ↦ λ e.
          let inside : i < length names = (position-Some (λ other. bytes_eq other piece) names i [] e).0 in
          added-named names (with_iface set i) pieces
          ∙ ap (λ (n : ℕ). if list_all (is_known names) pieces then Ok (record { 0 = n }) else Err UnknownInterface) (one_more named (length names) i set.0 inside)
    ] refl

none-or : (a : ℕ) → bit_or 0 a ≡ a
none-or a = refl

-- adding the names of a text to the empty set gives the set that the text spells
pub set_spelling-added : (names : List (List ℕ)) (text : List ℕ) → list_all is_name (names_in text) ≡ true → set_spelling names text ≡ added names no_ifaces (names_in text)
set_spelling-added names text good =
    let pieces = names_in text in
    ap (λ b. if b then (if list_all (is_known names) pieces then Ok (set_named names pieces) else Err UnknownInterface) else Err BadLine) good
    ∙ ap (λ (n : ℕ). if list_all (is_known names) pieces then Ok (record { 0 = n }) else Err UnknownInterface) (sym (none-or (set_named names pieces).0))
    ∙ sym (added-named names no_ifaces pieces)

-- an interface is in the set exactly if a piece names it
pub is_in-set_named : (names pieces : List (List ℕ)) (iface : ℕ) → iface < length names → is_in iface (set_named names pieces) ≡ list_any (λ piece. option_eq nat_eq (place_of names piece) (Some iface)) pieces
unfolding set_named
is_in-set_named names pieces iface h =
    let named : ℕ → Bool = λ i. list_any (λ piece. option_eq nat_eq (place_of names piece) (Some i)) pieces in
    ap (λ n. n == 1) (below named (length names) iface h) ∙ bit_test (named iface)
  where
    bit_test : (b : Bool) → (bit b == 1) ≡ b
    bit_test true = refl
    bit_test false = refl
