use Rattle.std.proofs.Common.{◌≡◌, ◌≢◌, ℕ, ◌+◌, ◌<◌, ◌≤◌, ◌==◌, zero, suc, Bool, true, false, nat_eq, List, [], ◌∷◌, ◌++◌, length, get_or, Option, Some, None, is_some, Result, Ok, Err, if◌then◌else◌, refl, ap, sym, ◌∙◌, ⊎_elim, arith, append-nil}
use Rattle.std.specs.Prelude.{◌&&◌, ◌||◌, nat_le}
use Rattle.std.specs.List.{list_all, list_any, enumerate_from, AllPass}
use Rattle.std.specs.Option.{option_eq}
use Rattle.std.specs.Str.{bytes_eq}
use Rattle.std.proofs.lemmas.Bool.{and_parts, cases_eq, eq-eqb}
use Rattle.std.proofs.lemmas.Bool.Decides.{nat_tests, Decides-eqb}
use Rattle.std.proofs.lemmas.List.Quantifiers.{position-Some}
use Rattle.std.proofs.lemmas.List.Sums.{list_all-from_AllPass}
use Rattle.can_frame.specs.Names.{AreNames, names_in, is_name, is_name_byte, place_of}
use Rattle.can_frame.specs.Sets.{is_in, bits_where}
use Rattle.can_frame.specs.declared.iface.IfaceSet.{IfaceSet}
use Rattle.can_frame.proofs.Naming.{stands_first, places-from_distinct}
use Rattle.can_fault.specs.Scripts.{are_known, set_named, set_spelling}
use Rattle.can_fault.specs.declared.script_lines.LineFault.{LineFault}
use Rattle.can_fault.specs.declared.script_lines.LineFault.TheVariants as line
use Rattle.can_fault.proofs.NamedSets.{is_in-set_named}
use Rattle.can_rules.specs.RuleText.{names_after_mark, members, set_words}
use Rattle.can_rules.proofs.Cuts.{Lacks, lacks-append}
use Rattle.can_rules.proofs.GoodVerdicts.{IsNamed}

-- The names written for a set are read back as that set.

-- ---- names between commas

abbrev AllLack : ℕ → List (List ℕ) → Type 0
AllLack c [] = Unit {0}
AllLack c (name ∷ names) = Lacks c name × AllLack c names

unlike : (c b : ℕ) → is_name_byte c ≡ false → is_name_byte b ≡ true → (b == c) ≡ false
unlike c b none some = by_test (b == c) (Decides-eqb b c).0
  where
    by_test : (t : Bool) → (t ≡ true → b ≡ c) → t ≡ false
    by_test false is = refl
    by_test true is = let bad : true ≡ false = sym some ∙ ap is_name_byte (is refl) ∙ none in absurd (cc bad)

bytes-lack : (c : ℕ) (name : List ℕ) → is_name_byte c ≡ false → list_all is_name_byte name ≡ true → Lacks c name
bytes-lack c [] none h = tt
bytes-lack c (b ∷ bs) none h = let parts = and_parts (is_name_byte b) (list_all is_name_byte bs) h in (unlike c b none parts.0, bytes-lack c bs none parts.1)

name-lacks : (c : ℕ) (name : List ℕ) → is_name_byte c ≡ false → is_name name ≡ true → Lacks c name
name-lacks c name none h = bytes-lack c name none (and_parts (nat_le 1 (length name) && nat_le (length name) 15) (list_all is_name_byte name) h).1

names-lack : (c : ℕ) (names : List (List ℕ)) → is_name_byte c ≡ false → list_all is_name names ≡ true → AllLack c names
names-lack c [] none h = tt
names-lack c (name ∷ names) none h = let parts = and_parts (is_name name) (list_all is_name names) h in (name-lacks c name none parts.0, names-lack c names none parts.1)

marked-lacks : (names : List (List ℕ)) → AllLack 32 names → Lacks 32 (names_after_mark 44 names)
marked-lacks [] h = tt
marked-lacks (name ∷ names) h = (refl, lacks-append 32 name (names_after_mark 44 names) h.0 (marked-lacks names h.1))

split-none : (w : List ℕ) → Lacks 44 w → names_in w ≡ w ∷ []
split-none [] h = refl
split-none (b ∷ bs) h = rw (h.0, split-none bs h.1) refl

split-at : (w rest : List ℕ) → Lacks 44 w → names_in (w ++ 44 ∷ rest) ≡ w ∷ names_in rest
split-at [] rest h = refl
split-at (b ∷ bs) rest h = rw (h.0, split-at bs rest h.1) refl

split-marked : (name : List ℕ) (names : List (List ℕ)) → Lacks 44 name → AllLack 44 names → names_in (name ++ names_after_mark 44 names) ≡ name ∷ names
split-marked name [] h k = ap names_in (append-nil name) ∙ split-none name h
split-marked name (next ∷ names) h k = split-at name (next ++ names_after_mark 44 names) h ∙ ap (λ (l : List (List ℕ)). name ∷ l) (split-marked next names k.0 k.1)

-- ---- the names of a set's interfaces

members-pass : (p : List ℕ → Bool) (k : ℕ) (rest : List (List ℕ)) (set : IfaceSet) → list_all p rest ≡ true → list_all p (members k rest set) ≡ true
members-pass p k [] set h = refl
members-pass p k (name ∷ rest) set h =
    let parts = and_parts (p name) (list_all p rest) h in
    let more = members-pass p (k + 1) rest set parts.1 in
    elim (is_in k set) as (λ b. list_all p (if b then name ∷ members (k + 1) rest set else members (k + 1) rest set) ≡ true) [
      | true ↦ ap (λ (b : Bool). b && list_all p (members (k + 1) rest set)) parts.0 ∙ more
      | false ↦ more
    ]

same-place : (o : Option ℕ) (i : ℕ) → option_eq nat_eq o (Some i) ≡ true → o ≡ Some i
same-place None i e = absurd (cc e)
same-place (Some x) i e = ap (λ (n : ℕ). Some n) ((Decides-eqb x i).0 e)

all-known : (names rest : List (List ℕ)) (k : ℕ) → list_all (stands_first names) (enumerate_from k rest) ≡ true → are_known names rest ≡ true
all-known names [] k h = refl
all-known names (name ∷ rest) k h =
    let parts = and_parts (stands_first names (k, name)) (list_all (stands_first names) (enumerate_from (k + 1) rest)) h in
    ap (λ (o : Option ℕ). is_some o && are_known names rest) (same-place (place_of names name) k parts.0) ∙ all-known names rest (k + 1) parts.1

-- The piece of the text is the name of interface i.
abbrev is_at : List (List ℕ) → ℕ → List ℕ → Bool
is_at names i piece = option_eq nat_eq (place_of names piece) (Some i)

not-equal : (x y : ℕ) → x ≢ y → nat_eq x y ≡ false
not-equal x y apart = grind (arith, nat_tests)

other-place : (names : List (List ℕ)) (name : List ℕ) (k i : ℕ) → stands_first names (k, name) ≡ true → k ≢ i → is_at names i name ≡ false
other-place names name k i h apart = ap (λ (o : Option ℕ). option_eq nat_eq o (Some i)) (same-place (place_of names name) k h) ∙ not-equal k i apart

none-before : (names : List (List ℕ)) (i k : ℕ) (rest : List (List ℕ)) (set : IfaceSet) → list_all (stands_first names) (enumerate_from k rest) ≡ true → i < k → list_any (is_at names i) (members k rest set) ≡ false
none-before names i k [] set h low = refl
none-before names i k (name ∷ rest) set h low =
    let parts = and_parts (stands_first names (k, name)) (list_all (stands_first names) (enumerate_from (k + 1) rest)) h in
    let more = none-before names i (k + 1) rest set parts.1 (omega (arith, low)) in
    elim (is_in k set) as (λ b. list_any (is_at names i) (if b then name ∷ members (k + 1) rest set else members (k + 1) rest set) ≡ false) [
      | true ↦ ap (λ (b : Bool). b || list_any (is_at names i) (members (k + 1) rest set)) (other-place names name k i parts.0 (omega (arith, low))) ∙ more
      | false ↦ more
    ]

this-member : (names : List (List ℕ)) (i k : ℕ) (name : List ℕ) (rest : List (List ℕ)) (set : IfaceSet) → stands_first names (k, name) ≡ true → list_all (stands_first names) (enumerate_from (k + 1) rest) ≡ true → k ≡ i
    → list_any (is_at names i) (members k (name ∷ rest) set) ≡ is_in i set
this-member names i k name rest set first others same =
    let named : is_at names i name ≡ true = ap (λ (o : Option ℕ). option_eq nat_eq o (Some i)) (same-place (place_of names name) k first) ∙ eq-eqb k i same in
    let none = none-before names i (k + 1) rest set others (omega (arith, same)) in
    (elim (is_in k set) as (λ b. list_any (is_at names i) (if b then name ∷ members (k + 1) rest set else members (k + 1) rest set) ≡ b) [
      | true ↦ ap (λ (b : Bool). b || list_any (is_at names i) (members (k + 1) rest set)) named
      | false ↦ none
    ]) ∙ ap (λ (n : ℕ). is_in n set) same

later-member : (names : List (List ℕ)) (i k : ℕ) (name : List ℕ) (rest : List (List ℕ)) (set : IfaceSet) → stands_first names (k, name) ≡ true → k ≢ i → list_any (is_at names i) (members (k + 1) rest set) ≡ is_in i set
    → list_any (is_at names i) (members k (name ∷ rest) set) ≡ is_in i set
later-member names i k name rest set first apart more =
    elim (is_in k set) as (λ b. list_any (is_at names i) (if b then name ∷ members (k + 1) rest set else members (k + 1) rest set) ≡ is_in i set) [
      | true ↦ ap (λ (b : Bool). b || list_any (is_at names i) (members (k + 1) rest set)) (other-place names name k i first apart) ∙ more
      | false ↦ more
    ]

any-members : (names : List (List ℕ)) (i k : ℕ) (rest : List (List ℕ)) (set : IfaceSet) → list_all (stands_first names) (enumerate_from k rest) ≡ true → k ≤ i → i < k + length rest
    → list_any (is_at names i) (members k rest set) ≡ is_in i set
any-members names i k [] set h low high = absurd (omega (arith, low, high))
any-members names i k (name ∷ rest) set h low high =
    let parts = and_parts (stands_first names (k, name)) (list_all (stands_first names) (enumerate_from (k + 1) rest)) h in
    ⊎_elim (λ same. this-member names i k name rest set parts.0 parts.1 same)
    (λ apart. later-member names i k name rest set parts.0 apart (any-members names i (k + 1) rest set parts.1 (omega (arith, low, apart)) (omega (arith, high)))) (cases_eq k i)

-- ---- the set

-- The set whose bits are the bits of n.
abbrev of_bits : ℕ → IfaceSet
of_bits n = record { 0 = n }

bits-same : (p q : ℕ → Bool) (n : ℕ) → ((i : ℕ) → i < n → p i ≡ q i) → bits_where p n ≡ bits_where q n
bits-same p q zero same = refl
bits-same p q (suc n) same =
    let here = same n (omega arith) in
    let below = bits-same p q n (λ i h. same i (omega (arith, h))) in
    rw (here, below) refl

named-again : (names pieces : List (List ℕ)) → AreNames names → set_named names (members 0 names (set_named names pieces)) ≡ set_named names pieces
unfolding set_named
named-again names pieces are =
    let set = set_named names pieces in
    let places = places-from_distinct names are.distinct in
    ap of_bits
    (bits-same (λ i. list_any (is_at names i) (members 0 names set)) (λ i. list_any (is_at names i) pieces) (length names)
    (λ i h. any-members names i 0 names set places (omega arith) (omega (arith, h)) ∙ is_in-set_named names pieces i h))

-- A set that is given by at least one name has a member.
some-member : (names : List (List ℕ)) (piece : List ℕ) (pieces : List (List ℕ)) (i : ℕ) → AreNames names → place_of names piece ≡ Some i → list_any (is_at names i) (members 0 names (set_named names (piece ∷ pieces))) ≡ true
some-member names piece pieces i are at =
    let set = set_named names (piece ∷ pieces) in
    let inside : i < length names = (position-Some (λ other. bytes_eq other piece) names i [] at).0 in
    any-members names i 0 names set (places-from_distinct names are.distinct) (omega arith) (omega (arith, inside))
    ∙ is_in-set_named names (piece ∷ pieces) i inside
    ∙ ap (λ (o : Option ℕ). option_eq nat_eq o (Some i) || list_any (is_at names i) pieces) at
    ∙ ap (λ (b : Bool). b || list_any (is_at names i) pieces) (eq-eqb i i refl)

-- The text of the names of a set is read back as the same set.
abbrev SetText : List (List ℕ) → IfaceSet → Type 0
SetText names set = (list : List ℕ) × (set_words names set ≡ 32 ∷ list) × Lacks 32 list × (set_spelling names list ≡ Ok set)

of-members : (names ms : List (List ℕ)) (set : IfaceSet) → members 0 names set ≡ ms → 0 < length ms → list_all is_name ms ≡ true → are_known names ms ≡ true → set_named names ms ≡ set → SetText names set
unfolding set_words
of-members names [] set is some good known same = absurd (omega (arith, some))
of-members names (m ∷ ms) set is some good known same =
    let parts = and_parts (is_name m) (list_all is_name ms) good in
    let pieces : names_in (m ++ names_after_mark 44 ms) ≡ m ∷ ms = split-marked m ms (name-lacks 44 m refl parts.0) (names-lack 44 ms refl parts.1) in (
      m ++ names_after_mark 44 ms,
      ap (names_after_mark 32) is,
      lacks-append 32 m (names_after_mark 44 ms) (name-lacks 32 m refl parts.0) (marked-lacks ms (names-lack 32 ms refl parts.1)),
      ap (λ (ps : List (List ℕ)). if list_all is_name ps then (if are_known names ps then Ok (set_named names ps) else Err line.UnknownInterface) else Err line.BadLine) pieces
          ∙ ap (λ (b : Bool). if b then (if are_known names (m ∷ ms) then Ok (set_named names (m ∷ ms)) else Err line.UnknownInterface) else Err line.BadLine) good
          ∙ ap (λ (b : Bool). if b then Ok (set_named names (m ∷ ms)) else Err line.UnknownInterface) known
          ∙ ap (λ (s : IfaceSet). Ok s) same,
    )

some-any : (p : List ℕ → Bool) (ms : List (List ℕ)) → list_any p ms ≡ true → 0 < length ms
some-any p [] h = absurd (cc h)
some-any p (m ∷ ms) h = omega arith

pub set-again : (names : List (List ℕ)) (set : IfaceSet) → AreNames names → IsNamed names set → SetText names set
set-again names set are ([], some, known, is) = absurd (omega (arith, some))
set-again names set are (piece ∷ pieces, some, known, is) = by_place (place_of names piece) refl (and_parts (is_some (place_of names piece)) (are_known names pieces) known).0
  where
    all : list_all is_name (members 0 names set) ≡ true
    all = members-pass is_name 0 names set (list_all-from_AllPass is_name names are.good)

    known_again : are_known names (members 0 names set) ≡ true
    known_again = members-pass (λ (piece : List ℕ). is_some (place_of names piece)) 0 names set (all-known names names 0 (places-from_distinct names are.distinct))

    same : set_named names (members 0 names set) ≡ set
    same = ap (λ (s : IfaceSet). set_named names (members 0 names s)) is ∙ named-again names (piece ∷ pieces) are ∙ sym is

    by_place : (o : Option ℕ) → place_of names piece ≡ o → is_some o ≡ true → SetText names set
    by_place None at there = absurd (cc there)
    by_place (Some i) at there =
        let member = some-member names piece pieces i are at in
        let nonempty = some-any (is_at names i) (members 0 names set) (ap (λ (s : IfaceSet). list_any (is_at names i) (members 0 names s)) is ∙ member) in
        of-members names (members 0 names set) set refl nonempty all known_again same
