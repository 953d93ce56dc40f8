-- Lists of publications, and their ends.
use Rattle.std.proofs.Common.{◌≡◌, ◌≢◌, ℕ, zero, suc, ◌+◌, ◌*◌, ◌/◌, ◌%◌, ◌≤◌, Bool, true, false, List, [], ◌∷◌, ◌++◌, length, refl, ap, sym, ◌∙◌, subst, arith, length-append}
use Rattle.std.specs.Prelude.{nat_eq, nat_le, if◌then◌else◌}
use Rattle.std.proofs.lemmas.Bool.Decides.{nat_tests}
use mathlib.Core.List.{IsSuffix, suffix_refl, suffix-cons, IsSuffix-trans}
use mathlib.Core.Logic.{dite}
use native.Mathlib.Decide.{ℕ_discrete}
use Rattle.can_meter.specs.declared.status.Status.{Status}
use Rattle.can_meter.specs.Publications.{newest, published, with_list, with_newest, longer, longer_lists, AreEndsOf}
use Rattle.can_meter.specs.Rule.{AreRising, AllEnd}
use Rattle.can_meter.specs.Words.{down_bit, status_word, meant, Fits}

-- of two suffixes of one list, the shorter is a suffix of the longer
pub suffix_shorter : {A : Type 0} (xs ys zs : List A) → IsSuffix xs zs → IsSuffix ys zs → length xs ≤ length ys → IsSuffix xs ys
suffix_shorter {A} xs ys zs p q le = walk p.0 q.0 zs p.1 q.1
  where
    walk : (ts us zs : List A) → ts ++ xs ≡ zs → us ++ ys ≡ zs → IsSuffix xs ys
    walk ts [] zs p q = (ts, p ∙ sym q)
    walk [] (u ∷ us) zs p q = let n : length xs ≡ length (u ∷ us ++ ys) = ap length (p ∙ sym q) in absurd (omega (arith, length-append us ys))
    walk (t ∷ ts) (u ∷ us) [] p q = absurd (cc p)
    walk (t ∷ ts) (u ∷ us) (z ∷ zs) p q = walk ts us zs (cc p) (cc q)

-- the list of an interface after this list was replaced
pub published-with_list : (lists : List (List Status)) (i : ℕ) (ps : List Status) → published (with_list lists i ps) i ≡ ps
published-with_list [] zero ps = refl
published-with_list [] (suc i) ps = published-with_list [] i ps
published-with_list (qs ∷ lists) zero ps = refl
published-with_list (qs ∷ lists) (suc i) ps = published-with_list lists i ps

-- the list of every other interface stays the same
pub published-with_list_else : (lists : List (List Status)) (i j : ℕ) (ps : List Status) → j ≢ i → published (with_list lists i ps) j ≡ published lists j
published-with_list_else [] zero zero ps n = absurd (n refl)
published-with_list_else [] zero (suc j) ps n = refl
published-with_list_else [] (suc i) zero ps n = refl
published-with_list_else [] (suc i) (suc j) ps n = published-with_list_else [] i j ps (λ e. n (ap suc e))
published-with_list_else (qs ∷ lists) zero zero ps n = absurd (n refl)
published-with_list_else (qs ∷ lists) zero (suc j) ps n = refl
published-with_list_else (qs ∷ lists) (suc i) zero ps n = refl
published-with_list_else (qs ∷ lists) (suc i) (suc j) ps n = published-with_list_else lists i j ps (λ e. n (ap suc e))

-- a fact about each list still holds after one list was replaced
pub lists_with : (P : ℕ → List Status → Type 0) (lists : List (List Status)) (i : ℕ) (ps : List Status)
    → P i ps → ((j : ℕ) → j ≢ i → P j (published lists j)) → (j : ℕ) → P j (published (with_list lists i ps) j)
lists_with P lists i ps here others j =
    dite (ℕ_discrete j i)
    (λ (e : j ≡ i). subst (λ (k : ℕ). P k (published (with_list lists i ps) k)) (sym e) (subst (P i) (sym (published-with_list lists i ps)) here))
    (λ (n : j ≢ i). subst (P j) (sym (published-with_list_else lists i j ps n)) (others j n))

pub ends_self : (lists : List (List Status)) → AreEndsOf lists lists
ends_self lists i = suffix_refl (published lists i)

pub ends_trans : (xs ys zs : List (List Status)) → AreEndsOf xs ys → AreEndsOf ys zs → AreEndsOf xs zs
ends_trans xs ys zs p q i = IsSuffix-trans (p i) (q i)

pub all_end_trans : (olds : List (List (List Status))) (ys zs : List (List Status)) → AllEnd olds ys → AreEndsOf ys zs → AllEnd olds zs
all_end_trans [] ys zs p q = tt
all_end_trans (older ∷ olds) ys zs p q = (ends_trans older ys zs p.0 q, all_end_trans olds ys zs p.1 q)

-- the old list is a suffix of the list after a publication
pub ends_newest : (lists : List (List Status)) (i : ℕ) (p : Status) → AreEndsOf lists (with_newest lists i p)
ends_newest lists i p =
    lists_with (λ j ps. IsSuffix (published lists j) ps) lists i (p ∷ published lists i) (suffix-cons p (published lists i)) (λ j n. suffix_refl (published lists j))

pub fits-newest : (ps : List Status) → AreRising ps → Fits (newest ps)
fits-newest [] r = (omega arith, omega arith, omega arith)
fits-newest (p ∷ ps) r = r.1

-- the longer of two ends of one list
longer_if : (b : Bool) (ps qs all : List Status) → nat_le (length ps) (length qs) ≡ b → IsSuffix ps all → IsSuffix qs all
    → IsSuffix ps (if b then qs else ps) × IsSuffix qs (if b then qs else ps) × IsSuffix (if b then qs else ps) all
longer_if true ps qs all e p q = (suffix_shorter ps qs all p q (grind (arith, nat_tests)), suffix_refl qs, q)
longer_if false ps qs all e p q = (suffix_refl ps, suffix_shorter qs ps all q p (grind (arith, nat_tests)), p)

pub longer_is : (ps qs all : List Status) → IsSuffix ps all → IsSuffix qs all → IsSuffix ps (longer ps qs) × IsSuffix qs (longer ps qs) × IsSuffix (longer ps qs) all
longer_is ps qs all p q = longer_if (nat_le (length ps) (length qs)) ps qs all refl p q

longer_none : (b : Bool) (ps : List Status) → nat_le (length ps) 0 ≡ b → ps ≡ (if b then [] else ps)
longer_none false ps e = refl
longer_none true [] e = refl
longer_none true (p ∷ ps) e = absurd (grind (arith, nat_tests))

none_longer : (b : Bool) (qs : List Status) → nat_le 0 (length qs) ≡ b → qs ≡ (if b then qs else [])
none_longer true qs e = refl
none_longer false qs e = absurd (grind (arith, nat_tests))

pub published-longer : (a b : List (List Status)) (i : ℕ) → published (longer_lists a b) i ≡ longer (published a i) (published b i)
published-longer [] b i = none_longer _ (published b i) refl
published-longer (ps ∷ a) [] i = longer_none _ (published (ps ∷ a) i) refl
published-longer (ps ∷ a) (qs ∷ b) zero = refl
published-longer (ps ∷ a) (qs ∷ b) (suc i) = published-longer a b i

-- if `a` and `b` are ends of `all`, both are ends of the longer lists, which are also ends of `all`
pub longer_ends : (a b all : List (List Status)) → AreEndsOf a all → AreEndsOf b all → AreEndsOf a (longer_lists a b) × AreEndsOf b (longer_lists a b) × AreEndsOf (longer_lists a b) all
longer_ends a b all p q = ((λ i. (each i).0), (λ i. (each i).1), (λ i. (each i).2))
  where
    Longest : ℕ → List Status → Type 0
    Longest i ps = IsSuffix (published a i) ps × IsSuffix (published b i) ps × IsSuffix ps (published all i)

    each : (i : ℕ) → Longest i (published (longer_lists a b) i)
    each i = subst (Longest i) (sym (published-longer a b i)) (longer_is (published a i) (published b i) (published all i) (p i) (q i))

-- the lowest bit of a word is the flag from which the word was made
bit_back : (n : ℕ) (b : Bool) → nat_eq ((n * 2 + down_bit b) % 2) 1 ≡ b
bit_back n true = let one : (n * 2 + 1) % 2 ≡ 1 = omega arith in rw one refl
bit_back n false = let none : (n * 2 + 0) % 2 ≡ 0 = omega arith in rw none refl

-- the bits above the lowest bit are the rest of the word
rest_back : (n : ℕ) (b : Bool) → (n * 2 + down_bit b) / 2 ≡ n
rest_back n true = omega arith
rest_back n false = omega arith

-- a word stores the publication from which it was made
pub meant-word_of : (p : Status) → Fits p → meant (status_word p) ≡ p
meant-word_of p f =
    let rest : status_word p / 2 ≡ (p.at * 512 + p.counters.tec) * 256 + p.counters.rec = rest_back _ p.counters.down in
    let at : status_word p / 2 / 256 / 512 ≡ p.at = omega (arith, rest) in
    let tec : status_word p / 2 / 256 % 512 ≡ p.counters.tec = omega (arith, rest) in
    let rec : status_word p / 2 % 256 ≡ p.counters.rec = omega (arith, rest) in
    let down : nat_eq (status_word p % 2) 1 ≡ p.counters.down = bit_back _ p.counters.down in
    λ k. record { at = at k; counters = record { tec = tec k; rec = rec k; down = down k } }
