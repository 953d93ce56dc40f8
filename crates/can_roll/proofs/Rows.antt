-- Facts about the lists of calls of the passes.
use Rattle.std.proofs.Common.{◌≡◌, ◌≢◌, ◌⊎◌, ℕ, zero, suc, ◌<◌, List, [], ◌∷◌, ◌++◌, length, refl, ap, sym, inl, inr, ⊎_elim, arith}
use mathlib.Core.Option.{some, some-injective, some-ne-none}
use lib.ListN.{get_elem?}
use Rattle.can_event.specs.declared.entry.Entry.{Entry}
use Rattle.can_roll.specs.Lists.{row, call_added, added_all}

pub row_front : (ls : List (List Entry)) (p : ℕ) → row (ls ++ [] ∷ []) p ≡ row ls p
row_front [] zero = refl
row_front [] (suc p) = refl
row_front (l ∷ ls) zero = refl
row_front (l ∷ ls) (suc p) = row_front ls p

pub row_past : (ls : List (List Entry)) → row ls (length ls) ≡ []
row_past [] = refl
row_past (l ∷ ls) = row_past ls

pub row_added_all : (ls : List (List Entry)) (p : ℕ) (cs : List Entry) → p < length ls → row (added_all ls p cs) p ≡ cs ++ row ls p
row_added_all [] p cs h = absurd (omega arith)
row_added_all (l ∷ ls) zero cs h = refl
row_added_all (l ∷ ls) (suc p) cs h = row_added_all ls p cs (omega arith)

pub row_added_all_else : (ls : List (List Entry)) (p q : ℕ) (cs : List Entry) → q ≢ p → row (added_all ls p cs) q ≡ row ls q
row_added_all_else [] p q cs n = refl
row_added_all_else (l ∷ ls) zero zero cs n = absurd (n refl)
row_added_all_else (l ∷ ls) zero (suc q) cs n = refl
row_added_all_else (l ∷ ls) (suc p) zero cs n = refl
row_added_all_else (l ∷ ls) (suc p) (suc q) cs n = row_added_all_else ls p q cs (λ e. n (ap suc e))

pub length-added_all : (ls : List (List Entry)) (p : ℕ) (cs : List Entry) → length (added_all ls p cs) ≡ length ls
length-added_all [] p cs = refl
length-added_all (l ∷ ls) zero cs = refl
length-added_all (l ∷ ls) (suc p) cs = ap suc (length-added_all ls p cs)

pub row_added : (ls : List (List Entry)) (p : ℕ) (c : Entry) → p < length ls → row (call_added ls p c) p ≡ c ∷ row ls p
row_added ls p c h = row_added_all ls p (c ∷ []) h

pub row_added_else : (ls : List (List Entry)) (p q : ℕ) (c : Entry) → q ≢ p → row (call_added ls p c) q ≡ row ls q
row_added_else ls p q c n = row_added_all_else ls p q (c ∷ []) n

pub length-added : (ls : List (List Entry)) (p : ℕ) (c : Entry) → length (call_added ls p c) ≡ length ls
length-added ls p c = length-added_all ls p (c ∷ [])

-- The elements of a list after one element is added at its end.
pub at_end : {A : Type 0} (l : List A) (a b : A) (j : ℕ) → get_elem? (l ++ a ∷ []) j ≡ some b → (get_elem? l j ≡ some b) ⊎ ((j ≡ length l) × (a ≡ b))
at_end [] a b zero e = inr (refl, some-injective a b e)
at_end [] a b (suc j) e = absurd (some-ne-none b (sym e))
at_end (x ∷ xs) a b zero e = inl e
at_end (x ∷ xs) a b (suc j) e = ⊎_elim (λ t. inl t) (λ t. inr (ap suc t.0, t.1)) (at_end xs a b j e)
