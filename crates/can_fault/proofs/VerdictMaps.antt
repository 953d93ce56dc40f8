use Rattle.std.proofs.Common.{◌≡◌, ℕ, List, [], ◌∷◌, cond, Some, is_some, nat_eq, refl, ap, sym, ◌∙◌}
use Rattle.std.specs.Map.{lookup}
use Rattle.std.specs.Ordering.{nat_cmp, is_eq}
use Rattle.std.specs.Cmp.{nat_cmp_total, eq_by_cmp_equiv, unsigned_tied}
use Rattle.std.specs.HashMap.{HashMap}
use Rattle.std.specs.HashMap as table
use Rattle.std.specs.FinMap.{get, find, from_entries, insert, contains_key, same_map, nat_cmp-IsAntisymmetric, get-from_entries, get-insert}
use Rattle.can_fault.specs.declared.verdict.Verdict.{Verdict}

-- The program's map, and the finite map that it represents.

same_number : (q k : ℕ) → is_eq (nat_cmp q k) ≡ nat_eq q k
same_number q k = unsigned_tied q k

find-lookup : (q : ℕ) (es : List (ℕ × Verdict)) → find nat_cmp q es ≡ lookup (nat_eq q) es
find-lookup q [] = refl
find-lookup q (e ∷ es) = (λ i. cond (same_number q e.0 i) (Some e.1) (find-lookup q es i))

module _ {S : Type 0} where
  -- looking up a number gives the same in both maps
  pub get-from_table : (m : HashMap ℕ Verdict S) (q : ℕ) → get (from_entries {R = nat_cmp} m.entries) q ≡ table.get nat_eq m q
  get-from_table m q = get-from_entries nat_cmp_total m.entries q ∙ find-lookup q m.entries

  -- an entry of the program's map is in the finite map
  pub contains_key-from_table : (m : HashMap ℕ Verdict S) (q : ℕ) → contains_key (from_entries {R = nat_cmp} m.entries) q ≡ is_some (table.get nat_eq m q)
  contains_key-from_table m q = ap is_some (get-from_table m q)

  -- adding one entry
  pub from_table-insert : (m n : HashMap ℕ Verdict S) (k : ℕ) (v : Verdict) → table.Updates nat_eq m n k (Some v) → from_entries {R = nat_cmp} n.entries ≡ insert (from_entries m.entries) k v
  from_table-insert m n k v h = same_map nat_cmp_total nat_cmp-IsAntisymmetric _ _ (λ q.
      get-from_table n q
      ∙ h.0 q
      ∙ ap (λ b. cond b (Some v) (table.get nat_eq m q)) (sym (same_number k q) ∙ (eq_by_cmp_equiv nat_cmp_total).symm k q)
      ∙ ap (cond (is_eq (nat_cmp q k)) (Some v)) (sym (get-from_table m q))
      ∙ sym (get-insert nat_cmp_total (from_entries m.entries) k v q))
