-- Lists of passes with one more pass at the end, or without their last pass.
use Rattle.std.proofs.Common.{◌≡◌, ◌≢◌, ℕ, ◌+◌, ◌<◌, List, [], ◌∷◌, ◌++◌, length, refl, ap, sym, arith}
use Rattle.can_roll.specs.Lists.{last_pass, without_last, NotIn, Distinct, AllBelow}

pub not_in_below : (n : ℕ) (ps : List ℕ) → AllBelow n ps → NotIn n ps
not_in_below n [] h = tt
not_in_below n (p ∷ ps) h = ((λ e. omega (arith, h.0, e)), not_in_below n ps h.1)

pub below_more : (n m : ℕ) (ps : List ℕ) → n < m + 1 → AllBelow n ps → AllBelow m ps
below_more n m [] le h = tt
below_more n m (p ∷ ps) le h = (omega (arith, h.0), below_more n m ps le h.1)

-- ---- one more pass at the end

pub last_at_end : (ps : List ℕ) (p : ℕ) → last_pass (ps ++ p ∷ []) ≡ p
last_at_end [] p = refl
last_at_end (q ∷ []) p = refl
last_at_end (q ∷ r ∷ rs) p = last_at_end (r ∷ rs) p

pub without_at_end : (ps : List ℕ) (p : ℕ) → without_last (ps ++ p ∷ []) ≡ ps
without_at_end [] p = refl
without_at_end (q ∷ []) p = refl
without_at_end (q ∷ r ∷ rs) p = ap (λ x. q ∷ x) (without_at_end (r ∷ rs) p)

pub some_at_end : (ps : List ℕ) (p : ℕ) → 0 < length (ps ++ p ∷ [])
some_at_end [] p = omega arith
some_at_end (q ∷ qs) p = omega arith

pub not_in_end : (q p : ℕ) (ps : List ℕ) → NotIn q ps → q ≢ p → NotIn q (ps ++ p ∷ [])
not_in_end q p [] h n = (n, tt)
not_in_end q p (r ∷ rs) h n = (h.0, not_in_end q p rs h.1 n)

pub distinct_end : (p : ℕ) (ps : List ℕ) → Distinct ps → NotIn p ps → Distinct (ps ++ p ∷ [])
distinct_end p [] h n = (tt, tt)
distinct_end p (q ∷ qs) h n = (not_in_end q p qs h.0 (λ e. n.0 (sym e)), distinct_end p qs h.1 n.1)

pub below_end : (n p : ℕ) (ps : List ℕ) → AllBelow n ps → p < n → AllBelow n (ps ++ p ∷ [])
below_end n p [] h le = (le, tt)
below_end n p (q ∷ qs) h le = (h.0, below_end n p qs h.1 le)

-- ---- without the last pass

pub not_the_last : (q : ℕ) (ps : List ℕ) → 0 < length ps → NotIn q ps → q ≢ last_pass ps
not_the_last q [] some_in h = absurd (omega arith)
not_the_last q (p ∷ []) some_in h = h.0
not_the_last q (p ∷ r ∷ rs) some_in h = not_the_last q (r ∷ rs) (omega arith) h.1

pub not_in_rest : (q : ℕ) (ps : List ℕ) → NotIn q ps → NotIn q (without_last ps)
not_in_rest q [] h = tt
not_in_rest q (p ∷ []) h = tt
not_in_rest q (p ∷ r ∷ rs) h = (h.0, not_in_rest q (r ∷ rs) h.1)

pub distinct_rest : (ps : List ℕ) → Distinct ps → Distinct (without_last ps)
distinct_rest [] h = tt
distinct_rest (p ∷ []) h = tt
distinct_rest (p ∷ r ∷ rs) h = (not_in_rest p (r ∷ rs) h.0, distinct_rest (r ∷ rs) h.1)

pub last_not_in_rest : (ps : List ℕ) → Distinct ps → NotIn (last_pass ps) (without_last ps)
last_not_in_rest [] h = tt
last_not_in_rest (p ∷ []) h = tt
last_not_in_rest (p ∷ r ∷ rs) h = ((λ e. not_the_last p (r ∷ rs) (omega arith) h.0 (sym e)), last_not_in_rest (r ∷ rs) h.1)

pub below_rest : (n : ℕ) (ps : List ℕ) → AllBelow n ps → AllBelow n (without_last ps)
below_rest n [] h = tt
below_rest n (p ∷ []) h = tt
below_rest n (p ∷ r ∷ rs) h = (h.0, below_rest n (r ∷ rs) h.1)

pub last_below : (n : ℕ) (ps : List ℕ) → 0 < length ps → AllBelow n ps → last_pass ps < n
last_below n [] some_in h = absurd (omega arith)
last_below n (p ∷ []) some_in h = h.0
last_below n (p ∷ r ∷ rs) some_in h = last_below n (r ∷ rs) (omega arith) h.1
