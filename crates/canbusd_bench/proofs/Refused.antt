use Rattle.std.proofs.Common.{◌≡◌, ◌≢◌, ◌⊎◌, inl, inr, ◌==◌, ℕ, ◌+◌, ◌<◌, ◌≤◌, nat_le, Bool, true, false, true≢false, ◌&&◌, List, [], ◌∷◌, ◌++◌, take, codes, fold, get_or, if◌then◌else◌, refl, sym, ap, subst, ◌∙◌, arith, append-nil, append_assoc, eqb-true, leb-true}
use Rattle.std.proofs.lemmas.List.{take_more}
use Rattle.canbusd_bench.specs.Refusals.{HasRefusal}
use Rattle.canbusd_bench.specs.inner.Watched.{seen_after, seen_in}

-- The text contains the refusal that a watcher saw.

abbrev front : List ℕ
front = codes "< error "

-- `seen` is 9 after a refusal; otherwise it is how many of the last bytes may begin a refusal
abbrev Saw : ℕ → List ℕ → Type 0
Saw seen text = ((seen ≡ 9) × HasRefusal text) ⊎ ((seen ≤ 8) × (before : List ℕ) × (text ≡ before ++ take seen front))

decide : (b : Bool) → (b ≡ true) ⊎ (b ≡ false)
decide true = inl refl
decide false = inr refl

both : (a b : Bool) → (a && b) ≡ true → (a ≡ true) × (b ≡ true)
both true b e = (refl, e)
both false b e = absurd (true≢false (sym e))

stays : (text : List ℕ) (b : ℕ) → HasRefusal text → HasRefusal (text ++ b ∷ [])
stays text b r = record {
  before = r.before;
  letter = r.letter;
  after = r.after ++ b ∷ [];
  text_is = ap (λ l. l ++ b ∷ []) r.text_is ∙ append_assoc r.before (front ++ r.letter ∷ r.after) (b ∷ []);
  least = r.least;
  most = r.most;
}

begun : (text : List ℕ) (b : ℕ) → b ≡ 60 → Saw 1 (text ++ b ∷ [])
begun text b is = inr (omega arith, text, ap (λ x. text ++ x ∷ []) is)

letter_came : (seen : ℕ) (text before : List ℕ) (b : ℕ) → seen ≡ 8 → 97 ≤ b → b ≤ 122 → text ≡ before ++ take seen front → HasRefusal (text ++ b ∷ [])
letter_came seen text before b is least most text_is = record {
  before = before;
  letter = b;
  after = [];
  text_is = ap (λ l. l ++ b ∷ []) (text_is ∙ ap (λ n. before ++ take n front) is) ∙ append_assoc before front (b ∷ []);
  least = least;
  most = most;
}

longer : (seen : ℕ) (text before : List ℕ) (b : ℕ) → seen < 8 → get_or front seen 60 ≡ b → text ≡ before ++ take seen front → text ++ b ∷ [] ≡ before ++ take (seen + 1) front
longer seen text before b few is text_is =
    ap (λ l. l ++ b ∷ []) text_is ∙ append_assoc before (take seen front) (b ∷ [])
    ∙ ap (λ l. before ++ l) (ap (λ x. take seen front ++ x ∷ []) (sym is) ∙ sym (take_more front seen 60 few))

-- `Saw` holds after one more byte
more : (seen : ℕ) (text : List ℕ) (b : ℕ) → Saw seen text → Saw (seen_after seen b) (text ++ b ∷ [])
more seen text b (inl (is, r)) = subst (λ n. Saw (seen_after n b) (text ++ b ∷ [])) (sym is) (inl (refl, stays text b r))
more seen text b (inr (few, before, text_is)) =
    by_tests (seen == 9) (b == 60) (seen == 8) (nat_le 97 b) (nat_le b 122) (get_or front seen 60 == b) refl refl refl refl refl refl
  where
    at_end : (seen == 8) ≡ true → (b == 60) ≡ false → (get_or front seen 60 == b) ≡ true → Saw (seen + 1) (text ++ b ∷ [])
    at_end e o n = let s : seen ≡ 8 = eqb-true _ _ e in let is : 60 ≡ b = ap (λ k. get_or front k 60) (sym s) ∙ eqb-true _ _ n in absurd (true≢false (sym (ap (λ x. x == 60) (sym is)) ∙ o))

    none : Saw 0 (text ++ b ∷ [])
    none = inr (omega arith, text ++ b ∷ [], sym (append-nil _))

    by_tests : (nine opens eight least most next : Bool) → (seen == 9) ≡ nine → (b == 60) ≡ opens → (seen == 8) ≡ eight → nat_le 97 b ≡ least → nat_le b 122 ≡ most → (get_or front seen 60 == b) ≡ next
        → Saw (if nine then 9 else if opens then 1 else if eight && (least && most) then 9 else if next then seen + 1 else 0) (text ++ b ∷ [])
    by_tests true opens eight least most next nine-is o e l m n = let s : seen ≡ 9 = eqb-true _ _ nine-is in absurd (omega arith)
    by_tests false true eight least most next nine-is o e l m n = begun text b (eqb-true _ _ o)
    by_tests false false true true true next nine-is o e l m n = inl (refl, letter_came seen text before b (eqb-true _ _ e) (leb-true _ _ l) (leb-true _ _ m) text_is)
    by_tests false false true true false true nine-is o e l m n = at_end e o n
    by_tests false false true false most true nine-is o e l m n = at_end e o n
    by_tests false false true true false false nine-is o e l m n = none
    by_tests false false true false most false nine-is o e l m n = none
    by_tests false false false least most true nine-is o e l m n = let s : seen ≢ 8 = λ i. absurd (true≢false (sym (ap (λ k. k == 8) i) ∙ e)) in inr (omega arith, before, longer seen text before b (omega arith) (eqb-true _ _ n) text_is)
    by_tests false false false least most false nine-is o e l m n = none

-- `Saw` holds after several more bytes
all_more : (rest : List ℕ) (seen : ℕ) (text : List ℕ) → Saw seen text → Saw (fold seen_after seen rest) (text ++ rest)
all_more [] seen text saw = subst (Saw seen) (sym (append-nil text)) saw
all_more (b ∷ rest) seen text saw = subst (Saw (fold seen_after (seen_after seen b) rest)) (append_assoc text (b ∷ []) rest) (all_more rest (seen_after seen b) (text ++ b ∷ []) (more seen text b saw))

-- if a refusal was seen, the text contains one
pub is_refusal : (text : List ℕ) → seen_in 0 text ≡ 9 → HasRefusal text
is_refusal text e = elim (all_more text 0 [] (inr (omega arith, [], refl))) [
  | inl has ↦ has.1
  | inr none ↦ absurd (few _ none.0 e)
]
  where
    few : (n : ℕ) → n ≤ 8 → n ≡ 9 → ⊥
    few n least is = omega arith
