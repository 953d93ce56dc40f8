-- Each step keeps the rule.
use Rattle.std.proofs.Common.{◌≡◌, ◌≢◌, ℕ, zero, suc, ◌<◌, List, [], ◌∷◌, ◌++◌, length, set, slice_index, get_or-set_same, get_or-set_other, refl, ap, sym, ◌∙◌, subst, ⊎_elim, arith, length-set}
use mathlib.Core.List.{IsSuffix, suffix_refl, nil-suffix}
use mathlib.Core.Option.{some, none, some-injective, some-ne-none}
use lib.ListN.{get_elem?}
use Rattle.atomic_table.specs.Table.{State, Allows, Splits, Joins, keeps, step}
use Rattle.atomic_table.proofs.Lists.{at_set, at_snoc, set_again}
use Rattle.can_meter.specs.declared.status.Status.{Status}
use Rattle.can_meter.specs.declared.rule.View.{View}
use Rattle.can_meter.specs.declared.rule.View.TheVariants.{Keeps, Watches, Spent}
use Rattle.can_meter.specs.Publications.{newest, published, with_list, longer_lists, AreEndsOf}
use Rattle.can_meter.specs.Rule.{AreRising, KnowsPublications, Metered, LoadsPublications, ReturnsOldLists, Stores, new_gauge, watcher, seat_taken_in, seat_lists}
use Rattle.can_meter.specs.Words.{status_word, meant, Fits}
use Rattle.can_meter.proofs.Lists.{lists_with, ends_self, ends_trans, all_end_trans, ends_newest, longer_ends, meant-word_of}

set_same : (words : List ℕ) (i : ℕ) → set words i (slice_index words i) ≡ words
set_same [] i = refl
set_same (n ∷ words) zero = refl
set_same (n ∷ words) (suc i) = ap (λ ns. n ∷ ns) (set_same words i)

-- each seat still knows its part after the view of one seat changed
knows_set : (keeper : ℕ) (all : List (List Status)) (views : List View) (id : ℕ) (w : View)
    → ((j : ℕ) (u : View) → j ≢ id → get_elem? views j ≡ some u → KnowsPublications keeper all j u) → KnowsPublications keeper all id w
    → (j : ℕ) (u : View) → get_elem? (set views id w) j ≡ some u → KnowsPublications keeper all j u
knows_set keeper all views id w others mine j u e =
    ⊎_elim
    (λ (x : (j ≡ id) × (w ≡ u)). subst (λ (y : ℕ × View). KnowsPublications keeper all y.0 y.1) (λ i. (sym x.0 i, x.1 i)) mine)
    (λ (x : (j ≢ id) × (get_elem? views j ≡ some u)). others j u x.0 x.1)
    (at_set views id j w u e)

-- a seat that is not the keeper's still knows what it knew when the keeper's lists grow
knows_more : (keeper : ℕ) (all more : List (List Status)) (j : ℕ) (u : View) → j ≢ keeper → AreEndsOf all more → KnowsPublications keeper all j u → KnowsPublications keeper more j u
knows_more keeper all more j (Keeps lists olds) apart grow k = absurd (apart k.0)
knows_more keeper all more j (Watches lists olds) apart grow k = (ends_trans lists all more k.0 grow, all_end_trans olds all more k.1 grow)
knows_more keeper all more j Spent apart grow k = tt

-- the list of every seat is a suffix of the publications
ends_all : (keeper : ℕ) (all : List (List Status)) (j : ℕ) (w : View) → KnowsPublications keeper all j w → AreEndsOf (seat_lists w) all
ends_all keeper all j (Keeps lists olds) k = subst (AreEndsOf lists) k.1 (ends_self lists)
ends_all keeper all j (Watches lists olds) k = k.0
ends_all keeper all j Spent k = λ i. nil-suffix

knows_taken : (keeper : ℕ) (all : List (List Status)) (j : ℕ) (v w : View) → KnowsPublications keeper all j v → AreEndsOf (seat_lists w) all → KnowsPublications keeper all j (seat_taken_in v w)
knows_taken keeper all j (Keeps lists olds) w k e = (k.0, k.1, (e, k.2))
knows_taken keeper all j (Watches lists olds) w k e = ((longer_ends lists (seat_lists w) all k.0 e).2, (k.0, (e, k.1)))
knows_taken keeper all j Spent w k e = tt

pub begins : (count : ℕ) (words : List ℕ) → length words ≡ count → ((i : ℕ) → i < count → slice_index words i ≡ 0) → Metered count words (Keeps [] [] ∷ [])
begins count words len zeros = (0, [], len, (λ i lt. ap meant (zeros i lt)), (λ i. tt), one)
  where
    one : (j : ℕ) (v : View) → get_elem? (Keeps [] [] ∷ []) j ≡ some v → KnowsPublications 0 [] j v
    one zero v e = subst (KnowsPublications 0 [] 0) (some-injective _ _ e) (refl, refl, tt)
    one (suc j) v e = absurd (some-ne-none v (sym e))

module _ {S : Type 0} (count : ℕ) where
  abbrev Holds : State S View → Type 0
  Holds s = Metered count s.words s.views

  -- a step that does not change the words, and after which the seat knows w
  stays : (s : State S View) (h : Holds s) (word id : ℕ) (w : View) → KnowsPublications h.0 h.1 id w → Metered count (set s.words word (slice_index s.words word)) (set s.views id w)
  stays s h word id w k =
      subst (λ ws. Metered count ws (set s.views id w)) (sym (set_same s.words word)) (h.0, h.1, h.2, h.3, h.4, knows_set h.0 h.1 s.views id w (λ j u _ e. h.5 j u e) k)

  pub reads : (slots id word : ℕ) (lists : List (List Status)) → word < count
      → Allows Holds slots id (Watches lists [], []) word (λ n. n) (LoadsPublications (step slots word 0 0 none) (Watches lists [], []))
  reads slots id word lists lt s h homes at fits =
      let mine : KnowsPublications h.0 h.1 id (Watches lists []) = h.5 id (Watches lists []) at in
      let seen = published h.1 word in
      let w = Watches (with_list lists word seen) [] in
      let now : KnowsPublications h.0 h.1 id w = (lists_with (λ j ps. IsSuffix ps (published h.1 j)) lists word seen (suffix_refl seen) (λ j _. mine.0 j), tt) in
      (w, keeps, tt, stays s h word id w now, (seen, refl, refl, mine.0 word, h.4 word, h.3 word lt))

  pub stores : (slots id word : ℕ) (lists : List (List Status)) (p : Status) → word < count → Fits p → (newest (published lists word)).at < p.at
      → Allows Holds slots id (Keeps lists [], []) word (λ _. status_word p) (λ _. Stores (step slots word (status_word p) 0 none) (Keeps lists [], []) (status_word p))
  stores slots id word lists p lt fits later s h homes at small =
      let mine : KnowsPublications h.0 h.1 id (Keeps lists []) = h.5 id (Keeps lists []) at in
      let q = meant (status_word p) in
      let same : q ≡ p = meant-word_of p fits in
      let ps = q ∷ published lists word in
      let more = with_list lists word ps in
      let grows : AreEndsOf h.1 more = subst (λ ls. AreEndsOf ls more) mine.1 (ends_newest lists word q) in
      let was : (i : ℕ) → i < count → meant (slice_index s.words i) ≡ newest (published lists i) =
      subst (λ ls. (i : ℕ) → i < count → meant (slice_index s.words i) ≡ newest (published ls i)) (sym mine.1) h.3 in
      let rose : (i : ℕ) → AreRising (published lists i) = subst (λ ls. (i : ℕ) → AreRising (published ls i)) (sym mine.1) h.4 in
      let ws = set s.words word (status_word p) in
      let len : length ws ≡ count = length-set s.words word (status_word p) ∙ h.2 in
      let there : word < length s.words = omega arith in
      let here : word < count → meant (slice_index ws word) ≡ q = λ _. ap meant (get_or-set_same s.words word (status_word p) 0 there) in
      let else : (j : ℕ) → j ≢ word → j < count → meant (slice_index ws j) ≡ newest (published lists j) =
      λ j n l. ap meant (get_or-set_other s.words word j (status_word p) 0 n) ∙ was j l in
      let now : (j : ℕ) → j < count → meant (slice_index ws j) ≡ newest (published more j) =
      lists_with (λ j qs. j < count → meant (slice_index ws j) ≡ newest qs) lists word ps here else in
      let rises : AreRising ps = (subst (λ r. (newest (published lists word)).at < r.at) (sym same) later, subst Fits (sym same) fits, rose word) in
      let rise : (j : ℕ) → AreRising (published more j) = lists_with (λ _ qs. AreRising qs) lists word ps rises (λ j _. rose j) in
      let others : (j : ℕ) (u : View) → j ≢ id → get_elem? s.views j ≡ some u → KnowsPublications h.0 more j u =
      λ j u apart e. knows_more h.0 h.1 more j u (λ k. apart (k ∙ sym mine.0)) grows (h.5 j u e) in
      (Keeps more [], keeps, tt, (h.0, more, len, now, rise, knows_set h.0 more s.views id (Keeps more []) others (mine.0, refl, tt)), (refl, refl))

  pub keeper_returns : (slots id word : ℕ) (lists olds : List (List Status))
      → Allows Holds slots id (Keeps lists (olds ∷ []), []) word (λ n. n) (ReturnsOldLists (step slots word 0 0 none) (Keeps lists (olds ∷ []), []))
  keeper_returns slots id word lists olds s h homes at fits =
      let mine : KnowsPublications h.0 h.1 id (Keeps lists (olds ∷ [])) = h.5 id (Keeps lists (olds ∷ [])) at in
      (Keeps lists [], keeps, tt, stays s h word id (Keeps lists []) (mine.0, mine.1, tt), (refl, refl, (subst (AreEndsOf olds) (sym mine.1) mine.2.0, tt)))

  pub gauge_returns : (slots id word : ℕ) (a b : List (List Status))
      → Allows Holds slots id (Watches (longer_lists a b) (a ∷ b ∷ []), []) word (λ n. n) (ReturnsOldLists (step slots word 0 0 none) (Watches (longer_lists a b) (a ∷ b ∷ []), []))
  gauge_returns slots id word a b s h homes at fits =
      let ls = longer_lists a b in
      let mine : KnowsPublications h.0 h.1 id (Watches ls (a ∷ b ∷ [])) = h.5 id (Watches ls (a ∷ b ∷ [])) at in
      let both = longer_ends a b h.1 mine.1.0 mine.1.1.0 in
      (Watches ls [], keeps, tt, stays s h word id (Watches ls []) (mine.0, tt), (refl, refl, (both.0, (both.1, tt))))

  -- one more seat
  splits : (s : State S View) (h : Holds s) (id : ℕ) (v new : View) → get_elem? s.views id ≡ some v → ((j : ℕ) → KnowsPublications h.0 h.1 j new) → Metered count s.words (set s.views id v ++ new ∷ [])
  splits s h id v new at k = (
    h.0,
    h.1,
    h.2,
    h.3,
    h.4,
    λ j u e. ⊎_elim
        (λ was. h.5 j u (subst (λ l. get_elem? l j ≡ some u) (set_again s.views id v at) was))
        (λ (same : new ≡ u). subst (KnowsPublications h.0 h.1 j) same (k j))
        (at_snoc (set s.views id v) new u j e),
  )

  pub opens : (id : ℕ) (v : View) → Splits Holds id v v (new_gauge v)
  opens id v s h at = splits s h id v (new_gauge v) at (λ j. ((λ i. nil-suffix), tt))

  pub copies : (id : ℕ) (lists : List (List Status)) → Splits Holds id (Watches lists []) (Watches lists []) (watcher (Watches lists []))
  copies id lists s h at = splits s h id (Watches lists []) (Watches lists []) at (λ j. ((h.5 id (Watches lists []) at).0, tt))

  pub takes_in : (id : ℕ) (v : View) (other : ℕ) (w : View) → Joins Holds id v other w (seat_taken_in v w) Spent
  takes_in id v other w s h at apart there =
      let both = seat_taken_in v w in
      let theirs =
      ⊎_elim
      (λ (t : (other ≡ id) × (both ≡ w)). absurd (apart t.0))
      (λ (t : (other ≢ id) × (get_elem? s.views other ≡ some w)). h.5 other w t.1)
      (at_set s.views id other both w there) in
      let mine = knows_taken h.0 h.1 id v w (h.5 id v at) (ends_all h.0 h.1 other w theirs) in
      let others = knows_set h.0 h.1 s.views id both (λ i x _ y. h.5 i x y) mine in
      (h.0, h.1, h.2, h.3, h.4, knows_set h.0 h.1 (set s.views id both) other Spent (λ j u _ e. others j u e) tt)
