-- Each step preserves the rule of a roll's table.
use Rattle.std.proofs.Common.{◌≡◌, ◌≢◌, ℕ, zero, suc, ◌+◌, ◌<◌, List, [], ◌∷◌, ◌++◌, length, set, slice_index, refl, ap, sym, ◌∙◌, subst, ⊎_elim, arith, length-append}
use mathlib.Core.Option.{some, none, some-injective, some-ne-none}
use lib.ListN.{get_elem?}
use Rattle.atomic_table.specs.Table.{State, Me, Allows, Splits, Joins, keeps, step}
use Rattle.atomic_table.specs.Seated.{TableId}
use Rattle.atomic_table.proofs.Lists.{at_set}
use Rattle.can_event.specs.declared.entry.Entry.{Entry}
use Rattle.can_roll.specs.declared.rule.View.{View}
use Rattle.can_roll.specs.declared.rule.View.TheVariants.{OfRoll, OfSlip, Spent}
use Rattle.can_roll.specs.Lists.{row, added_all, last_pass, without_last, NotIn, Distinct, AllBelow}
use Rattle.can_roll.specs.Rule.{IsBrought, Knows, Apart, IsRolled, pass_entered, newcomer, called_in, sent_out, slip_sent, returned, Shows, Returns, calls_noted, Notes, IsAtTable}
use Rattle.can_roll.proofs.Rows.{row_front, row_past, row_added_all_else, length-added_all, at_end}
use Rattle.can_roll.proofs.Passes.{not_in_below, below_more, last_at_end, without_at_end, not_in_end, distinct_end, below_end, not_the_last, not_in_rest, distinct_rest, last_not_in_rest, below_rest, last_below}

-- ---- the rule, if the view is a roll's view

-- The rule, stated with the fields of the roll's view.
abbrev Standing : List ℕ → List View → ℕ → List (List Entry) → List ℕ → List (List Entry) → Type 0
Standing words views id lists called brought =
    (words ≡ 0 ∷ []) × Distinct called × AllBelow (length lists) called × IsBrought lists called brought
    × ((by : ℕ) (v : View) → get_elem? views by ≡ some v → Knows id lists called brought by v)
    × Apart views

standing : (words : List ℕ) (views : List View) (id : ℕ) (lists : List (List Entry)) (called : List ℕ) (brought : List (List Entry))
    → IsRolled words views → get_elem? views id ≡ some (OfRoll lists called brought) → Standing words views id lists called brought
standing words views id lists called brought h at =
    let mine : Knows h.0 h.1 h.2 h.3 id (OfRoll lists called brought) = h.8 id (OfRoll lists called brought) at in
    subst
    (λ (x : ℕ × List (List Entry) × List ℕ × List (List Entry)). Standing words views x.0 x.1 x.2 x.3)
    (λ k. (sym mine.0 k, sym mine.1 k, sym mine.2 k, sym mine.3 k))
    (h.4, h.5, h.6, h.7, h.8, h.9)

-- After the roll's view is replaced, each seat's view agrees with the new view, if all other seats' views do.
knows_set : (views : List View) (id : ℕ) (lists : List (List Entry)) (called : List ℕ) (brought : List (List Entry))
    → ((j : ℕ) (u : View) → j ≢ id → get_elem? views j ≡ some u → Knows id lists called brought j u)
    → (j : ℕ) (u : View) → get_elem? (set views id (OfRoll lists called brought)) j ≡ some u → Knows id lists called brought j u
knows_set views id lists called brought others j u e =
    ⊎_elim
    (λ (x : (j ≡ id) × (OfRoll lists called brought ≡ u)).
    subst (λ (y : ℕ × View). Knows id lists called brought y.0 y.1) (λ k. (sym x.0 k, x.1 k)) (refl, refl, refl, refl))
    (λ (x : (j ≢ id) × (get_elem? views j ≡ some u)). others j u x.0 x.1)
    (at_set views id j (OfRoll lists called brought) u e)

-- ---- no two slips have the same pass

roll_is_no_slip : (lists : List (List Entry)) (called : List ℕ) (brought : List (List Entry)) (p : ℕ) (calls : List Entry) → OfRoll lists called brought ≢ OfSlip p calls
roll_is_no_slip lists called brought p calls e = absurd (cc (e))

spent_is_no_slip : (p : ℕ) (calls : List Entry) → Spent ≢ OfSlip p calls
spent_is_no_slip p calls e = absurd (cc (e))

-- A seat that gets a view other than a slip.
apart_set : (views : List View) (id : ℕ) (w : View) → ((p : ℕ) (xs : List Entry) → w ≢ OfSlip p xs) → Apart views → Apart (set views id w)
apart_set views id w none_is apart i j p xs ys e f =
    ⊎_elim
    (λ (x : (i ≡ id) × (w ≡ OfSlip p xs)). absurd (none_is p xs x.1))
    (λ (x : (i ≢ id) × (get_elem? views i ≡ some (OfSlip p xs))).
    ⊎_elim
    (λ (y : (j ≡ id) × (w ≡ OfSlip p ys)). absurd (none_is p ys y.1))
    (λ (y : (j ≢ id) × (get_elem? views j ≡ some (OfSlip p ys))). apart i j p xs ys x.1 y.1)
    (at_set views id j w (OfSlip p ys) f))
    (at_set views id i w (OfSlip p xs) e)

-- A new slip whose pass no other slip has.
apart_end : (views : List View) (q : ℕ) (l : List Entry) → ((j : ℕ) (ys : List Entry) → get_elem? views j ≢ some (OfSlip q ys)) → Apart views → Apart (views ++ OfSlip q l ∷ [])
apart_end views q l fresh apart i j p xs ys e f =
    ⊎_elim
    (λ (x : get_elem? views i ≡ some (OfSlip p xs)).
    ⊎_elim
    (λ (y : get_elem? views j ≡ some (OfSlip p ys)). apart i j p xs ys x y)
    (λ (y : (j ≡ length views) × (OfSlip q l ≡ OfSlip p ys)).
    let same : q ≡ p = cc (y.1) in absurd (fresh i xs (x ∙ ap (λ k. some (OfSlip k xs)) (sym same))))
    (at_end views (OfSlip q l) (OfSlip p ys) j f))
    (λ (x : (i ≡ length views) × (OfSlip q l ≡ OfSlip p xs)).
    ⊎_elim
    (λ (y : get_elem? views j ≡ some (OfSlip p ys)).
    let same : q ≡ p = cc (x.1) in absurd (fresh j ys (y ∙ ap (λ k. some (OfSlip k ys)) (sym same))))
    (λ (y : (j ≡ length views) × (OfSlip q l ≡ OfSlip p ys)). x.0 ∙ sym y.0)
    (at_end views (OfSlip q l) (OfSlip p ys) j f))
    (at_end views (OfSlip q l) (OfSlip p xs) i e)

-- ---- the steps

-- A roll that was just made.
pub begins : IsRolled (0 ∷ []) (OfRoll [] [] [] ∷ [])
begins = (0, [], [], [], refl, tt, tt, tt, one, two)
  where
    one : (by : ℕ) (v : View) → get_elem? (OfRoll [] [] [] ∷ []) by ≡ some v → Knows 0 [] [] [] by v
    one zero v e = subst (Knows 0 [] [] [] 0) (some-injective _ _ e) (refl, refl, refl, refl)
    one (suc by) v e = absurd (some-ne-none v (sym e))

    two : Apart (OfRoll [] [] [] ∷ [])
    two zero j p xs ys e f = absurd (roll_is_no_slip [] [] [] p xs (some-injective _ _ e))
    two (suc i) j p xs ys e f = absurd (some-ne-none (OfSlip p xs) (sym e))

module _ {S : Type 0} where
  abbrev Holds : State S View → Type 0
  Holds s = IsRolled s.words s.views

  pub enters : (id : ℕ) (lists : List (List Entry)) (called : List ℕ)
      → Splits Holds id (OfRoll lists called []) (pass_entered (OfRoll lists called [])) (newcomer (OfRoll lists called []))
  enters id lists called s h at =
      let t = standing s.words s.views id lists called [] h at in
      let more = lists ++ [] ∷ [] in
      let longer : length more ≡ length lists + 1 = length-append lists ([] ∷ []) in
      let w = OfRoll more called [] in
      let old : (j : ℕ) (u : View) → get_elem? (set s.views id w) j ≡ some u → Knows id more called [] j u =
      knows_set s.views id more called [] (λ j u n e. stay id lists called longer j u n (t.4 j u e)) in (
        id,
        more,
        called,
        [],
        t.0,
        t.1,
        below_more (length lists) (length more) called (omega arith) t.2,
        tt,
        (λ j u e. ⊎_elim
            (old j u)
            (λ (x : (j ≡ length (set s.views id w)) × (OfSlip (length lists) [] ≡ u)).
            subst (Knows id more called [] j) x.1 (row_front lists (length lists) ∙ row_past lists, omega arith, not_in_below (length lists) called t.2))
            (at_end (set s.views id w) (OfSlip (length lists) []) u j e)),
        apart_end (set s.views id w) (length lists) []
            (λ j ys e. ⊎_elim
            (λ (x : (j ≡ id) × (w ≡ OfSlip (length lists) ys)). roll_is_no_slip more called [] (length lists) ys x.1)
            (λ (x : (j ≢ id) × (get_elem? s.views j ≡ some (OfSlip (length lists) ys))).
            let k : length lists < length lists = (t.4 j (OfSlip (length lists) ys) x.1).1 in omega (arith, k))
            (at_set s.views id j w (OfSlip (length lists) ys) e))
            (apart_set s.views id w (roll_is_no_slip more called []) t.5),
      )
    where
      stay : (id : ℕ) (lists : List (List Entry)) (called : List ℕ) → length (lists ++ [] ∷ []) ≡ length lists + 1
          → (j : ℕ) (u : View) → j ≢ id → Knows id lists called [] j u → Knows id (lists ++ [] ∷ []) called [] j u
      stay id lists called len j (OfRoll a b c) n k = absurd (n k.0)
      stay id lists called len j (OfSlip q l) n k = (row_front lists q ∙ k.0, omega (arith, k.1), k.2)
      stay id lists called len j Spent n k = tt

  pub calls_in : (id : ℕ) (lists : List (List Entry)) (called : List ℕ) (other p : ℕ) (calls : List Entry)
      → Joins Holds id (OfRoll lists called []) other (OfSlip p calls) (called_in (OfRoll lists called []) (OfSlip p calls)) Spent
  calls_in id lists called other p calls s h at differ there =
      let t = standing s.words s.views id lists called [] h at in
      let more = called ++ p ∷ [] in
      let both = OfRoll lists more (calls ∷ []) in
      let was : get_elem? s.views other ≡ some (OfSlip p calls) =
      ⊎_elim
      (λ (x : (other ≡ id) × (both ≡ OfSlip p calls)). absurd (differ x.0))
      (λ (x : (other ≢ id) × (get_elem? s.views other ≡ some (OfSlip p calls))). x.1)
      (at_set s.views id other both (OfSlip p calls) there) in
      let theirs : Knows id lists called [] other (OfSlip p calls) = t.4 other (OfSlip p calls) was in (
        id,
        lists,
        more,
        calls ∷ [],
        t.0,
        distinct_end p called t.1 theirs.2,
        below_end (length lists) p called t.2 theirs.1,
        ap (row lists) (last_at_end called p) ∙ theirs.0,
        (λ j u e. ⊎_elim
            (λ (x : (j ≡ other) × (Spent ≡ u)). subst (Knows id lists more (calls ∷ []) j) x.1 tt)
            (λ (x : (j ≢ other) × (get_elem? (set s.views id both) j ≡ some u)).
            ⊎_elim
            (λ (y : (j ≡ id) × (both ≡ u)).
            subst (λ (z : ℕ × View). Knows id lists more (calls ∷ []) z.0 z.1) (λ i. (sym y.0 i, y.1 i)) (refl, refl, refl, refl))
            (λ (y : (j ≢ id) × (get_elem? s.views j ≡ some u)).
            stay id lists called p calls j u y.0 (λ m same. x.0 (t.5 j other p m calls (y.1 ∙ ap some same) was)) (t.4 j u y.1))
            (at_set s.views id j both u x.1))
            (at_set (set s.views id both) other j Spent u e)),
        apart_set (set s.views id both) other Spent spent_is_no_slip (apart_set s.views id both (roll_is_no_slip lists more (calls ∷ [])) t.5),
      )
    where
      stay : (id : ℕ) (lists : List (List Entry)) (called : List ℕ) (p : ℕ) (calls : List Entry) (j : ℕ) (u : View)
          → j ≢ id → ((m : List Entry) → u ≢ OfSlip p m) → Knows id lists called [] j u → Knows id lists (called ++ p ∷ []) (calls ∷ []) j u
      stay id lists called p calls j (OfRoll a b c) n o k = absurd (n k.0)
      stay id lists called p calls j (OfSlip q m) n o k = (k.0, k.1, not_in_end q p called k.2 (λ e. o m (ap (λ x. OfSlip x m) e)))
      stay id lists called p calls j Spent n o k = tt

  words_stay : (s : State S View) → s.words ≡ 0 ∷ [] → set s.words 0 (slice_index s.words 0) ≡ 0 ∷ []
  words_stay s e = ap (λ ws. set ws 0 (slice_index ws 0)) e

  pub tells : (slots id : ℕ) (lists : List (List Entry)) (called : List ℕ) (calls : List Entry) → 0 < length called
      → Allows Holds slots id (OfRoll lists called (calls ∷ []), []) 0 (λ n. n) (Returns (step slots 0 0 0 none) (OfRoll lists called (calls ∷ []), []))
  tells slots id lists called calls some_in s h homes at fits =
      let t = standing s.words s.views id lists called (calls ∷ []) h at in
      let w = OfRoll lists called [] in (
        w,
        keeps,
        tt,
        (
          id,
          lists,
          called,
          [],
          words_stay s t.0,
          t.1,
          t.2,
          tt,
          knows_set s.views id lists called [] (λ j u n e. stay id lists called calls j u n (t.4 j u e)),
          apart_set s.views id w (roll_is_no_slip lists called []) t.5,
        ),
        (refl, refl, (t.3, last_below (length lists) called some_in t.2, last_not_in_rest called t.1)),
      )
    where
      stay : (id : ℕ) (lists : List (List Entry)) (called : List ℕ) (calls : List Entry) (j : ℕ) (u : View)
          → j ≢ id → Knows id lists called (calls ∷ []) j u → Knows id lists called [] j u
      stay id lists called calls j (OfRoll a b c) n k = absurd (n k.0)
      stay id lists called calls j (OfSlip q m) n k = k
      stay id lists called calls j Spent n k = tt

  pub notes : (calls : List Entry) (slots id : ℕ) (lists : List (List Entry)) (called : List ℕ) → 0 < length called
      → Allows Holds slots id (OfRoll lists called [], []) 0 (λ n. n) (Notes calls (step slots 0 0 0 none) (OfRoll lists called [], []))
  notes calls slots id lists called some_in s h homes at fits =
      let t = standing s.words s.views id lists called [] h at in
      let more = added_all lists (last_pass called) calls in
      let w = OfRoll more called [] in
      let len : length more ≡ length lists = length-added_all lists (last_pass called) calls in (
        w,
        keeps,
        tt,
        (
          id,
          more,
          called,
          [],
          words_stay s t.0,
          t.1,
          subst (λ n. AllBelow n called) (sym len) t.2,
          tt,
          knows_set s.views id more called [] (λ j u n e. stay calls id lists called some_in j u n (t.4 j u e)),
          apart_set s.views id w (roll_is_no_slip more called []) t.5,
        ),
        (refl, refl),
      )
    where
      stay : (calls : List Entry) (id : ℕ) (lists : List (List Entry)) (called : List ℕ) → 0 < length called → (j : ℕ) (u : View)
          → j ≢ id → Knows id lists called [] j u → Knows id (added_all lists (last_pass called) calls) called [] j u
      stay calls id lists called some_in j (OfRoll a b d) n k = absurd (n k.0)
      stay calls id lists called some_in j (OfSlip q m) n k = (
        row_added_all_else lists (last_pass called) q calls (not_the_last q called some_in k.2) ∙ k.0,
        subst (λ n. q < n) (sym (length-added_all lists (last_pass called) calls)) k.1,
        k.2,
      )
      stay calls id lists called some_in j Spent n k = tt

  pub sends : (id : ℕ) (lists : List (List Entry)) (called : List ℕ) → 0 < length called
      → Splits Holds id (OfRoll lists called []) (sent_out (OfRoll lists called [])) (slip_sent (OfRoll lists called []))
  sends id lists called some_in s h at =
      let t = standing s.words s.views id lists called [] h at in
      let p = last_pass called in
      let rest = without_last called in
      let w = OfRoll lists rest [] in
      let old : (j : ℕ) (u : View) → get_elem? (set s.views id w) j ≡ some u → Knows id lists rest [] j u =
      knows_set s.views id lists rest [] (λ j u n e. stay id lists called j u n (t.4 j u e)) in (
        id,
        lists,
        rest,
        [],
        t.0,
        distinct_rest called t.1,
        below_rest (length lists) called t.2,
        tt,
        (λ j u e. ⊎_elim
            (old j u)
            (λ (x : (j ≡ length (set s.views id w)) × (OfSlip p (row lists p) ≡ u)).
            subst (Knows id lists rest [] j) x.1 (refl, last_below (length lists) called some_in t.2, last_not_in_rest called t.1))
            (at_end (set s.views id w) (OfSlip p (row lists p)) u j e)),
        apart_end (set s.views id w) p (row lists p)
            (λ j ys e. ⊎_elim
            (λ (x : (j ≡ id) × (w ≡ OfSlip p ys)). roll_is_no_slip lists rest [] p ys x.1)
            (λ (x : (j ≢ id) × (get_elem? s.views j ≡ some (OfSlip p ys))). not_the_last p called some_in (t.4 j (OfSlip p ys) x.1).2 refl)
            (at_set s.views id j w (OfSlip p ys) e))
            (apart_set s.views id w (roll_is_no_slip lists rest []) t.5),
      )
    where
      stay : (id : ℕ) (lists : List (List Entry)) (called : List ℕ) (j : ℕ) (u : View)
          → j ≢ id → Knows id lists called [] j u → Knows id lists (without_last called) [] j u
      stay id lists called j (OfRoll a b c) n k = absurd (n k.0)
      stay id lists called j (OfSlip q m) n k = (k.0, k.1, not_in_rest q called k.2)
      stay id lists called j Spent n k = tt

-- ---- the same facts, with the view given by an equation

pub enters_as : {S : Type 0} (id : ℕ) (me : Me S View) (lists : List (List Entry)) (called : List ℕ)
    → me ≡ (OfRoll lists called [], []) → Splits (λ (s : State S View). IsRolled s.words s.views) id me.0 (pass_entered me.0) (newcomer me.0)
enters_as {S} id me lists called is =
    subst (λ (m : Me S View). Splits (λ (s : State S View). IsRolled s.words s.views) id m.0 (pass_entered m.0) (newcomer m.0)) (sym is) (enters id lists called)

pub calls_in_as : {S : Type 0} (id other : ℕ) (me you : Me S View) (lists : List (List Entry)) (called : List ℕ) (p : ℕ) (calls : List Entry)
    → me ≡ (OfRoll lists called [], []) → you ≡ (OfSlip p calls, [])
    → Joins (λ (s : State S View). IsRolled s.words s.views) id me.0 other you.0 (called_in me.0 you.0) Spent
calls_in_as {S} id other me you lists called p calls is that =
    subst
    (λ (x : Me S View × Me S View). Joins (λ (s : State S View). IsRolled s.words s.views) id x.0.0 other x.1.0 (called_in x.0.0 x.1.0) Spent)
    (λ k. (sym is k, sym that k))
    (calls_in id lists called other p calls)

pub returns_as : {S : Type 0} (slots id : ℕ) (me : Me S View) (lists : List (List Entry)) (called : List ℕ) (calls : List Entry) → 0 < length called
    → me ≡ (OfRoll lists called (calls ∷ []), [])
    → Allows (λ (s : State S View). IsRolled s.words s.views) slots id me 0 (λ n. n) (Returns (step slots 0 0 0 none) me)
returns_as {S} slots id me lists called calls some_in is =
    subst
    (λ (m : Me S View). Allows (λ (s : State S View). IsRolled s.words s.views) slots id m 0 (λ n. n) (Returns (step slots 0 0 0 none) m))
    (sym is)
    (tells slots id lists called calls some_in)

pub notes_as : {S : Type 0} (calls : List Entry) (slots id : ℕ) (me : Me S View) (lists : List (List Entry)) (called : List ℕ) → 0 < length called
    → me ≡ (OfRoll lists called [], [])
    → Allows (λ (s : State S View). IsRolled s.words s.views) slots id me 0 (λ n. n) (Notes calls (step slots 0 0 0 none) me)
notes_as {S} calls slots id me lists called some_in is =
    subst
    (λ (m : Me S View). Allows (λ (s : State S View). IsRolled s.words s.views) slots id m 0 (λ n. n) (Notes calls (step slots 0 0 0 none) m))
    (sym is)
    (notes calls slots id lists called some_in)

pub sends_as : {S : Type 0} (id : ℕ) (me : Me S View) (lists : List (List Entry)) (called : List ℕ) → 0 < length called
    → me ≡ (OfRoll lists called [], []) → Splits (λ (s : State S View). IsRolled s.words s.views) id me.0 (sent_out me.0) (slip_sent me.0)
sends_as {S} id me lists called some_in is =
    subst (λ (m : Me S View). Splits (λ (s : State S View). IsRolled s.words s.views) id m.0 (sent_out m.0) (slip_sent m.0)) (sym is) (sends id lists called some_in)

-- ---- seats after a step

-- A roll's seat is at its table, and the table has a word.
pub at_table : (name table seat : TableId) → IsAtTable name table seat → (seat ≡ table) × (0 < table.words)
at_table name table seat h = (h.1 ∙ sym h.0, omega (arith, ap (λ (t : TableId). t.words) h.0, h.2))

-- The seat of a slip's badge.
pub seated : {S : Type 0} (views : List View) (me : Me S View) (p : ℕ) (calls : List Entry)
    → views ≡ OfSlip p calls ∷ [] → views ≡ me.0 ∷ [] → me.1 ≡ [] → me ≡ (OfSlip p calls, [])
seated {S} views me p calls a b e = let same : me.0 ≡ OfSlip p calls = cc (a, b) in λ k. (same k, e k)

-- A roll's seat after a pass is called in.
pub joined : {S : Type 0} (new me you : Me S View) (lists : List (List Entry)) (called : List ℕ) (p : ℕ) (calls : List Entry)
    → new ≡ (called_in me.0 you.0, me.1) → me ≡ (OfRoll lists called [], []) → you ≡ (OfSlip p calls, [])
    → new ≡ (OfRoll lists (called ++ p ∷ []) (calls ∷ []), [])
joined new me you lists called p calls e is that = e ∙ (λ k. (called_in (is k).0 (that k).0, (is k).1))

-- A roll's seat after the brought calls are returned, and the facts that the return shows.
pub then_returned : {S : Type 0} (new me : Me S View) (lists : List (List Entry)) (called : List ℕ) (p : ℕ) (calls : List Entry)
    → me ≡ (OfRoll lists (called ++ p ∷ []) (calls ∷ []), []) → (new.0 ≡ returned me.0) × (new.1 ≡ me.1) × Shows me.0
    → (new ≡ (OfRoll lists (called ++ p ∷ []) [], [])) × (row lists p ≡ calls) × (p < length lists) × NotIn p called
then_returned {S} new me lists called p calls is t =
    let shown = subst (λ (m : Me S View). Shows m.0) is t.2 in
    let last = last_at_end called p in (
      (λ k. (t.0 k, t.1 k)) ∙ (λ k. (returned (is k).0, (is k).1)),
      ap (row lists) (sym last) ∙ shown.0,
      subst (λ q. q < length lists) last shown.1,
      subst (λ (x : ℕ × List ℕ). NotIn x.0 x.1) (λ k. (last k, without_at_end called p k)) shown.2,
    )

-- A roll's seat after calls are noted.
pub then_noted : {S : Type 0} (calls : List Entry) (new me : Me S View) (lists : List (List Entry)) (called : List ℕ)
    → me ≡ (OfRoll lists called [], []) → (new.0 ≡ calls_noted calls me.0) × (new.1 ≡ me.1) → new ≡ (OfRoll (added_all lists (last_pass called) calls) called [], [])
then_noted {S} calls new me lists called is t = (λ k. (t.0 k, t.1 k)) ∙ (λ k. (calls_noted calls (is k).0, (is k).1))

-- A roll's seat after the pass is sent out.
pub then_sent : {S : Type 0} (new me : Me S View) (lists : List (List Entry)) (called : List ℕ)
    → me ≡ (OfRoll lists called [], []) → new ≡ (sent_out me.0, me.1) → new ≡ (OfRoll lists (without_last called) [], [])
then_sent {S} new me lists called is e = e ∙ (λ k. (sent_out (is k).0, (is k).1))
