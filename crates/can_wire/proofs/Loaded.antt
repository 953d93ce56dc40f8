use Rattle.std.proofs.Common.{◌≡◌, inl, inr, ℕ, zero, suc, ◌+◌, ◌-◌, ◌*◌, ◌/◌, ◌^◌, ◌<◌, ◌≤◌, ◌==◌, nat_lt, min, Bool, true, false, if◌then◌else◌, List, [], ◌∷◌, refl, sym, ap, ◌∙◌, subst, arith}
use Rattle.std.proofs.lemmas.Bool.{cases_eq}
use Rattle.can_wire.specs.Loads.{Taken, busy_in, busy, over_at, AreInOrder, Load, moved_by, moved_to, more_of, added, boundary, noted, load_of, recent_of, permille_at}

-- The stored load is the time for which attempts took the wire.

-- only the part of a second before the end of the last attempt can be busy
busy_before : (second : ℕ) (xs : List Taken) → AreInOrder xs → busy_in second xs ≤ min (over_at xs) ((second + 1) * 10 ^ 9) - second * 10 ^ 9
busy_before second [] h = omega arith
busy_before second (t ∷ past) h = let rest = busy_before second past h.3 in omega (arith, h.0, h.1, rest)

pub busy_within : (second : ℕ) (xs : List Taken) → AreInOrder xs → busy_in second xs ≤ 10 ^ 9
busy_within second xs h = let few = busy_before second xs h in omega (arith, few)

none_after : (second : ℕ) (xs : List Taken) → AreInOrder xs → over_at xs ≤ second * 10 ^ 9 → busy_in second xs ≡ 0
none_after second xs h over = let few = busy_before second xs h in omega (arith, few, over)

-- a load, seen from a second after which nothing is busy
record IsSeen (second : ℕ) (xs : List Taken) (l : Load) : Type 0 where
  is : l.second ≡ second
  latest : l.latest ≡ busy_in second xs
  before : (k : ℕ) → second ≡ k + 1 → l.before ≡ busy_in k xs
  earlier : (k : ℕ) → second ≡ k + 2 → l.earlier ≡ busy_in k xs

-- the second in which the last attempt ended
abbrev last_second : List Taken → ℕ
last_second xs = over_at xs / 10 ^ 9

-- the busy time of a second depends only on the number of the second
same_second : (j k : ℕ) (xs : List Taken) → j ≡ k → busy_in j xs ≡ busy_in k xs
same_second j k xs e = ap (λ (n : ℕ). busy_in n xs) e

-- equal numbers pass the test of equality
equal : (a b : ℕ) → a ≡ b → (a == b) ≡ true
equal a b h = grind arith

unequal : (a b : ℕ) → (a ≡ b → ⊥) → (a == b) ≡ false
unequal a b h = grind arith

-- after three seconds or more nothing of the load remains
far : (gap second : ℕ) (l : Load) → moved_by (suc (suc (suc gap))) second l ≡ record { second = second; latest = 0; before = 0; earlier = 0; total = l.total }
far gap second l =
    let n : ℕ = suc (suc (suc gap)) in
    rw (unequal n 0 (λ e. omega (arith, e)), unequal n 1 (λ e. omega (arith, e)), unequal n 2 (λ e. omega (arith, e))) refl

moved : (second : ℕ) (xs : List Taken) (l : Load) → AreInOrder xs → IsSeen (last_second xs) xs l → last_second xs ≤ second → IsSeen second xs (moved_to second l)
moved second xs l h seen later = by_gap (second - l.second) refl
  where
    by_gap : (gap : ℕ) → second - l.second ≡ gap → IsSeen second xs (moved_by gap second l)
    by_gap zero e =
        let same : last_second xs ≡ second = omega (arith, seen.is, e, later) in
        subst (λ (n : ℕ). IsSeen n xs l) same seen
    by_gap (suc zero) e = record {
      is = refl;
      latest = sym (none_after second xs h (omega (arith, seen.is, e, later)));
      before = λ k next. seen.latest ∙ same_second (last_second xs) k xs (omega (arith, seen.is, e, later, next));
      earlier = λ k next. seen.before k (omega (arith, seen.is, e, later, next));
    }
    by_gap (suc (suc zero)) e = record {
      is = refl;
      latest = sym (none_after second xs h (omega (arith, seen.is, e, later)));
      before = λ k next. sym (none_after k xs h (omega (arith, seen.is, e, later, next)));
      earlier = λ k next. seen.latest ∙ same_second (last_second xs) k xs (omega (arith, seen.is, e, later, next));
    }
    by_gap (suc (suc (suc gap))) e =
        subst (λ (m : Load). IsSeen second xs m) (sym (far gap second l)) (record {
          is = refl;
          latest = sym (none_after second xs h (omega (arith, seen.is, e, later)));
          before = λ k next. sym (none_after k xs h (omega (arith, seen.is, e, later, next)));
          earlier = λ k next. sym (none_after k xs h (omega (arith, seen.is, e, later, next)));
        })

-- an attempt within a second
inside : (t : Taken) (past : List Taken) (l : Load) → AreInOrder (t ∷ past) → IsSeen (last_second past) past l → boundary t.end ≤ t.begin → IsSeen (t.end / 10 ^ 9) (t ∷ past) (added (t.end / 10 ^ 9) (t.end - t.begin) l)
inside t past l h seen within =
    let second : ℕ = t.end / 10 ^ 9 in
    let m = moved_to second l in
    let now = moved second past l h.3 seen (omega (arith, h.0, h.1)) in
    let few = busy_before second past h.3 in
    record {
      is = now.is;
      latest = omega (arith, now.latest, few, h.0, h.1, within);
      before = λ k next. let old = now.before k next in omega (arith, old, next, h.1, within);
      earlier = λ k next. let old = now.earlier k next in omega (arith, old, next, h.1, within);
    }

-- an attempt that continues into the next second
across : (t : Taken) (past : List Taken) (l : Load) → AreInOrder (t ∷ past) → IsSeen (last_second past) past l → t.begin < boundary t.end
    → IsSeen (t.end / 10 ^ 9) (t ∷ past) (added (t.end / 10 ^ 9) (t.end - boundary t.end) (added (t.begin / 10 ^ 9) (boundary t.end - t.begin) l))
across t past l h seen over =
    let second : ℕ = t.end / 10 ^ 9 in
    let first : ℕ = t.begin / 10 ^ 9 in
    let step : second ≡ first + 1 = omega (arith, h.1, h.2, over) in
    let m = moved_to first l in
    let now = moved first past l h.3 seen (omega (arith, h.0)) in
    let none = none_after second past h.3 (omega (arith, h.0, over)) in
    let gap : second - m.second ≡ 1 = omega (arith, now.is, step) in
    subst (λ (g : ℕ). IsSeen second (t ∷ past) (more_of (t.end - boundary t.end) (moved_by g second (more_of (boundary t.end - t.begin) m)))) (sym gap) (record {
      is = refl;
      latest = omega (arith, none, h.1, h.2, over);
      before = λ k next.
          let same : first ≡ k = omega (arith, step, next) in
          let old : m.latest ≡ busy_in k past = now.latest ∙ same_second first k past same in
          let few = busy_before k past h.3 in
          omega (arith, old, few, same, next, h.0, h.1, h.2, over);
      earlier = λ k next.
          let old = now.before k (omega (arith, step, next)) in
          omega (arith, old, step, next, h.1, over);
    })

below : (a b : ℕ) → nat_lt a b ≡ true → a < b
below a b h = grind arith

not_below : (a b : ℕ) → nat_lt a b ≡ false → b ≤ a
not_below a b h = grind arith

one_more : (t : Taken) (past : List Taken) (l : Load) → AreInOrder (t ∷ past) → IsSeen (last_second past) past l → IsSeen (t.end / 10 ^ 9) (t ∷ past) (noted t.begin t.end l)
one_more t past l h seen = by_test (nat_lt t.begin (boundary t.end)) refl
  where
    by_test : (b : Bool) → nat_lt t.begin (boundary t.end) ≡ b
        → IsSeen (t.end / 10 ^ 9) (t ∷ past) (if b then added (t.end / 10 ^ 9) (t.end - boundary t.end) (added (t.begin / 10 ^ 9) (boundary t.end - t.begin) l) else added (t.end / 10 ^ 9) (t.end - t.begin) l)
    by_test true e = across t past l h seen (below _ _ e)
    by_test false e = inside t past l h seen (not_below _ _ e)

kept : (xs : List Taken) → AreInOrder xs → IsSeen (last_second xs) xs (load_of xs)
kept [] h = record { is = refl; latest = refl; before = λ k next. refl; earlier = λ k next. refl }
kept (t ∷ past) h = one_more t past (load_of past) h (kept past h.3)

-- the load that is reported

in_thousandths : (m n : ℕ) → m ≡ n → m / 10 ^ 6 ≡ n / 10 ^ 6
in_thousandths m n e = ap (λ (x : ℕ). x / 10 ^ 6) e

seen_at : (current second : ℕ) (xs : List Taken) (l : Load) → AreInOrder xs → IsSeen (last_second xs) xs l → current ≡ second + 1 → over_at xs < (second + 3) * 10 ^ 9
    → (if current == l.second + 1 then l.latest / 10 ^ 6 else if current == l.second then l.before / 10 ^ 6 else if current + 1 == l.second then l.earlier / 10 ^ 6 else 0) ≡ busy_in second xs / 10 ^ 6
seen_at current second xs l h seen next known = elim (cases_eq current (l.second + 1)) [
  | inl e ↦ rw (equal current (l.second + 1) e) (in_thousandths _ _ (seen.latest ∙ same_second (last_second xs) second xs (omega (arith, seen.is, next, e))))
  | inr ne ↦ rw (unequal current (l.second + 1) ne) (elim (cases_eq current l.second) [
    | inl e ↦ rw (equal current l.second e) (in_thousandths _ _ (seen.before second (omega (arith, seen.is, next, e))))
    | inr ne' ↦ rw (unequal current l.second ne') (elim (cases_eq (current + 1) l.second) [
      | inl e ↦ rw (equal (current + 1) l.second e) (in_thousandths _ _ (seen.earlier second (omega (arith, seen.is, next, e))))
      | inr ne'' ↦
          let past : l.second < current = grind (arith, seen.is, next, known, ne, ne', ne'') in
          let none = none_after second xs h (omega (arith, seen.is, next, past)) in
          rw (unequal (current + 1) l.second ne'') (in_thousandths 0 _ (sym none))
    ])
  ])
]

pub shown : (xs : List Taken) (now second : ℕ) → AreInOrder xs → now / 10 ^ 6 ≡ second + 1 → over_at xs < (second + 3) * 10 ^ 9 → permille_at now (recent_of (load_of xs)) ≡ busy_in second xs / 10 ^ 6
shown xs now second h next known = seen_at (now / 10 ^ 6) second xs (load_of xs) h (kept xs h) next known

-- the total busy time

moved_total : (second : ℕ) (l : Load) → (moved_to second l).total ≡ l.total
moved_total second l = by_gap (second - l.second)
  where
    by_gap : (gap : ℕ) → (moved_by gap second l).total ≡ l.total
    by_gap zero = refl
    by_gap (suc zero) = refl
    by_gap (suc (suc zero)) = refl
    by_gap (suc (suc (suc gap))) = ap (λ (m : Load). m.total) (far gap second l)

added_total : (second nanos : ℕ) (l : Load) → (added second nanos l).total ≡ min (l.total + nanos) (2 ^ 64 - 1)
added_total second nanos l = ap (λ (n : ℕ). min (n + nanos) (2 ^ 64 - 1)) (moved_total second l)

noted_total : (begin end : ℕ) (l : Load) → begin ≤ end → (noted begin end l).total ≡ min (l.total + (end - begin)) (2 ^ 64 - 1)
noted_total begin end l le = by_test (nat_lt begin (boundary end)) refl
  where
    by_test : (b : Bool) → nat_lt begin (boundary end) ≡ b
        → (if b then added (end / 10 ^ 9) (end - boundary end) (added (begin / 10 ^ 9) (boundary end - begin) l) else added (end / 10 ^ 9) (end - begin) l).total ≡ min (l.total + (end - begin)) (2 ^ 64 - 1)
    by_test true e =
        let one = added_total (begin / 10 ^ 9) (boundary end - begin) l in
        let two = added_total (end / 10 ^ 9) (end - boundary end) (added (begin / 10 ^ 9) (boundary end - begin) l) in
        omega (arith, one, two, below begin (boundary end) e)
    by_test false e = added_total (end / 10 ^ 9) (end - begin) l

pub all_busy : (xs : List Taken) → AreInOrder xs → (load_of xs).total ≡ min (busy xs) (2 ^ 64 - 1)
all_busy [] h = refl
all_busy (t ∷ past) h =
    let one = noted_total t.begin t.end (load_of past) h.1 in
    let rest = all_busy past h.3 in
    omega (arith, one, rest)
