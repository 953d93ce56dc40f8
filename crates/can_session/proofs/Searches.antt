-- The first LF in the held bytes, found by a search from an index before which there is no LF.
use Rattle.std.proofs.Common.{◌≡◌, ℕ, ◌+◌, ◌-◌, ◌<◌, ◌≤◌, true, false, ◌||◌, if◌then◌else◌, List, [], ◌∷◌, ◌++◌, length, take, drop, get_or, Some, None, sym, ap, ◌∙◌, arith, nat_lt}
use Rattle.std.specs.List.{list_any, position_or_len, position}
use Rattle.std.proofs.lemmas.Bool.Decides.{nat_tests}
use Rattle.std.proofs.lemmas.List.{take_more, take_all, take-take, drop-take, length-take-le, length-take, length-drop, get_or-drop, get_or-take, take-append-drop}
use Rattle.std.proofs.lemmas.List.Folds.{list_any-append, list_any_none}
use Rattle.std.proofs.lemmas.List.Sums.{passes_at_first, fails_before_first}
use Rattle.std.proofs.Math.Seq.{take-add}
use Rattle.can_session.specs.Lines.{is_lf}
use Rattle.can_session.specs.inner.Looks.{LineAt}

-- no LF comes before the first one
none_before : (xs : List ℕ) → list_any is_lf (take (position_or_len is_lf xs) xs) ≡ false
none_before xs =
    let n = position_or_len is_lf xs in
    list_any_none is_lf (take n xs) (λ k d h.
    let early : k < n = omega (arith, h, length-take n xs) in
    ap is_lf (get_or-take n xs k d early) ∙ fails_before_first is_lf xs k d early)

at_position : (p l n : ℕ) → Some n ≡ (if nat_lt p l then Some p else None) → n ≡ p
at_position p l n = elim (nat_lt p l) as (λ b. Some n ≡ (if b then Some p else None) → n ≡ p) [ true ↦ λ e. cc | false ↦ λ e. cc ]

no_position : (p l : ℕ) → None ≡ (if nat_lt p l then Some p else None) → l ≤ p
no_position p l e = grind (arith, nat_tests)

is_ten : (b : ℕ) → is_lf b ≡ true → b ≡ 10
is_ten b h = grind (arith, nat_tests)

-- if two lists of bytes have no LF, the joined list has none
pub both : (a b : List ℕ) → list_any is_lf a ≡ false → list_any is_lf b ≡ false → list_any is_lf (a ++ b) ≡ false
both a b p q = list_any-append is_lf a b ∙ ap (λ t. t || list_any is_lf b) p ∙ q

-- an LF after the bytes already searched ends a line
pub found : (held : List ℕ) (m searched n : ℕ) → m ≤ length held → m ≤ 4097 → searched ≤ m → list_any is_lf (take searched held) ≡ false
    → Some n ≡ position is_lf (drop searched (take m held)) → n < length (drop searched (take m held)) → LineAt held (searched + n)
found held m searched n within few fits before at inside =
    let xs = drop searched (take m held) in
    let ys = drop searched held in
    let p = position_or_len is_lf xs in
    let is : n ≡ p = at_position p (length xs) n at in
    let room : searched + n < m = omega (arith, inside, length-drop searched (take m held), length-take-le m held within) in
    let parts : m ≡ searched + (m - searched) = omega arith in
    let fewer : n ≤ m - searched = omega arith in
    let same : xs ≡ take (m - searched) ys = ap (λ j. drop searched (take j held)) parts ∙ drop-take searched (m - searched) held in
    let clear : list_any is_lf (take n ys) ≡ false =
    ap (λ l. list_any is_lf l) (sym (take-take n (m - searched) ys fewer)) ∙ ap (λ l. list_any is_lf (take n l)) (sym same)
    ∙ ap (λ j. list_any is_lf (take j xs)) is ∙ none_before xs in
    let there : is_lf (get_or xs p 0) ≡ true = passes_at_first is_lf xs 0 (omega (arith, inside, is)) in
    let lf : get_or held (searched + n) 0 ≡ 10 =
    sym (get_or-take m held (searched + n) 0 room) ∙ sym (get_or-drop searched (take m held) n 0) ∙ ap (λ j. get_or xs j 0) is ∙ is_ten _ there in
    record {
      line = record {
        unbroken = ap (λ l. list_any is_lf l) (take-add searched n held) ∙ both (take searched held) (take n ys) before clear;
        short = omega (arith, length-take-le (searched + n) held (omega arith));
      };
      ended = take_more held (searched + n) 0 (omega arith) ∙ ap (λ b. take (searched + n) held ++ b ∷ []) lf;
      within = omega arith;
    }

-- the bytes that were searched contain no LF
pub missed : (held : List ℕ) (m searched : ℕ) → m ≤ length held → searched ≤ m → list_any is_lf (take searched held) ≡ false
    → None ≡ position is_lf (drop searched (take m held)) → list_any is_lf (take m held) ≡ false
missed held m searched within fits before none =
    let xs = drop searched (take m held) in
    let p = position_or_len is_lf xs in
    let clear : list_any is_lf xs ≡ false =
    ap (λ l. list_any is_lf l) (sym (take_all p xs (no_position p (length xs) none))) ∙ none_before xs in
    ap (λ l. list_any is_lf l) (sym (take-append-drop searched (take m held)))
    ∙ both (take searched (take m held)) xs (ap (λ l. list_any is_lf l) (take-take searched m held fits) ∙ before) clear
