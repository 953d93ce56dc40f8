-- Where names begin in the text that joins them by commas.
use Rattle.std.proofs.Common.{◌≡◌, ℕ, zero, suc, ◌+◌, ◌-◌, ◌*◌, ◌<◌, ◌≤◌, true, List, [], ◌∷◌, ◌++◌, length, get_or, take, drop, IsAscii, slice_index, slice_set, slice_range, sym, ap, ◌∙◌, subst, inl, inr, arith, add-one}
use Rattle.std.specs.List.{join_with_byte, list_all, AllPass}
use Rattle.std.proofs.lemmas.Bool.{cases_lt}
use Rattle.std.proofs.lemmas.Grind.{common_steps, get_or-set_at}
use Rattle.std.proofs.lemmas.List.{get_or_default, get_or-set_other}
use Rattle.std.proofs.lemmas.List.Sums.{sum_by-cons, sum_by_more, AllPass-from_list_all}
use Rattle.std.proofs.lemmas.List.Splits.{join_with_byte-slice_split}
use Rattle.can_frame.specs.Names.{names_in, is_name_byte, is_name, AreNames, AreKept, start_of}

-- the next name begins past this one and its comma
pub start_of-next : (names : List (List ℕ)) (k : ℕ) → k < length names → start_of names (k + 1) ≡ start_of names k + (length (get_or names k []) + 1)
start_of-next names k inside = sum_by_more (λ name. length name + 1) names k [] inside

start_of-cons : (name : List ℕ) (names : List (List ℕ)) (k : ℕ) → start_of (name ∷ names) (suc k) ≡ length name + 1 + start_of names k
start_of-cons name names k = sum_by-cons (λ name. length name + 1) name (take k names)

-- 16 bytes are enough for a name and its comma
pub start_of-short : (names : List (List ℕ)) (k : ℕ) → AllPass is_name names → k ≤ length names → start_of names k ≤ 16 * k
start_of-short names zero good inside = search arith
start_of-short names (suc k) good inside =
    let before = start_of-short names k good (omega arith) in
    let here = length-name (get_or names k []) (good k [] (omega arith)) in
    let next : start_of names (suc k) ≡ start_of names k + (length (get_or names k []) + 1) = ap (start_of names) (sym (add-one k)) ∙ start_of-next names k (omega arith) in
    omega (arith, before, here, next)
  where
    length-name : (name : List ℕ) → is_name name ≡ true → length name ≤ 15
    length-name name h = grind (arith, h)

-- each name takes at least its comma
pub start_of-rises : (names : List (List ℕ)) (j k : ℕ) → j < k → k ≤ length names → start_of names j + 1 ≤ start_of names k
start_of-rises names j zero up inside = absurd (omega (arith, up))
start_of-rises names j (suc k) up inside =
    let next : start_of names (suc k) ≡ start_of names k + (length (get_or names k []) + 1) = ap (start_of names) (sym (add-one k)) ∙ start_of-next names k (omega (arith, inside)) in
    elim (cases_lt j k) [
      | inl below ↦ omega (arith, next, start_of-rises names j k below (omega (arith, inside)))
      | inr past ↦
          let same : j ≡ k = omega (arith, up, past) in
          omega (arith, next, ap (start_of names) same)
    ]

-- a name is at the place where it begins
pub stands : (names : List (List ℕ)) (k : ℕ) → k < length names → start_of names k + length (get_or names k []) ≤ length (join_with_byte 44 names)
stands [] k inside = elim inside [ ]
stands (x ∷ []) zero inside = grind (arith, common_steps)
stands (x ∷ []) (suc k) inside = absurd (omega arith)
stands (x ∷ y ∷ r) zero inside = grind (arith, common_steps)
stands (x ∷ y ∷ r) (suc k) inside = grind (arith, common_steps, start_of-cons x (y ∷ r) k, stands (y ∷ r) k (omega arith))

pub name-at : (names : List (List ℕ)) (k : ℕ) → k < length names → take (length (get_or names k [])) (drop (start_of names k) (join_with_byte 44 names)) ≡ get_or names k []
name-at [] k inside = elim inside [ ]
name-at (x ∷ []) zero inside = grind (arith, common_steps)
name-at (x ∷ []) (suc k) inside = absurd (omega arith)
name-at (x ∷ y ∷ r) zero inside = grind (arith, common_steps)
name-at (x ∷ y ∷ r) (suc k) inside =
    let rest = join_with_byte 44 (y ∷ r) in
    ap (λ n. take (length (get_or (y ∷ r) k [])) (drop n (x ++ 44 ∷ rest))) (start_of-cons x (y ∷ r) k)
    ∙ ap (take (length (get_or (y ∷ r) k []))) (past x rest (start_of (y ∷ r) k))
    ∙ name-at (y ∷ r) k (omega arith)
  where
    past : (x rest : List ℕ) (n : ℕ) → drop (length x + 1 + n) (x ++ 44 ∷ rest) ≡ drop n rest
    past [] rest n = grind (arith, common_steps)
    past (b ∷ x) rest n =
        let more : length (b ∷ x) + 1 + n ≡ suc (length x + 1 + n) = omega arith in
        ap (λ m. drop m ((b ∷ x) ++ 44 ∷ rest)) more ∙ past x rest n

past : (x rest : List ℕ) (n : ℕ) → drop (length x + 1 + n) (x ++ 44 ∷ rest) ≡ drop n rest
past [] rest n = grind (arith, common_steps)
past (b ∷ x) rest n =
    let more : length (b ∷ x) + 1 + n ≡ suc (length x + 1 + n) = omega arith in
    ap (λ m. drop m ((b ∷ x) ++ 44 ∷ rest)) more ∙ past x rest n

up_to : (x rest : List ℕ) (n : ℕ) → take (length x + 1 + n) (x ++ 44 ∷ rest) ≡ x ++ 44 ∷ take n rest
up_to [] rest n = grind (arith, common_steps)
up_to (b ∷ x) rest n =
    let more : length (b ∷ x) + 1 + n ≡ suc (length x + 1 + n) = omega arith in
    ap (λ m. take m ((b ∷ x) ++ 44 ∷ rest)) more ∙ ap (λ t. b ∷ t) (up_to x rest n)

-- the first names, joined by commas, are the front of the text
front-run : (names : List (List ℕ)) (n : ℕ) → n < length names → take (start_of names (suc n) - 1) (join_with_byte 44 names) ≡ join_with_byte 44 (take (suc n) names)
front-run [] n inside = elim inside [ ]
front-run (x ∷ []) zero inside = grind (arith, common_steps)
front-run (x ∷ []) (suc n) inside = absurd (omega arith)
front-run (x ∷ y ∷ r) zero inside = grind (arith, common_steps)
front-run (x ∷ y ∷ r) (suc n) inside =
    let rest = join_with_byte 44 (y ∷ r) in
    let some : 1 ≤ start_of (y ∷ r) (suc n) = omega (arith, start_of-cons y r n) in
    let len : start_of (x ∷ y ∷ r) (suc (suc n)) - 1 ≡ length x + 1 + (start_of (y ∷ r) (suc n) - 1) = omega (arith, start_of-cons x (y ∷ r) (suc n), some) in
    ap (λ m. take m (x ++ 44 ∷ rest)) len
    ∙ up_to x rest (start_of (y ∷ r) (suc n) - 1)
    ∙ ap (λ t. x ++ 44 ∷ t) (front-run (y ∷ r) n (omega arith))

-- several names in a row, joined by commas, begin where the first of them begins
pub run-at : (names : List (List ℕ)) (k n e : ℕ) → suc (k + n) ≡ e → e ≤ length names → take (start_of names e - 1 - start_of names k) (drop (start_of names k) (join_with_byte 44 names)) ≡ join_with_byte 44 (take (suc n) (drop k names))
run-at names zero n e is inside =
    let same : e ≡ suc n = omega (arith, is) in
    let all : start_of names (suc n) - 1 - 0 ≡ start_of names (suc n) - 1 = omega arith in
    ap (λ m. take (start_of names m - 1 - 0) (join_with_byte 44 names)) same
    ∙ ap (λ m. take m (join_with_byte 44 names)) all
    ∙ front-run names n (omega (arith, same, inside))
run-at [] (suc k) n e is inside = absurd (omega (arith, is, inside))
run-at (x ∷ []) (suc k) n e is inside = absurd (omega (arith, is, inside))
run-at (x ∷ y ∷ r) (suc k) n zero is inside = absurd (omega (arith, is))
run-at (x ∷ y ∷ r) (suc k) n (suc e) is inside =
    let rest = join_with_byte 44 (y ∷ r) in
    let here = start_of-cons x (y ∷ r) k in
    let there = start_of-cons x (y ∷ r) e in
    let len : start_of (x ∷ y ∷ r) (suc e) - 1 - start_of (x ∷ y ∷ r) (suc k) ≡ start_of (y ∷ r) e - 1 - start_of (y ∷ r) k = omega (arith, here, there) in
    ap (λ m. take m (drop (start_of (x ∷ y ∷ r) (suc k)) (x ++ 44 ∷ rest))) len
    ∙ ap (λ m. take (start_of (y ∷ r) e - 1 - start_of (y ∷ r) k) (drop m (x ++ 44 ∷ rest))) here
    ∙ ap (take (start_of (y ∷ r) e - 1 - start_of (y ∷ r) k)) (past x rest (start_of (y ∷ r) k))
    ∙ run-at (y ∷ r) k n e (omega (arith, is)) (omega (arith, inside))

low : (b : ℕ) → is_name_byte b ≡ true → b < 128
low b h = grind (arith, h)

ascii-name : (name : List ℕ) → is_name name ≡ true → IsAscii name
ascii-name name h i = elim (cases_lt i (length name)) [
  | inl inside ↦ low (get_or name i 0) (AllPass-from_list_all is_name_byte name (bytes name h) i 0 inside)
  | inr past ↦ grind (arith, common_steps, past)
]
  where
    bytes : (name : List ℕ) → is_name name ≡ true → list_all is_name_byte name ≡ true
    bytes name h = grind (arith, h)

ascii-joined : (names : List (List ℕ)) → AllPass is_name names → IsAscii (join_with_byte 44 names)
ascii-joined [] good i = search arith
ascii-joined (x ∷ []) good i = ascii-name x (good 0 [] (omega arith)) i
ascii-joined (x ∷ y ∷ r) good i = ascii-both x (join_with_byte 44 (y ∷ r)) (ascii-name x (good 0 [] (omega arith))) (ascii-joined (y ∷ r) (λ k d h. good (suc k) d (omega arith))) i
  where
    ascii-both : (x rest : List ℕ) → IsAscii x → IsAscii rest → IsAscii (x ++ 44 ∷ rest)
    ascii-both [] rest first then zero = omega arith
    ascii-both [] rest first then (suc i) = then i
    ascii-both (b ∷ x) rest first then zero = first 0
    ascii-both (b ∷ x) rest first then (suc i) = ascii-both x rest (λ k. first (suc k)) then i

-- names hold only ASCII bytes, and so does the text that joins them
pub ascii-text : (text : List ℕ) → AllPass is_name (names_in text) → IsAscii text
ascii-text text good = subst IsAscii (join_with_byte-slice_split 44 text) (ascii-joined (names_in text) good)

-- the start that the next name adds to the starts so far
pub turn : (names : List (List ℕ)) (starts name : List ℕ) (place : ℕ) → AreNames names → place < length names → name ≡ get_or names place name → ((k : ℕ) → k ≤ place → slice_index starts k ≡ start_of names k)
    → (place < 16) × (slice_index starts place + length name + 1 ≤ 256) × (slice_index starts place + length name + 1 ≡ start_of names (place + 1))
turn names starts name place good inside here before =
    let same : get_or names place [] ≡ name = get_or_default names place [] name inside ∙ sym here in
    let next = start_of-next names place inside in
    let step : slice_index starts place + length name + 1 ≡ start_of names (place + 1) = omega (arith, before place (omega arith), next, ap length same) in
    let short = start_of-short names (place + 1) good.good (omega arith) in
    (omega (arith, good.few), omega (arith, step, short, good.few), step)

pub added : (names : List (List ℕ)) (starts : List ℕ) (place next : ℕ) → length starts ≡ 17 → place < 16 → ((k : ℕ) → k ≤ place → slice_index starts k ≡ start_of names k) → next ≡ start_of names (place + 1)
    → (k : ℕ) → k ≤ place + 1 → slice_index (slice_set starts (place + 1) next) k ≡ start_of names k
added names starts place next all room before is k within = elim (cases_lt k (place + 1)) [
  | inl below ↦ get_or-set_other starts (place + 1) k next 0 (omega arith) ∙ before k (omega arith)
  | inr past ↦
      let same : k ≡ place + 1 = omega arith in
      get_or-set_at starts (place + 1) k next 0 same (omega arith) ∙ is ∙ ap (start_of names) (sym same)
]

-- the stored starts give the name at a place
pub record IsCut (text : List ℕ) (start end : ℕ) (name : List ℕ) : Type 0 where
  pub before : start + 1 ≤ end
  pub within : end - 1 ≤ length text
  pub ascii : IsAscii text
  pub is : slice_range text start (end - 1) ≡ name

pub cut : (text starts : List ℕ) (count place : ℕ) → AreKept (names_in text) count starts → place < count → IsCut text (slice_index starts place) (slice_index starts (place + 1)) (get_or (names_in text) place [])
cut text starts count place kept below =
    let names = names_in text in
    let name = get_or names place [] in
    let joined = join_with_byte-slice_split 44 text in
    let inside : place < length names = omega (arith, kept.all) in
    let start = kept.places place (omega arith) in
    let end : slice_index starts (place + 1) ≡ start_of names place + (length name + 1) = kept.places (place + 1) (omega arith) ∙ start_of-next names place inside in
    let len : slice_index starts (place + 1) - 1 - slice_index starts place ≡ length name = omega (arith, start, end) in
    record {
      before = omega (arith, start, end);
      within = omega (arith, start, end, stands names place inside, ap length joined);
      ascii = ascii-text text kept.good.good;
      is = ap (λ n. take n (drop (slice_index starts place) text)) len ∙ ap (λ n. take (length name) (drop n text)) start ∙ ap (λ t. take (length name) (drop (start_of names place) t)) (sym joined) ∙ name-at names place inside;
    }

-- the stored starts give the names from one place up to another
pub record IsRun (text : List ℕ) (start end : ℕ) (names : List (List ℕ)) : Type 0 where
  pub before : start + 1 ≤ end
  pub within : end - 1 ≤ length text
  pub ascii : IsAscii text
  pub is : slice_range text start (end - 1) ≡ join_with_byte 44 names

pub run : (text starts : List ℕ) (count first end : ℕ) → AreKept (names_in text) count starts → first < end → end ≤ count → IsRun text (slice_index starts first) (slice_index starts end) (slice_range (names_in text) first end)
run text starts count first end kept some within =
    let names = names_in text in
    let n = end - first - 1 in
    let is_end : suc (first + n) ≡ end = omega (arith, some) in
    let is_len : suc n ≡ end - first = omega (arith, some) in
    let joined = join_with_byte-slice_split 44 text in
    let start = kept.places first (omega (arith, some, within, kept.all)) in
    let stop = kept.places end (omega (arith, within, kept.all)) in
    let last = end - 1 in
    let last_cut = cut text starts count last kept (omega (arith, some, within)) in
    let last_end : slice_index starts (last + 1) ≡ slice_index starts end = ap (slice_index starts) (omega (arith, some)) in
    let rises = start_of-rises names first end some (omega (arith, within, kept.all)) in
    record {
      before = omega (arith, start, stop, rises);
      within = omega (arith, last_cut.within, last_end);
      ascii = last_cut.ascii;
      is = ap (λ m. take (slice_index starts end - 1 - slice_index starts first) (drop (slice_index starts first) m)) (sym joined)
          ∙ ap (λ m. take (m - 1 - slice_index starts first) (drop (slice_index starts first) (join_with_byte 44 names))) stop
          ∙ ap (λ m. take (start_of names end - 1 - m) (drop m (join_with_byte 44 names))) start
          ∙ run-at names first n end is_end (omega (arith, within, kept.all))
          ∙ ap (λ m. join_with_byte 44 (take m (drop first names))) is_len;
    }
