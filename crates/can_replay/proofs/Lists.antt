use Rattle.std.proofs.Common.{◌≡◌, ◌≢◌, ℕ, zero, suc, ◌+◌, ◌<◌, ◌≤◌, ◌==◌, Bool, true, false, List, [], ◌∷◌, ◌++◌, length, map, set, take, slice_get, if◌then◌else◌, get_or, Option, Some, refl, sym, ap, ◌∙◌, append_assoc, arith}
use Rattle.std.specs.List.{flat_map, range_with_len}
use Rattle.std.specs.Option.{option_map}
use Rattle.std.proofs.lemmas.Grind.{flat_map-append}
use Rattle.std.proofs.lemmas.Bool.{eq-eqb, ne_eqb, cond-true, cond-false}
use Rattle.std.proofs.lemmas.List.{append-nil, flat_map_more, get_or-take, length-append, length-map, length-take-le, take_all, take_more, take_more_set}
use Rattle.std.proofs.lemmas.Option.{slice_get_read, slice_get_within, slice_get-map, get_or_from_slice_get}
use Rattle.can_attempt.proofs.Places.{range_more}
use Rattle.can_replay.specs.Words.{part_named, parted}

-- The output of a loop over indices, and lists that are computed from another list.

-- ---- one more index

pub range_next : (n : ℕ) → range_with_len 0 (n + 1) ≡ range_with_len 0 n ++ n ∷ []
range_next n = let next : n + 1 ≡ suc n = omega arith in ap (range_with_len 0) next ∙ range_more 0 n n (omega arith)

-- The loop appends the output for the next index.
pub more : {A : Type 0} (f : ℕ → List A) (start now new : List A) (i : ℕ) → now ≡ start ++ flat_map f (range_with_len 0 i) → new ≡ now ++ f i → new ≡ start ++ flat_map f (range_with_len 0 (i + 1))
more {A = A} f start now new i before next =
    next
    ∙ ap (λ (x : List A). x ++ f i) before
    ∙ flat_map_more f start (range_with_len 0 i) i
    ∙ ap (λ (ns : List ℕ). start ++ flat_map f ns) (sym (range_next i))

-- If nothing is written for an index, the end of the output does not move.
pub end_next : {A : Type 0} (f : ℕ → List A) (end next i : ℕ) (is_later : Bool) → next ≡ (if is_later then i + 1 else end) → (is_later ≡ false → f i ≡ []) → flat_map f (range_with_len 0 end) ≡ flat_map f (range_with_len 0 i) → flat_map f (range_with_len 0 next) ≡ flat_map f (range_with_len 0 (i + 1))
end_next f end next i true is none same = ap (λ (n : ℕ). flat_map f (range_with_len 0 n)) is
end_next {A = A} f end next i false is none same =
    let now = flat_map f (range_with_len 0 i) in
    let longer : now ++ f i ≡ flat_map f (range_with_len 0 (i + 1)) = more f [] now (now ++ f i) i refl refl in
    ap (λ (n : ℕ). flat_map f (range_with_len 0 n)) is
    ∙ same
    ∙ sym (append-nil now)
    ∙ ap (λ (x : List A). now ++ x) (sym (none refl))
    ∙ longer

pub end_within : (end next i : ℕ) (is_later : Bool) → next ≡ (if is_later then i + 1 else end) → end ≤ i → next ≤ i + 1
end_within end next i true is within = omega (arith, is)
end_within end next i false is within = omega (arith, is, within)

-- ---- words

parted_both : (ws vs : List (List ℕ)) → parted (ws ++ vs) ≡ parted ws ++ parted vs
unfolding parted
parted_both ws vs = flat_map-append (λ (w : List ℕ). 32 ∷ w) ws vs

-- The loop appends the words for the next index.
pub more_words : (f : ℕ → List (List ℕ)) (start now new : List ℕ) (i : ℕ) → now ≡ start ++ parted (flat_map f (range_with_len 0 i)) → new ≡ now ++ parted (f i) → new ≡ start ++ parted (flat_map f (range_with_len 0 (i + 1)))
more_words f start now new i before next =
    let words = flat_map f (range_with_len 0 i) in
    let all : words ++ f i ≡ flat_map f (range_with_len 0 (i + 1)) = more f [] words (words ++ f i) i refl refl in
    next
    ∙ ap (λ (x : List ℕ). x ++ parted (f i)) before
    ∙ append_assoc start (parted words) (parted (f i))
    ∙ ap (λ (x : List ℕ). start ++ x) (sym (parted_both words (f i)))
    ∙ ap (λ (ws : List (List ℕ)). start ++ parted ws) all

-- If the list of words is empty, nothing is written.
pub no_words : (text : List ℕ) (ws : List (List ℕ)) → ws ≡ [] → text ≡ text ++ parted ws
unfolding parted
no_words text ws none = sym (append-nil text) ∙ ap (λ (vs : List (List ℕ)). text ++ parted vs) (sym none)

pub no_part : (name text : List ℕ) (ws : List (List ℕ)) → ws ≡ [] → text ≡ text ++ part_named name ws
no_part name text ws none = sym (append-nil text) ∙ ap (λ (vs : List (List ℕ)). text ++ part_named name vs) (sym none)

-- One word is written, and the words after it remain.
pub word_more : (text new : List ℕ) (w : List ℕ) (ws : List (List ℕ)) → new ≡ text ++ parted (w ∷ []) → new ++ parted ws ≡ text ++ parted (w ∷ ws)
unfolding parted
word_more text new w ws next = ap (λ (x : List ℕ). x ++ parted ws) next ∙ append_assoc text (parted (w ∷ [])) (parted ws) ∙ ap (λ (x : List ℕ). text ++ x) (sym (parted_both (w ∷ []) ws))

-- The name is written, and then the words. If the list of words is empty, the name is removed again.
pub part_whole : (name text front all new : List ℕ) (ws : List (List ℕ)) → front ≡ text ++ 59 ∷ 32 ∷ name → all ≡ front ++ parted ws → new ≡ (if length all == length front then take (length text) all else all) → new ≡ text ++ part_named name ws
unfolding parted
part_whole name text front all new [] named_is all_is new_is =
    let same : all ≡ front = all_is ∙ append-nil front in
    let bare : length all ≡ length front = ap (λ (x : List ℕ). length x) same in
    new_is
    ∙ cond-true (length all == length front) _ _ (eq-eqb (length all) (length front) bare)
    ∙ ap (λ (x : List ℕ). take (length text) x) (same ∙ named_is)
    ∙ take_front text (59 ∷ 32 ∷ name)
    ∙ sym (append-nil text)
  where
    take_front : (xs ys : List ℕ) → take (length xs) (xs ++ ys) ≡ xs
    take_front [] ys = refl
    take_front (x ∷ xs) ys = ap (λ (zs : List ℕ). x ∷ zs) (take_front xs ys)
part_whole name text front all new (v ∷ ws) named_is all_is new_is =
    let longer : length all ≢ length front = omega (arith, ap (λ (x : List ℕ). length x) all_is, length-append front (parted (v ∷ ws)), length-append (32 ∷ v) (parted ws)) in
    new_is
    ∙ cond-false (length all == length front) _ _ (ne_eqb (length all) (length front) longer)
    ∙ all_is
    ∙ ap (λ (x : List ℕ). x ++ parted (v ∷ ws)) named_is
    ∙ append_assoc text (59 ∷ 32 ∷ name) (parted (v ∷ ws))

-- ---- the element at an index

pub read_at : {X : Type 0} (xs : List X) (i : ℕ) (x d : X) → i < length xs → x ≡ get_or xs i x → get_or xs i d ≡ x
read_at xs i x d lt is = get_or_from_slice_get xs i x d (slice_get_read xs (length xs) i x refl lt is)

-- The output after two steps.
pub two : (t t1 t2 a b : List ℕ) → t1 ≡ t ++ a → t2 ≡ t1 ++ b → t2 ≡ t ++ (a ++ b)
two t t1 t2 a b e1 e2 = e2 ∙ ap (λ (x : List ℕ). x ++ b) e1 ∙ append_assoc t a b

-- The output after three steps.
pub three : (t t1 t2 t3 a b c : List ℕ) → t1 ≡ t ++ a → t2 ≡ t1 ++ b → t3 ≡ t2 ++ c → t3 ≡ t ++ (a ++ b ++ c)
three t t1 t2 t3 a b c e1 e2 e3 = e3 ∙ ap (λ (x : List ℕ). x ++ c) (two t t1 t2 a b e1 e2) ∙ append_assoc t (a ++ b) c

-- The output after four steps.
pub four : (t t1 t2 t3 t4 a b c d : List ℕ) → t1 ≡ t ++ a → t2 ≡ t1 ++ b → t3 ≡ t2 ++ c → t4 ≡ t3 ++ d → t4 ≡ t ++ (a ++ b ++ c ++ d)
four t t1 t2 t3 t4 a b c d e1 e2 e3 e4 = e4 ∙ ap (λ (x : List ℕ). x ++ d) (three t t1 t2 t3 a b c e1 e2 e3) ∙ append_assoc t (a ++ b ++ c) d

-- The output after five steps. The second step writes two parts.
pub five : (t t1 t2 t3 t4 t5 r u p w n e : List ℕ) → t1 ≡ t ++ r → t2 ≡ t1 ++ (u ++ p) → t3 ≡ t2 ++ w → t4 ≡ t3 ++ n → t5 ≡ t4 ++ e → t5 ≡ t ++ (r ++ u ++ p ++ w ++ n ++ e)
five t t1 t2 t3 t4 t5 r u p w n e e1 e2 e3 e4 e5 =
    four t t2 t3 t4 t5 (r ++ u ++ p) w n e (two t t1 t2 r (u ++ p) e1 e2 ∙ ap (λ (x : List ℕ). t ++ x) (sym (append_assoc r u p))) e3 e4 e5

-- The loop processes one more element of a list.
pub taken_next : {X Y : Type 0} (f : X → Y) (xs : List X) (now new : List Y) (i : ℕ) (y : Y) → now ≡ take i (map f xs) → Some y ≡ option_map f (slice_get xs i) → new ≡ now ++ y ∷ [] → new ≡ take (i + 1) (map f xs)
taken_next {Y = Y} f xs now new i y before at next =
    let there : slice_get (map f xs) i ≡ Some y = slice_get-map f xs i ∙ sym at in
    let within : i < length (map f xs) = slice_get_within (map f xs) i y there in
    next
    ∙ ap (λ (ys : List Y). ys ++ y ∷ []) before
    ∙ ap (λ (z : Y). take i (map f xs) ++ z ∷ []) (sym (get_or_from_slice_get (map f xs) i y y there))
    ∙ sym (take_more (map f xs) i y within)

-- The loop stores one more element at its index.
pub taken_set : {X Y : Type 0} (f : X → Y) (xs : List X) (now new : List Y) (i : ℕ) (y : Y) → length now ≡ length xs → take i now ≡ take i (map f xs) → Some y ≡ option_map f (slice_get xs i) → new ≡ set now i y → take (i + 1) new ≡ take (i + 1) (map f xs)
taken_set {Y = Y} f xs now new i y long before at next =
    let there : slice_get (map f xs) i ≡ Some y = slice_get-map f xs i ∙ sym at in
    let within : i < length (map f xs) = slice_get_within (map f xs) i y there in
    let few : i < length now = omega (arith, within, length-map xs f, long) in
    ap (λ (ys : List Y). take (i + 1) ys) next
    ∙ take_more_set now i y few
    ∙ taken_next f xs (take i now) (take i now ++ y ∷ []) i y before at refl

-- After the last element, the list is complete.
pub taken_all : {X Y : Type 0} (f : X → Y) (xs : List X) (now : List Y) (i : ℕ) → length now ≡ length xs → length xs ≤ i → take i now ≡ take i (map f xs) → now ≡ map f xs
taken_all f xs now i long ended same =
    sym (take_all i now (omega (arith, long, ended)))
    ∙ same
    ∙ take_all i (map f xs) (omega (arith, length-map xs f, ended))

-- ---- functions with equal results

pub same_each : {X A : Type 0} (f g : X → List A) (xs : List X) → ((x : X) → f x ≡ g x) → flat_map f xs ≡ flat_map g xs
same_each {A = A} f g [] same = refl
same_each {A = A} f g (x ∷ xs) same = ap (λ (a : List A). a ++ flat_map f xs) (same x) ∙ ap (λ (b : List A). g x ++ b) (same_each f g xs same)

pub same_below : {A : Type 0} (f g : ℕ → List A) (a n b : ℕ) → a + n ≡ b → ((i : ℕ) → i < b → f i ≡ g i) → flat_map f (range_with_len a n) ≡ flat_map g (range_with_len a n)
same_below f g a zero b end same = refl
same_below {A = A} f g a (suc n) b end same =
    ap (λ (x : List A). x ++ flat_map f (range_with_len (a + 1) n)) (same a (omega (arith, end)))
    ∙ ap (λ (y : List A). g a ++ y) (same_below f g (a + 1) n b (omega (arith, end)) same)

pub same_map : {X Y Z : Type 0} (f : Y → Z) (g : X → Y) (h : X → Z) (xs : List X) → ((x : X) → f (g x) ≡ h x) → map f (map g xs) ≡ map h xs
same_map f g h [] same = refl
same_map {Z = Z} f g h (x ∷ xs) same = ap (λ (z : Z). z ∷ map f (map g xs)) (same x) ∙ ap (λ (zs : List Z). h x ∷ zs) (same_map f g h xs same)

-- ---- two lists that are computed element by element from one list

later : {A : Type 0} (f : ℕ → List A) (a n : ℕ) → flat_map f (range_with_len (a + 1) n) ≡ flat_map (λ p. f (suc p)) (range_with_len a n)
later f a zero = refl
later {A = A} f a (suc n) =
    let next : a + 1 ≡ suc a = omega arith in
    ap (λ (m : ℕ). f m ++ flat_map f (range_with_len (a + 1 + 1) n)) next
    ∙ ap (λ (y : List A). f (suc a) ++ y) (later f (a + 1) n)

pub by_place : {X K V A : Type 0} (w : Option V → K → List A) (d : K) (f : X → K) (g : X → V) (xs : List X) → flat_map (λ p. w (slice_get (map g xs) p) (get_or (map f xs) p d)) (range_with_len 0 (length (map f xs))) ≡ flat_map (λ x. w (Some (g x)) (f x)) xs
by_place w d f g [] = refl
by_place {A = A} w d f g (x ∷ xs) =
    ap (λ (y : List A). w (Some (g x)) (f x) ++ y)
    (later (λ p. w (slice_get (g x ∷ map g xs) p) (get_or (f x ∷ map f xs) p d)) 0 (length (map f xs)) ∙ by_place w d f g xs)

-- The output for the first elements of a list.
pub first_places : {K A : Type 0} (w : ℕ → K → List A) (d : K) (ks : List K) (n : ℕ) → n ≤ length ks → flat_map (λ p. w p (get_or (take n ks) p d)) (range_with_len 0 (length (take n ks))) ≡ flat_map (λ p. w p (get_or ks p d)) (range_with_len 0 n)
first_places {K = K} w d ks n few =
    ap (λ (m : ℕ). flat_map (λ p. w p (get_or (take n ks) p d)) (range_with_len 0 m)) (length-take-le n ks few)
    ∙ same_below (λ p. w p (get_or (take n ks) p d)) (λ p. w p (get_or ks p d)) 0 n n (omega arith) (λ p below. ap (λ (k : K). w p k) (get_or-take n ks p d below))
