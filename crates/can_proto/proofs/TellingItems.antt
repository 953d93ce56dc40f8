use Rattle.std.proofs.Common.{◌≡◌, ℕ, suc, ◌/◌, ◌%◌, ◌^◌, ◌<◌, ◌==◌, nat_lt, Bool, true, false, if◌then◌else◌, List, [], ◌∷◌, ◌++◌, Some, length, get_or, drop, slice_index, refl, sym, ap, ◌∙◌, arith, append_assoc, codes}
use Rattle.std.specs.Fmt.{decimal}
use Rattle.std.proofs.lemmas.Fmt.{decimal_injective}
use Rattle.can_frame.specs.Frames.{Identifier, IsIdentifier, Payload, CanFrame, ErrorMessage}
use Rattle.can_frame.specs.Frames.Payload.{Data, Remote, Fd}
use Rattle.can_frame.specs.declared.fd_flags.FdFlags.{FdFlags}
use Rattle.can_frame.specs.declared.item.Item.{Item}
use Rattle.can_frame.specs.declared.item.Item.TheVariants as item
use Rattle.can_frame.specs.FrameText.{digits, pairs, id_text, IsPayload, IsItem}
use Rattle.can_frame.specs.Moments.{moment_text}
use Rattle.can_proto.specs.declared.answer.Origin.{Origin}
use Rattle.can_proto.specs.declared.answer.Origin.TheVariants.{Same, Other}
use Rattle.can_proto.specs.Spelling.{class_width, class_text, body_text, fd_word, frame_front, error_text, item_text, origin_text, item_text_from, without_data, shown_origin, IsOrigin}
use Rattle.can_frame.specs.Numbers.{number_after}
use Rattle.can_proto.proofs.Cuts.{clear, clear-append, cut}
use Rattle.can_proto.proofs.Numerals.{IsMark, clear-digits, clear-pairs, clear-decimal}
use Rattle.can_frame.proofs.Numerals.{left, value-digits, same-digits}

-- Different items have different texts.

abbrev pub is_space : ℕ → Bool
is_space b = b == 32

abbrev pub is_point : ℕ → Bool
is_point b = b == 46

pub no-space : IsMark is_space
no-space d h = grind arith

pub no-point : IsMark is_point
no-point d h = grind arith

-- timestamps with equal texts are equal
clear-moment : (m : ℕ) → m < 10 ^ 16 → clear is_space (moment_text m) ≡ true
clear-moment m h = clear-append is_space (decimal (m / 1000000)) (46 ∷ digits 10 6 (m % 1000000)) (clear-decimal is_space no-space (m / 1000000) (omega arith)) (clear-digits is_space no-space 10 6 (m % 1000000))

same-moment : (m n : ℕ) → m < 10 ^ 16 → n < 10 ^ 16 → moment_text m ≡ moment_text n → m ≡ n
same-moment m n hm hn e =
    let parts = cut is_point 46 (decimal (m / 1000000)) (decimal (n / 1000000)) (digits 10 6 (m % 1000000)) (digits 10 6 (n % 1000000)) refl (clear-decimal is_point no-point (m / 1000000) (omega arith)) (clear-decimal is_point no-point (n / 1000000) (omega arith)) e in
    let front = decimal_injective (m / 1000000) (n / 1000000) (omega arith) (omega arith) parts.0 in
    let back = same-digits 10 6 (m % 1000000) (n % 1000000) (omega arith) (omega arith) (omega arith) (omega arith) parts.1 in
    omega (arith, front, back)

-- identifiers with equal texts are equal
same-id : (a b : Bool) (m n : ℕ) → IsIdentifier (record { extended = a; number = m }) → IsIdentifier (record { extended = b; number = n }) → id_text (record { extended = a; number = m }) ≡ id_text (record { extended = b; number = n }) → (a ≡ b) × (m ≡ n)
same-id false false m n hm hn e = (refl, same-digits 16 3 m n (omega arith) (omega arith) (omega (arith, hm)) (omega (arith, hn)) e)
same-id true true m n hm hn e = (refl, same-digits 16 8 m n (omega arith) (omega arith) (omega (arith, hm)) (omega (arith, hn)) e)
same-id false true m n hm hn e = let l = ap length e in absurd (omega (arith, l))
same-id true false m n hm hn e = let l = ap length e in absurd (omega (arith, l))

clear-id : (id : Identifier) → clear is_space (id_text id) ≡ true
clear-id id = clear-digits is_space no-space 16 (if id.extended then 8 else 3) id.number

-- byte lists with equal texts are equal
abbrev AreBytes : List ℕ → Type 0
AreBytes xs = (i : ℕ) → slice_index xs i < 256

same-bytes : (xs ys : List ℕ) → AreBytes xs → AreBytes ys → pairs xs ≡ pairs ys → xs ≡ ys
same-bytes [] [] hx hy e = refl
same-bytes [] (y ∷ ys) hx hy e = absurd cc
same-bytes (x ∷ xs) [] hx hy e = absurd cc
same-bytes (x ∷ xs) (y ∷ ys) hx hy e =
    let fx : x < 256 = hx 0 in
    let fy : y < 256 = hy 0 in
    let rest : pairs xs ≡ pairs ys = cc in
    let again = same-bytes xs ys (λ k. hx (suc k)) (λ k. hy (suc k)) rest in
    let two : digits 16 2 x ≡ digits 16 2 y = ap (λ (t : List ℕ). get_or t 0 0 ∷ get_or t 1 0 ∷ []) e in
    let one = same-digits 16 2 x y (omega arith) (omega arith) (omega arith) (omega arith) two in
    ap (λ (b : ℕ). b ∷ xs) one ∙ ap (λ (bs : List ℕ). y ∷ bs) again

-- error classes with equal texts are equal
by_test : (b : Bool) (w v class : ℕ) → (b ≡ true → left 16 w class ≡ 0) → (b ≡ false → left 16 v class ≡ 0) → left 16 (if b then w else v) class ≡ 0
by_test true w v class h k = h refl
by_test false w v class h k = k refl

width : (class : ℕ) → class < 2 ^ 29 → left 16 (class_width class) class ≡ 0
width class h =
    by_test (nat_lt class (16 ^ 3)) 3 _ class (λ lt. grind arith) (λ _.
    by_test (nat_lt class (16 ^ 4)) 4 _ class (λ lt. grind arith) (λ _.
    by_test (nat_lt class (16 ^ 5)) 5 _ class (λ lt. grind arith) (λ _.
    by_test (nat_lt class (16 ^ 6)) 6 _ class (λ lt. grind arith) (λ _.
    by_test (nat_lt class (16 ^ 7)) 7 8 class (λ lt. grind arith) (λ _. omega arith)))))

clear-class : (class : ℕ) → clear is_space (class_text class) ≡ true
clear-class class = clear-digits is_space no-space 16 (class_width class) class

same-class : (a b : ℕ) → a < 2 ^ 29 → b < 2 ^ 29 → class_text a ≡ class_text b → a ≡ b
same-class a b ha hb e =
    let one = value-digits 16 (class_width a) a (omega arith) (omega arith) (width a ha) in
    let other = value-digits 16 (class_width b) b (omega arith) (omega arith) (width b hb) in
    let same : Some a ≡ Some b = sym one ∙ ap (number_after 16 (Some 0)) e ∙ other in
    cc

-- joining texts is associative
regroup : (b m rest : List ℕ) → ((b ++ 32 ∷ []) ++ m) ++ rest ≡ b ++ 32 ∷ (m ++ rest)
regroup b m rest = append_assoc (b ++ 32 ∷ []) m rest ∙ append_assoc b (32 ∷ []) (m ++ rest)

regroup-all : (b m p rest : List ℕ) → ((((b ++ 32 ∷ []) ++ m) ++ 32 ∷ []) ++ p) ++ rest ≡ b ++ 32 ∷ (m ++ 32 ∷ (p ++ rest))
regroup-all b m p rest = regroup ((b ++ 32 ∷ []) ++ m) p rest ∙ regroup b m (32 ∷ (p ++ rest))

between : {A : Type 0} (x y v w : A) → x ≡ v → y ≡ w → x ≡ y → v ≡ w
between x y v w h k e = cc

-- if two texts of a word, a timestamp and more bytes are equal, these parts are equal
same-parts : (xs ys rest last : List ℕ) (m n : ℕ) → clear is_space xs ≡ true → clear is_space ys ≡ true → m < 10 ^ 16 → n < 10 ^ 16 → xs ++ 32 ∷ (moment_text m ++ 32 ∷ rest) ≡ ys ++ 32 ∷ (moment_text n ++ 32 ∷ last) → (xs ≡ ys) × (m ≡ n) × (rest ≡ last)
same-parts xs ys rest last m n cx cy hm hn e =
    let word = cut is_space 32 xs ys (moment_text m ++ 32 ∷ rest) (moment_text n ++ 32 ∷ last) refl cx cy e in
    let next = cut is_space 32 (moment_text m) (moment_text n) rest last refl (clear-moment m hm) (clear-moment n hn) word.1 in
    (word.0, same-moment m n hm hn next.0, next.1)

same-identifier : (a b : Identifier) → IsIdentifier a → IsIdentifier b → id_text a ≡ id_text b → a ≡ b
same-identifier a b ha hb e =
    let h = same-id a.extended b.extended a.number b.number ha hb e in
    ap (λ (x : Bool). record { extended = x; number = a.number }) h.0 ∙ ap (λ (k : ℕ). record { extended = b.extended; number = k }) h.1

-- the third byte identifies the kind of text
unfoldable pub third : List ℕ → ℕ
third text = get_or text 2 0

-- the fourth byte; it is used if the third byte is that of a data frame
fourth : List ℕ → ℕ
fourth text = get_or text 3 0

-- the byte after `fdframe`, and the flags after `fdframex`
after_word : List ℕ → ℕ
after_word text = get_or text 9 0

flag_digit : List ℕ → ℕ
flag_digit text = get_or text 11 0

-- if the texts of two FD frames are equal, their first words and the bytes after these are equal
same-word : (f g : FdFlags) (xs ys : List ℕ) → fd_word f ++ xs ≡ fd_word g ++ ys → (f ≡ g) × (xs ≡ ys)
unfolding after_word flag_digit
same-word f g xs ys e = by f.brs f.esi g.brs g.esi e
  where
    flags : Bool → Bool → FdFlags
    flags brs esi = record { brs = brs; esi = esi }

    by : (a b c d : Bool) → fd_word (flags a b) ++ xs ≡ fd_word (flags c d) ++ ys → (flags a b ≡ flags c d) × (xs ≡ ys)
    by false false false false h = (refl, ap (drop 10) h)
    by true false true false h = (refl, ap (drop 13) h)
    by false true false true h = (refl, ap (drop 13) h)
    by true true true true h = (refl, ap (drop 13) h)
    by false false true false h = let k : 32 ≡ 120 = ap after_word h in absurd (omega (arith, k))
    by false false false true h = let k : 32 ≡ 120 = ap after_word h in absurd (omega (arith, k))
    by false false true true h = let k : 32 ≡ 120 = ap after_word h in absurd (omega (arith, k))
    by true false false false h = let k : 120 ≡ 32 = ap after_word h in absurd (omega (arith, k))
    by false true false false h = let k : 120 ≡ 32 = ap after_word h in absurd (omega (arith, k))
    by true true false false h = let k : 120 ≡ 32 = ap after_word h in absurd (omega (arith, k))
    by true false false true h = let k : 49 ≡ 50 = ap flag_digit h in absurd (omega (arith, k))
    by true false true true h = let k : 49 ≡ 51 = ap flag_digit h in absurd (omega (arith, k))
    by false true true false h = let k : 50 ≡ 49 = ap flag_digit h in absurd (omega (arith, k))
    by false true true true h = let k : 50 ≡ 51 = ap flag_digit h in absurd (omega (arith, k))
    by true true true false h = let k : 51 ≡ 49 = ap flag_digit h in absurd (omega (arith, k))
    by true true false true h = let k : 51 ≡ 50 = ap flag_digit h in absurd (omega (arith, k))

-- the third and fourth bytes of an FD frame's text
third-fd : (f : FdFlags) (xs : List ℕ) → third (fd_word f ++ xs) ≡ 102
unfolding third
third-fd f xs = by f.brs f.esi
  where
    by : (brs esi : Bool) → third (fd_word (record { brs = brs; esi = esi }) ++ xs) ≡ 102
    by true true = refl
    by true false = refl
    by false true = refl
    by false false = refl

fourth-fd : (f : FdFlags) (xs : List ℕ) → fourth (fd_word f ++ xs) ≡ 100
unfolding fourth
fourth-fd f xs = by f.brs f.esi
  where
    by : (brs esi : Bool) → fourth (fd_word (record { brs = brs; esi = esi }) ++ xs) ≡ 100
    by true true = refl
    by true false = refl
    by false true = refl
    by false false = refl

-- an FD frame's text followed by more text
fd-then : (f : FdFlags) (body rest : List ℕ) → (fd_word f ++ body) ++ rest ≡ fd_word f ++ (body ++ rest)
fd-then f body rest = append_assoc (fd_word f) body rest

-- if the texts of two frames are equal up to a space, the frames are equal
one-front : (a b : Identifier) (p q : Payload) (m n : ℕ) (rest last : List ℕ) → IsIdentifier a → IsIdentifier b → IsPayload p → IsPayload q → m < 10 ^ 16 → n < 10 ^ 16 →
    frame_front (record { id = a; payload = p }) m ++ 32 ∷ rest ≡ frame_front (record { id = b; payload = q }) n ++ 32 ∷ last →
    (a ≡ b) × (p ≡ q) × (m ≡ n) × (rest ≡ last)
unfolding third fourth
one-front a b (Data xs) (Data ys) m n rest last ha hb hp hq hm hn e =
    let parts = same-parts (id_text a) (id_text b) (pairs xs ++ 32 ∷ rest) (pairs ys ++ 32 ∷ last) m n (clear-id a) (clear-id b) hm hn
    (between _ _ _ _ (regroup-all (id_text a) (moment_text m) (pairs xs) (32 ∷ rest)) (regroup-all (id_text b) (moment_text n) (pairs ys) (32 ∷ last)) (ap (drop 8) e)) in
    let ends = cut is_space 32 (pairs xs) (pairs ys) rest last refl (clear-pairs is_space no-space xs) (clear-pairs is_space no-space ys) parts.2 in
    (same-identifier a b ha hb parts.0, ap (λ (bytes : List ℕ). Data bytes) (same-bytes xs ys hp.1 hq.1 ends.0), parts.1, ends.1)
one-front a b (Remote k) (Remote l) m n rest last ha hb hp hq hm hn e =
    let parts = same-parts (id_text a) (id_text b) (decimal k ++ 32 ∷ rest) (decimal l ++ 32 ∷ last) m n (clear-id a) (clear-id b) hm hn
    (between _ _ _ _ (regroup-all (id_text a) (moment_text m) (decimal k) (32 ∷ rest)) (regroup-all (id_text b) (moment_text n) (decimal l) (32 ∷ last)) (ap (drop 9) e)) in
    let ends = cut is_space 32 (decimal k) (decimal l) rest last refl (clear-decimal is_space no-space k (omega arith)) (clear-decimal is_space no-space l (omega arith)) parts.2 in
    (same-identifier a b ha hb parts.0, ap (λ (len : ℕ). Remote len) (decimal_injective k l (omega arith) (omega arith) ends.0), parts.1, ends.1)
one-front a b (Fd f xs) (Fd g ys) m n rest last ha hb hp hq hm hn e =
    let words = same-word f g _ _ (between _ _ _ _ (fd-then f (body_text (record { id = a; payload = Fd f xs }) m) (32 ∷ rest)) (fd-then g (body_text (record { id = b; payload = Fd g ys }) n) (32 ∷ last)) e) in
    let parts = same-parts (id_text a) (id_text b) (pairs xs ++ 32 ∷ rest) (pairs ys ++ 32 ∷ last) m n (clear-id a) (clear-id b) hm hn
    (between _ _ _ _ (regroup-all (id_text a) (moment_text m) (pairs xs) (32 ∷ rest)) (regroup-all (id_text b) (moment_text n) (pairs ys) (32 ∷ last)) words.1) in
    let ends = cut is_space 32 (pairs xs) (pairs ys) rest last refl (clear-pairs is_space no-space xs) (clear-pairs is_space no-space ys) parts.2 in
    (same-identifier a b ha hb parts.0, ap (λ (h : FdFlags). Fd h xs) words.0 ∙ ap (λ (bytes : List ℕ). Fd g bytes) (same-bytes xs ys hp.1 hq.1 ends.0), parts.1, ends.1)
one-front a b (Data xs) (Fd g ys) m n rest last ha hb hp hq hm hn e = let k : 114 ≡ 100 = ap fourth (e ∙ fd-then g _ (32 ∷ last)) ∙ fourth-fd g _ in absurd (omega (arith, k))
one-front a b (Fd f xs) (Data ys) m n rest last ha hb hp hq hm hn e = let k : 100 ≡ 114 = sym (fourth-fd f _) ∙ ap fourth (sym (fd-then f _ (32 ∷ rest)) ∙ e) in absurd (omega (arith, k))
one-front a b (Fd f xs) (Remote l) m n rest last ha hb hp hq hm hn e = let k : 102 ≡ 114 = sym (third-fd f _) ∙ ap third (sym (fd-then f _ (32 ∷ rest)) ∙ e) in absurd (omega (arith, k))
one-front a b (Remote k) (Fd g ys) m n rest last ha hb hp hq hm hn e = let k : 114 ≡ 102 = ap third (e ∙ fd-then g _ (32 ∷ last)) ∙ third-fd g _ in absurd (omega (arith, k))
one-front a b (Data xs) (Remote l) m n rest last ha hb hp hq hm hn e = let k : 102 ≡ 114 = ap third e in absurd (omega (arith, k))
one-front a b (Remote k) (Data ys) m n rest last ha hb hp hq hm hn e = let k : 114 ≡ 102 = ap third e in absurd (omega (arith, k))

-- the text of a frame is never the text of an error message frame
frame-no-error : (id : Identifier) (p : Payload) (rest : List ℕ) (error : ErrorMessage) (m n : ℕ) → frame_front (record { id = id; payload = p }) m ++ rest ≡ error_text true error n → ⊥
unfolding third
frame-no-error id (Data xs) rest error m n e = let k : 102 ≡ 101 = ap third e in omega (arith, k)
frame-no-error id (Fd f xs) rest error m n e = let k : 102 ≡ 101 = sym (third-fd f _) ∙ ap third (sym (fd-then f _ rest) ∙ e) in omega (arith, k)
frame-no-error id (Remote len) rest error m n e = let k : 114 ≡ 101 = ap third e in omega (arith, k)

frame-no-class : (id : Identifier) (p : Payload) (rest : List ℕ) (error : ErrorMessage) (m n : ℕ) → frame_front (record { id = id; payload = p }) m ++ rest ≡ error_text false error n → ⊥
unfolding third
frame-no-class id (Data xs) rest error m n e = let k : 102 ≡ 101 = ap third e in omega (arith, k)
frame-no-class id (Fd f xs) rest error m n e = let k : 102 ≡ 101 = sym (third-fd f _) ∙ ap third (sym (fd-then f _ rest) ∙ e) in omega (arith, k)
frame-no-class id (Remote len) rest error m n e = let k : 114 ≡ 101 = ap third e in omega (arith, k)

one-error : (a b : ℕ) (xs ys : List ℕ) (m n : ℕ) → a < 2 ^ 29 → b < 2 ^ 29 → AreBytes xs → AreBytes ys → m < 10 ^ 16 → n < 10 ^ 16 → item_text true (item.Error (record { class = a; bytes = xs })) m ≡ item_text true (item.Error (record { class = b; bytes = ys })) n → (a ≡ b) × (xs ≡ ys) × (m ≡ n)
one-error a b xs ys m n ha hb hx hy hm hn e =
    let parts = same-parts (class_text a) (class_text b) (pairs xs ++ codes " >") (pairs ys ++ codes " >") m n (clear-class a) (clear-class b) hm hn
    (between _ _ _ _ (regroup-all (class_text a) (moment_text m) (pairs xs) (codes " >")) (regroup-all (class_text b) (moment_text n) (pairs ys) (codes " >")) (ap (drop 8) e)) in
    let ends = cut is_space 32 (pairs xs) (pairs ys) (62 ∷ []) (62 ∷ []) refl (clear-pairs is_space no-space xs) (clear-pairs is_space no-space ys) parts.2 in
    (same-class a b ha hb parts.0, same-bytes xs ys hx hy ends.0, parts.1)

one-class : (a b : ℕ) (xs ys : List ℕ) (m n : ℕ) → a < 2 ^ 29 → b < 2 ^ 29 → m < 10 ^ 16 → n < 10 ^ 16 → item_text false (item.Error (record { class = a; bytes = xs })) m ≡ item_text false (item.Error (record { class = b; bytes = ys })) n → (a ≡ b) × (m ≡ n)
one-class a b xs ys m n ha hb hm hn e =
    let parts = same-parts (class_text a) (class_text b) (62 ∷ []) (62 ∷ []) m n (clear-class a) (clear-class b) hm hn (between _ _ _ _ (regroup (class_text a) (moment_text m) (codes " >")) (regroup (class_text b) (moment_text n) (codes " >")) (ap (drop 8) e)) in
    (same-class a b ha hb parts.0, parts.1)

whole-frame : (a b : CanFrame) → a.id ≡ b.id → a.payload ≡ b.payload → item.Data a ≡ item.Data b
whole-frame a b h k = ap (λ (x : Identifier). item.Data (record { id = x; payload = a.payload })) h ∙ ap (λ (p : Payload). item.Data (record { id = b.id; payload = p })) k

whole-error : (a b : ErrorMessage) → a.class ≡ b.class → a.bytes ≡ b.bytes → item.Error a ≡ item.Error b
whole-error a b h k = ap (λ (x : ℕ). item.Error (record { class = x; bytes = a.bytes })) h ∙ ap (λ (xs : List ℕ). item.Error (record { class = b.class; bytes = xs })) k

pub one-item : (i j : Item) (m n : ℕ) → IsItem i → IsItem j → m < 10 ^ 16 → n < 10 ^ 16 → item_text true i m ≡ item_text true j n → (i ≡ j) × (m ≡ n)
one-item (item.Data f) (item.Data g) m n hi hj hm hn e =
    let h = one-front f.id g.id f.payload g.payload m n (62 ∷ []) (62 ∷ []) hi.0 hj.0 hi.1 hj.1 hm hn e in
    (whole-frame f g h.0 h.1, h.2)
one-item (item.Data f) (item.Error g) m n hi hj hm hn e = absurd (frame-no-error f.id f.payload (codes " >") g m n e)
one-item (item.Error f) (item.Data g) m n hi hj hm hn e = absurd (frame-no-error g.id g.payload (codes " >") f n m (sym e))
one-item (item.Error f) (item.Error g) m n hi hj hm hn e =
    let h = one-error f.class g.class f.bytes g.bytes m n hi.0 hj.0 hi.2 hj.2 hm hn e in
    (whole-error f g h.0 h.1, h.2)

pub one-item-without : (i j : Item) (m n : ℕ) → IsItem i → IsItem j → m < 10 ^ 16 → n < 10 ^ 16 → item_text false i m ≡ item_text false j n → (without_data i ≡ without_data j) × (m ≡ n)
one-item-without (item.Data f) (item.Data g) m n hi hj hm hn e =
    let h = one-front f.id g.id f.payload g.payload m n (62 ∷ []) (62 ∷ []) hi.0 hj.0 hi.1 hj.1 hm hn e in
    (whole-frame f g h.0 h.1, h.2)
one-item-without (item.Data f) (item.Error g) m n hi hj hm hn e = absurd (frame-no-class f.id f.payload (codes " >") g m n e)
one-item-without (item.Error f) (item.Data g) m n hi hj hm hn e = absurd (frame-no-class g.id g.payload (codes " >") f n m (sym e))
one-item-without (item.Error f) (item.Error g) m n hi hj hm hn e =
    let h = one-class f.class g.class f.bytes g.bytes m n hi.0 hj.0 hm hn e in
    (ap (λ (x : ℕ). item.Error (record { class = x; bytes = [] })) h.0, h.1)

-- origins with equal texts are equal; this is the text of an origin after its first space
origin-tail : Origin → List ℕ
origin-tail (Same number) = codes "same " ++ decimal number ++ codes " >"
origin-tail (Other number) = codes "other " ++ decimal number ++ codes " >"

tailed : (o : Origin) → origin_text o ++ codes " >" ≡ 32 ∷ origin-tail o
unfolding origin-tail
tailed (Same number) = refl
tailed (Other number) = refl

first-byte : List ℕ → ℕ
first-byte text = get_or text 0 0

same-number : (m n : ℕ) → m < 2 ^ 64 → n < 2 ^ 64 → decimal m ++ codes " >" ≡ decimal n ++ codes " >" → m ≡ n
same-number m n hm hn e =
    let parts = cut is_space 32 (decimal m) (decimal n) (62 ∷ []) (62 ∷ []) refl (clear-decimal is_space no-space m hm) (clear-decimal is_space no-space n hn) e in
    decimal_injective m n hm hn parts.0

one-origin : (o p : Origin) → IsOrigin o → IsOrigin p → origin-tail o ≡ origin-tail p → o ≡ p
unfolding origin-tail first-byte
one-origin (Same m) (Same n) ho hp e = ap Same (same-number m n ho hp (ap (drop 5) e))
one-origin (Other m) (Other n) ho hp e = ap Other (same-number m n ho hp (ap (drop 6) e))
one-origin (Same m) (Other n) ho hp e = let k : 115 ≡ 111 = ap first-byte e in absurd (omega (arith, k))
one-origin (Other m) (Same n) ho hp e = let k : 111 ≡ 115 = ap first-byte e in absurd (omega (arith, k))

-- the text of a frame with its origin
ends-with : (f : CanFrame) (m : ℕ) (o : Origin) → (frame_front f m ++ origin_text o) ++ codes " >" ≡ frame_front f m ++ 32 ∷ origin-tail o
ends-with f m o = append_assoc (frame_front f m) (origin_text o) (codes " >") ∙ ap (λ (rest : List ℕ). frame_front f m ++ rest) (tailed o)

pub one-item-from : (i j : Item) (o p : Origin) (m n : ℕ) → IsItem i → IsItem j → IsOrigin o → IsOrigin p → m < 10 ^ 16 → n < 10 ^ 16 → item_text_from true o i m ≡ item_text_from true p j n → (i ≡ j) × (m ≡ n) × (shown_origin i o ≡ shown_origin j p)
one-item-from (item.Data f) (item.Data g) o p m n hi hj ho hp hm hn e =
    let h = one-front f.id g.id f.payload g.payload m n (origin-tail o) (origin-tail p) hi.0 hj.0 hi.1 hj.1 hm hn (sym (ends-with f m o) ∙ e ∙ ends-with g n p) in
    (whole-frame f g h.0 h.1, h.2, ap Some (one-origin o p ho hp h.3))
one-item-from (item.Data f) (item.Error g) o p m n hi hj ho hp hm hn e = absurd (frame-no-error f.id f.payload (origin_text o ++ codes " >") g m n (sym (append_assoc (frame_front f m) (origin_text o) (codes " >")) ∙ e))
one-item-from (item.Error f) (item.Data g) o p m n hi hj ho hp hm hn e = absurd (frame-no-error g.id g.payload (origin_text p ++ codes " >") f n m (sym (append_assoc (frame_front g n) (origin_text p) (codes " >")) ∙ sym e))
one-item-from (item.Error f) (item.Error g) o p m n hi hj ho hp hm hn e =
    let h = one-error f.class g.class f.bytes g.bytes m n hi.0 hj.0 hi.2 hj.2 hm hn e in
    (whole-error f g h.0 h.1, h.2, refl)
