use Rattle.std.proofs.Common.{◌≡◌, inl, inr, ℕ, zero, suc, ◌+◌, ◌-◌, ◌*◌, ◌/◌, ◌%◌, ◌^◌, ◌<◌, ◌≤◌, Bool, true, false, cond, eqb, ltb, leb, List, [], ◌∷◌, ◌++◌, length, Option, Some, None, refl, sym, ap, ◌∙◌, arith, append_assoc, length-append}
use Rattle.std.specs.Option.{option_and_then}
use Rattle.std.proofs.lemmas.List.{length_push}
use Rattle.hex.specs.Hex.{IsBytes, encode_upper, upper_digits}
use Rattle.hex.proofs.HexLemmas.{decode_sized-twice, decode_of-encode_upper, length-encode_with}
use Rattle.can_frame.specs.Frames.{IsIdentifier, Payload, is_fd_length, flags_number, flags_of}
use Rattle.can_frame.specs.Frames.Payload.{Data, Remote, Fd}
use Rattle.can_frame.specs.declared.fd_flags.FdFlags.{FdFlags}
use Rattle.can_frame.specs.declared.item.Item.{Item}
use Rattle.can_frame.specs.declared.item.Item.TheVariants as item
use Rattle.can_frame.specs.FrameText.{digit_of, digits, pairs, id_text, payload_text, frame_spelling, AsksForNothing, IsPayload, IsItem, IsSpelling}
use Rattle.can_frame.specs.FrameGuess.{bytes_in, has_byte_at, request_in, data_in, fd_data_in, flags_in, fd_in, payload_in, frame_in, error_in, standard_in, long_in, short_item_in, long_item_in, item_in}
use Rattle.can_frame.specs.Numbers.{number_in}
use Rattle.can_frame.proofs.Digits.{pairs-upper, request-text}
use Rattle.can_frame.proofs.Numerals.{value-digits}

-- If a text spells an item, the guess is that item.

abbrev get_some : Item → Option Item → Item
get_some d (Some i) = i
get_some d None = d

-- reading the pairs of hexadecimal digits gives the bytes back
bytes_again : (n : ℕ) (bytes : List ℕ) → length bytes ≡ n → IsBytes bytes → bytes_in n (pairs bytes) ≡ Some bytes
unfolding bytes_in
bytes_again n bytes len h =
    let long = length-encode_with upper_digits bytes in
    let whole = decode_sized-twice (encode_upper bytes) n (omega (arith, long, len)) ∙ decode_of-encode_upper bytes h in
    rw (pairs-upper bytes h, whole) refl

length-pairs : (bytes : List ℕ) → length (pairs bytes) ≡ 2 * length bytes
length-pairs [] = refl
length-pairs (b ∷ bs) = let again = length-pairs bs in omega (arith, again)

-- reading the digits of a number gives the number back
number_again : (n : ℕ) → n < 2 ^ 32 → number_in 16 8 (digits 16 8 n) ≡ Some n
number_again n h = value-digits 16 8 n (omega arith) (omega arith) (omega (arith, h))

number_again-short : (n : ℕ) → n < 2 ^ 11 → number_in 16 3 (digits 16 3 n) ≡ Some n
number_again-short n h = value-digits 16 3 n (omega arith) (omega arith) (omega (arith, h))

lt-true : (a b : ℕ) → a < b → ltb a b ≡ true
lt-true a b h = grind arith

lt-false : (a b : ℕ) → b ≤ a → ltb a b ≡ false
lt-false a b h = grind arith

le-true : (a b : ℕ) → a ≤ b → leb a b ≡ true
le-true a b h = grind arith

-- no digit is a `#`
no-hash : (v : ℕ) → eqb (digit_of v) 35 ≡ false
no-hash v = grind arith

no-request : (v : ℕ) → v < 16 → eqb (digit_of v) 82 ≡ false
no-request v h = grind arith

-- three bytes before the `#`
at_three : (a b c : ℕ) (rest : List ℕ) → item_in (a ∷ b ∷ c ∷ 35 ∷ rest) ≡ option_and_then (λ n. standard_in n rest) (number_in 16 3 (a ∷ b ∷ c ∷ []))
unfolding item_in short_item_in
at_three a b c rest = rw (lt-true 3 (length (a ∷ b ∷ c ∷ 35 ∷ rest)) (omega arith)) refl

-- eight bytes before the `#`
at_eight : (a b c d e f g h : ℕ) (rest : List ℕ) → eqb d 35 ≡ false → item_in (a ∷ b ∷ c ∷ d ∷ e ∷ f ∷ g ∷ h ∷ 35 ∷ rest) ≡ option_and_then (λ n. long_in n rest) (number_in 16 8 (a ∷ b ∷ c ∷ d ∷ e ∷ f ∷ g ∷ h ∷ []))
unfolding item_in long_item_in
at_eight a b c d e f g h rest k =
    let long = lt-true 8 (length (a ∷ b ∷ c ∷ d ∷ e ∷ f ∷ g ∷ h ∷ 35 ∷ rest)) (omega arith) in
    let other = lt-true 3 (length (a ∷ b ∷ c ∷ d ∷ e ∷ f ∷ g ∷ h ∷ 35 ∷ rest)) (omega arith) in
    rw (other, k, long) refl

standard-front : (n : ℕ) (rest : List ℕ) → n < 2 ^ 11 → item_in (digits 16 3 n ++ 35 ∷ rest) ≡ frame_in (record { extended = false; number = n }) rest
unfolding standard_in
standard-front n rest h = at_three _ _ _ rest ∙ rw (number_again-short n h, lt-true n (2 ^ 11) h) refl

long-front : (n : ℕ) (rest : List ℕ) → n < 2 ^ 32 → item_in (digits 16 8 n ++ 35 ∷ rest) ≡ long_in n rest
long-front n rest h = at_eight _ _ _ _ _ _ _ _ rest (no-hash _) ∙ rw (number_again n h) refl

id-front : (extended : Bool) (n : ℕ) (rest : List ℕ) → IsIdentifier (record { extended = extended; number = n }) → item_in (id_text (record { extended = extended; number = n }) ++ 35 ∷ rest) ≡ frame_in (record { extended = extended; number = n }) rest
unfolding long_in
id-front false n rest h = standard-front n rest h
id-front true n rest h = long-front n rest (omega (arith, h)) ∙ rw (lt-true n (2 ^ 29) h) refl

one-digit : (d : ℕ) → 48 ≤ d → d ≤ 56 → payload_in (82 ∷ d ∷ []) ≡ Some (Remote (d - 48))
unfolding payload_in request_in
one-digit d low high = rw (le-true 48 d low, le-true d 56 high) refl

request-zero : payload_in (82 ∷ []) ≡ Some (Remote 0)
unfolding payload_in request_in
request-zero = refl

request-again : (len : ℕ) → len ≤ 8 → payload_in (payload_text (Remote len)) ≡ Some (Remote len)
request-again zero h = request-zero
request-again (suc k) h =
    let back : 48 + suc k - 48 ≡ suc k = omega arith in
    ap payload_in (request-text (suc k) (omega arith) h) ∙ one-digit (48 + suc k) (omega arith) (omega (arith, h)) ∙ ap (λ (n : ℕ). Some (Remote n)) back

data-again : (bytes : List ℕ) → length bytes ≤ 8 → IsBytes bytes → data_in (pairs bytes) ≡ Some bytes
unfolding data_in
data-again bytes h fits =
    let len = length-pairs bytes in
    let half : length (pairs bytes) / 2 ≡ length bytes = omega (arith, len) in
    rw (half, le-true (length bytes) 8 h) (bytes_again (length bytes) bytes refl fits)

no-request-in : (bytes : List ℕ) → IsBytes bytes → has_byte_at 82 0 (pairs bytes) ≡ false
no-request-in [] h = refl
no-request-in (b ∷ bs) h = rw (lt-true 0 (length (pairs (b ∷ bs))) (omega arith), no-request (b / 16 % 16) (omega arith)) refl

no-mark-in : (bytes : List ℕ) → IsBytes bytes → has_byte_at 35 0 (pairs bytes) ≡ false
no-mark-in [] h = refl
no-mark-in (b ∷ bs) h = rw (lt-true 0 (length (pairs (b ∷ bs))) (omega arith), no-hash (b / 16 % 16)) refl

fd-data-again : (bytes : List ℕ) → is_fd_length (length bytes) ≡ true → IsBytes bytes → fd_data_in (pairs bytes) ≡ Some bytes
unfolding fd_data_in
fd-data-again bytes h fits =
    let len = length-pairs bytes in
    let half : length (pairs bytes) / 2 ≡ length bytes = omega (arith, len) in
    rw (half, h) (bytes_again (length bytes) bytes refl fits)

-- the digit for the flags of an FD frame
flags-again : (flags : FdFlags) (rest : List ℕ) → flags_in ((48 + flags_number flags) ∷ rest) ≡ Some flags
unfolding flags_in
flags-again flags rest =
    let low : leb 48 (48 + flags_number flags) ≡ true = le-true 48 (48 + flags_number flags) (omega arith) in
    let back : 48 + flags_number flags - 48 ≡ flags_number flags = omega arith in
    let some : eqb (length ((48 + flags_number flags) ∷ rest)) 0 ≡ false = not-empty (length rest) in
    rw (some, low, back) (numbered flags.brs flags.esi)
  where
    not-empty : (n : ℕ) → eqb (suc n) 0 ≡ false
    not-empty n = grind arith

    numbered : (brs esi : Bool) → flags_of (cond brs 1 0 + cond esi 2 0) ≡ Some (record { brs = brs; esi = esi })
    numbered true true = refl
    numbered true false = refl
    numbered false true = refl
    numbered false false = refl

fd-again : (flags : FdFlags) (bytes : List ℕ) → is_fd_length (length bytes) ≡ true → IsBytes bytes → fd_in ((48 + flags_number flags) ∷ pairs bytes) ≡ Some (Fd flags bytes)
unfolding fd_in
fd-again flags bytes h fits = rw (flags-again flags (pairs bytes), fd-data-again bytes h fits) refl

payload-again : (p : Payload) → IsPayload p → payload_in (payload_text p) ≡ Some p
unfolding payload_in
payload-again (Data bytes) h = rw (no-request-in bytes h.1, no-mark-in bytes h.1, data-again bytes h.0 h.1) refl
payload-again (Remote len) h = request-again len h
payload-again (Fd flags bytes) h = rw (lt-true 0 (length (35 ∷ (48 + flags_number flags) ∷ pairs bytes)) (omega arith), fd-again flags bytes h.0 h.1) refl

error-again : (class : ℕ) (bytes : List ℕ) → class < 2 ^ 29 → length bytes ≡ 8 → IsBytes bytes → long_in (2 ^ 29 + class) (pairs bytes) ≡ Some (item.Error (record { class = class; bytes = bytes }))
unfolding long_in error_in
error-again class bytes h eight fits =
    let back : 2 ^ 29 + class - 2 ^ 29 ≡ class = omega arith in
    rw (lt-false (2 ^ 29 + class) (2 ^ 29) (omega arith), back, lt-true class (2 ^ 29) h, bytes_again 8 bytes eight fits) refl

-- the written spelling is guessed
pub item_again : (i : Item) → IsItem i → item_in (frame_spelling i) ≡ Some i
unfolding frame_spelling frame_in
item_again (item.Data f) h = id-front f.id.extended f.id.number (payload_text f.payload) h.0 ∙ rw (payload-again f.payload h.1) refl
item_again (item.Error e) h = long-front (2 ^ 29 + e.class) (pairs e.bytes) (omega (arith, h.0)) ∙ error-again e.class e.bytes h.0 h.1 h.2

zero-payload : (p : Payload) → p ≡ Remote 0 → payload_in (payload_text p ++ 48 ∷ []) ≡ Some p
unfolding payload_in request_in
zero-payload p asks = rw asks refl

-- the text of a remote frame with the length 0 written out is guessed
zero_again : (i : Item) → IsItem i → AsksForNothing i → item_in (frame_spelling i ++ 48 ∷ []) ≡ Some i
unfolding frame_spelling frame_in
zero_again (item.Data f) h asks =
    ap item_in (append_assoc (id_text f.id) (35 ∷ payload_text f.payload) (48 ∷ []))
    ∙ id-front f.id.extended f.id.number (payload_text f.payload ++ 48 ∷ []) h.0
    ∙ rw (zero-payload f.payload asks) refl
zero_again (item.Error e) h asks = absurd asks

-- a text guesses what it spells
pub guessed : (text : List ℕ) (i : Item) → IsItem i → IsSpelling text i → item_in text ≡ Some i
guessed text i h (inl e) = rw e (item_again i h)
guessed text i h (inr z) = rw z.1 (zero_again i h z.0)

-- so a text spells at most one item
pub one_item : (text : List ℕ) (a b : Item) → IsItem a → IsItem b → IsSpelling text a → IsSpelling text b → a ≡ b
one_item text a b ha hb sa sb = Some-injective a b (sym (guessed text a ha sa) ∙ guessed text b hb sb)
  where
    Some-injective : (x y : Item) → Some x ≡ Some y → x ≡ y
    Some-injective x y e = ap (get_some x) e

-- every text that spells an item is short
length-id : (extended : Bool) (n : ℕ) → length (id_text (record { extended = extended; number = n })) ≤ 8
length-id false n = omega arith
length-id true n = omega arith

length-request : (len : ℕ) → len ≤ 8 → length (payload_text (Remote len)) ≤ 2
length-request zero h = omega arith
length-request (suc k) h = let l = ap length (request-text (suc k) (omega arith) h) in omega (arith, l)

at_most_64 : (n : ℕ) → is_fd_length n ≡ true → n ≤ 64
at_most_64 n h = grind arith

length-payload : (p : Payload) → IsPayload p → length (payload_text p) ≤ 130
length-payload (Data bytes) h = omega (arith, h.0, length-pairs bytes)
length-payload (Remote len) h = omega (arith, length-request len h)
length-payload (Fd flags bytes) h = omega (arith, at_most_64 (length bytes) h.0, length-pairs bytes)

length-spelling : (i : Item) → IsItem i → length (frame_spelling i) ≤ 139
unfolding frame_spelling
length-spelling (item.Data f) h = omega (arith, length-append (id_text f.id) (35 ∷ payload_text f.payload), length-id f.id.extended f.id.number, length-payload f.payload h.1)
length-spelling (item.Error e) h = omega (arith, h.1, length-pairs e.bytes)

pub short : (text : List ℕ) (i : Item) → IsItem i → IsSpelling text i → length text ≤ 140
short text i h (inl e) = let l = length-spelling i h in omega (arith, ap length e, l)
short text i h (inr z) = let l = length-spelling i h in omega (arith, ap length z.1, length_push (frame_spelling i) 48, l)
