use Rattle.std.proofs.Common.{◌≡◌, ℕ, zero, suc, ◌+◌, ◌/◌, ◌%◌, ◌^◌, ◌<◌, ◌≤◌, Bool, true, false, cond, List, [], ◌∷◌, ◌++◌, inl, sym, ap, refl, ◌∙◌, arith}
use Rattle.std.specs.Char.{to_ascii_uppercase}
use Rattle.std.proofs.lemmas.List.{map-append}
use Rattle.can_frame.specs.Frames.{Payload, flags_number}
use Rattle.can_frame.specs.Frames.Payload.{Data, Remote, Fd}
use Rattle.can_frame.specs.declared.fd_flags.FdFlags.{FdFlags}
use Rattle.can_frame.specs.declared.item.Item.{Item}
use Rattle.can_frame.specs.declared.item.Item.TheVariants as item
use Rattle.can_frame.specs.FrameText.{digit_of, digits, pairs, id_text, payload_text, frame_spelling, upper, IsPayload, IsItem, Spells}
use Rattle.can_frame.proofs.Digits.{request-text}

-- Written texts are in upper case.

upper-digit : (v : ℕ) → v < 16 → to_ascii_uppercase (digit_of v) ≡ digit_of v
upper-digit v h = grind arith

upper-digits : (count n : ℕ) → upper (digits 16 count n) ≡ digits 16 count n
upper-digits zero n = refl
upper-digits (suc count) n =
    map-append to_ascii_uppercase (digits 16 count (n / 16)) (digit_of (n % 16) ∷ [])
    ∙ rw (upper-digits count (n / 16), upper-digit (n % 16) (omega arith)) refl

upper-pairs : (bytes : List ℕ) → upper (pairs bytes) ≡ pairs bytes
upper-pairs [] = refl
upper-pairs (b ∷ bs) = rw (upper-digit (b / 16 % 16) (omega arith), upper-digit (b % 16) (omega arith), upper-pairs bs) refl

upper-request : (len : ℕ) → len ≤ 8 → upper (payload_text (Remote len)) ≡ payload_text (Remote len)
upper-request zero h = refl
upper-request (suc k) h =
    let text = request-text (suc k) (omega arith) h in
    ap upper text ∙ ap (λ (d : ℕ). 82 ∷ d ∷ []) (decimal_stays (48 + suc k) (omega (arith, h))) ∙ sym text
  where
    decimal_stays : (d : ℕ) → d < 97 → to_ascii_uppercase d ≡ d
    decimal_stays d h = grind arith

upper-flags : (flags : FdFlags) → to_ascii_uppercase (48 + flags_number flags) ≡ 48 + flags_number flags
upper-flags flags = by flags.brs flags.esi
  where
    by : (brs esi : Bool) → to_ascii_uppercase (48 + (cond brs 1 0 + cond esi 2 0)) ≡ 48 + (cond brs 1 0 + cond esi 2 0)
    by true true = refl
    by true false = refl
    by false true = refl
    by false false = refl

upper-payload : (p : Payload) → IsPayload p → upper (payload_text p) ≡ payload_text p
upper-payload (Data bytes) h = upper-pairs bytes
upper-payload (Remote len) h = upper-request len h
upper-payload (Fd flags bytes) h = rw (upper-flags flags, upper-pairs bytes) refl

upper-id : (extended : Bool) (n : ℕ) → upper (id_text (record { extended = extended; number = n })) ≡ id_text (record { extended = extended; number = n })
upper-id false n = upper-digits 3 n
upper-id true n = upper-digits 8 n

parts : (front rest : List ℕ) → upper front ≡ front → upper rest ≡ rest → upper (front ++ 35 ∷ rest) ≡ front ++ 35 ∷ rest
parts front rest h k = map-append to_ascii_uppercase front (35 ∷ rest) ∙ rw (h, k) refl

upper-spelling : (i : Item) → IsItem i → upper (frame_spelling i) ≡ frame_spelling i
unfolding frame_spelling
upper-spelling (item.Data f) h = parts (id_text f.id) (payload_text f.payload) (upper-id f.id.extended f.id.number) (upper-payload f.payload h.1)
upper-spelling (item.Error e) h = parts (digits 16 8 (2 ^ 29 + e.class)) (pairs e.bytes) (upper-digits 8 (2 ^ 29 + e.class)) (upper-pairs e.bytes)

pub spells_itself : (i : Item) → IsItem i → Spells (frame_spelling i) i
spells_itself i h = inl (upper-spelling i h)
