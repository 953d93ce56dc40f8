use Rattle.std.proofs.Common.{◌≡◌, ◌≤◌, ◌<◌, ◌+◌, ◌*◌, ◌∷◌, [], List, ℕ, Option, Some, None, MatchOption, Err, if◌then◌else◌, ◌^◌, nat_lt, ◌⊎◌, inl, inr, refl, ap, ◌∙◌, arith}
use Rattle.std.proofs.lemmas.Bool.{lt-ltb}
use Rattle.can_frame.specs.Numbers.{hex_digit, in_base, one_more, number_after, number_in}
use Rattle.can_proto.specs.declared.fault.ProtoFault.TheVariants.{BadId}
use Rattle.can_proto.specs.Commands.{id_of, short_id}
use Rattle.can_proto.proofs.pairs.short_id.Goals as goal

-- the entry of a byte in the table
abbrev IsEntry : ℕ → Option ℕ → Type 0
IsEntry r digit = MatchOption digit (r ≡ 64) (λ v. (r ≡ v) × (v < 16))

-- a number with one more digit, given the table entry of the digit
longer : (n b r : ℕ) (ds : List ℕ) → IsEntry r (hex_digit b) → number_after 16 (Some n) (b ∷ ds) ≡ if nat_lt r 16 then number_after 16 (Some (n * 16 + r)) ds else None
longer n b r ds entry = by (hex_digit b) entry
  where
    by : (digit : Option ℕ) → IsEntry r digit → number_after 16 (one_more 16 n (in_base 16 digit)) ds ≡ if nat_lt r 16 then number_after 16 (Some (n * 16 + r)) ds else None
    by None e = rw e refl
    by (Some v) e = rw (e.0, lt-ltb v 16 e.1) refl

-- the number that three digits spell, given their table entries
number : (h m l a b c : ℕ) → IsEntry a (hex_digit h) → IsEntry b (hex_digit m) → IsEntry c (hex_digit l)
    → number_in 16 3 (h ∷ m ∷ l ∷ []) ≡ if nat_lt a 16 then if nat_lt b 16 then if nat_lt c 16 then Some (((0 * 16 + a) * 16 + b) * 16 + c) else None else None else None
number h m l a b c first second third =
    let three = ap (λ (n : Option ℕ). if nat_lt a 16 then if nat_lt b 16 then n else None else None) (longer ((0 * 16 + a) * 16 + b) l c [] third) in
    let two = ap (λ (n : Option ℕ). if nat_lt a 16 then n else None) (longer (0 * 16 + a) m b (l ∷ []) second) in
    longer 0 h a (m ∷ l ∷ []) first ∙ two ∙ three

-- an entry is 64 or the value of a digit
bound : (b r : ℕ) → IsEntry r (hex_digit b) → (r ≡ 64) ⊎ (r < 16)
bound b r entry = by (hex_digit b) entry
  where
    by : (digit : Option ℕ) → IsEntry r digit → (r ≡ 64) ⊎ (r < 16)
    by None e = inl e
    by (Some v) e = inr (omega (arith, e))

-- if the sum of the entries is at least 64, one of the three bytes is not a digit
none : (a b c : ℕ) (n : Option ℕ) → (a ≡ 64) ⊎ (a < 16) → (b ≡ 64) ⊎ (b < 16) → (c ≡ 64) ⊎ (c < 16) → 64 ≤ a + b + c → (if nat_lt a 16 then if nat_lt b 16 then if nat_lt c 16 then n else None else None else None) ≡ None
none a b c n (inl x) second third many = rw x refl
none a b c n (inr x) (inl y) third many = rw (lt-ltb a 16 x, y) refl
none a b c n (inr x) (inr y) (inl z) many = rw (lt-ltb a 16 x, lt-ltb b 16 y, z) refl
none a b c n (inr x) (inr y) (inr z) many = absurd (omega arith)

all : (a b c : ℕ) (n : Option ℕ) → (a ≡ 64) ⊎ (a < 16) → (b ≡ 64) ⊎ (b < 16) → (c ≡ 64) ⊎ (c < 16) → a + b + c < 64 → (if nat_lt a 16 then if nat_lt b 16 then if nat_lt c 16 then n else None else None else None) ≡ n
all a b c n (inl x) second third few = absurd (omega arith)
all a b c n (inr x) (inl y) third few = absurd (omega arith)
all a b c n (inr x) (inr y) (inl z) few = absurd (omega arith)
all a b c n (inr x) (inr y) (inr z) few = rw (lt-ltb a 16 x, lt-ltb b 16 y, lt-ltb c 16 z) refl

-- an 11-bit identifier must be below 2^11
over : (n : ℕ) → (n < 2 ^ 11 → ⊥) → short_id (Some n) ≡ Err BadId
over n high = grind arith

fails : (h m l a b c : ℕ) → IsEntry a (hex_digit h) → IsEntry b (hex_digit m) → IsEntry c (hex_digit l) → 64 ≤ a + b + c → id_of (h ∷ m ∷ l ∷ []) ≡ Err BadId
unfolding id_of
fails h m l a b c first second third many =
    ap short_id (number h m l a b c first second third ∙ none a b c _ (bound h a first) (bound m b second) (bound l c third) many)

exceeds : (h m l a b c : ℕ) → IsEntry a (hex_digit h) → IsEntry b (hex_digit m) → IsEntry c (hex_digit l) → a + b + c < 64 → (a * 256 + (b * 16 + c) < 2 ^ 11 → ⊥) → id_of (h ∷ m ∷ l ∷ []) ≡ Err BadId
unfolding id_of
exceeds h m l a b c first second third few high =
    ap short_id (number h m l a b c first second third ∙ all a b c _ (bound h a first) (bound m b second) (bound l c third) few)
    ∙ over _ (λ below. high (omega arith))

pub returns-then-high-middle-ge-NO_DIGIT-clause-value :
    goal.returns-then-high-middle-ge-NO_DIGIT-clause-value
returns-then-high-middle-ge-NO_DIGIT-clause-value c =
    fails c.args.high c.args.middle c.args.low c.digit_or_64-high.result c.digit_or_64-middle.result c.digit_or_64-low.result c.digit_or_64-high.ensures.value c.digit_or_64-middle.ensures.value c.digit_or_64-low.ensures.value c.if-high-middle-ge-NO_DIGIT.true

pub returns-in-Err-clause-value : goal.returns-in-Err-clause-value
returns-in-Err-clause-value c =
    exceeds c.args.high c.args.middle c.args.low c.digit_or_64-high.result c.digit_or_64-middle.result c.digit_or_64-low.result c.digit_or_64-high.ensures.value c.digit_or_64-middle.ensures.value c.digit_or_64-low.ensures.value c.if-high-middle-ge-NO_DIGIT.false (λ below. c.in-Err.ensures (omega arith))
