use Rattle.std.proofs.Common.{◌≡◌, ℕ, ◌≤◌, ◌*◌, ◌+◌, ◌==◌, ◌∷◌, ◌++◌, [], Bool, true, false, ◌&&◌, if◌then◌else◌, List, Option, Some, None, Ok, length, refl, ap, arith, nat_lt, nat_le}
use Rattle.can_frame.specs.Frames.{Identifier}
use Rattle.can_frame.specs.Numbers.{digit_in, one_more, number_after, number_in}
use Rattle.can_proto.specs.Words.{is_blank, front, words_after, words_of}
use Rattle.can_proto.specs.Commands.{short_id, long_id, id_of}

-- If every digit has a property, every byte of a word that spells a number has this property.

-- every byte has the property
abbrev pub Each : (ℕ → Type 0) → List ℕ → Type 0
Each P [] = Unit {0}
Each P (b ∷ bs) = P b × Each P bs

digits-after : (P : ℕ → Type 0) → ((b v : ℕ) → digit_in 16 b ≡ Some v → P b) → (n : Option ℕ) (word : List ℕ) (v : ℕ) → number_after 16 n word ≡ Some v → Each P word
digits-after P each None word v h = absurd cc
digits-after P each (Some n) [] v h = tt
digits-after P each (Some n) (d ∷ ds) v h = by (digit_in 16 d) refl h (λ m e. digits-after P each m ds v e)
  where
    by : (digit : Option ℕ) → digit_in 16 d ≡ digit → number_after 16 (one_more 16 n digit) ds ≡ Some v → ((m : Option ℕ) → number_after 16 m ds ≡ Some v → Each P ds) → Each P (d ∷ ds)
    by None is e again = absurd cc
    by (Some x) is e again = (each d x is, again (Some (n * 16 + x)) e)

pub of-digits : (P : ℕ → Type 0) → ((b v : ℕ) → digit_in 16 b ≡ Some v → P b) → (most : ℕ) (word : List ℕ) (v : ℕ) → number_in 16 most word ≡ Some v → Each P word
of-digits P each most word v h = by (nat_lt 0 (length word) && nat_le (length word) most) h
  where
    by : (fits : Bool) → (if fits then number_after 16 (Some 0) word else None) ≡ Some v → Each P word
    by true e = digits-after P each (Some 0) word v e
    by false e = absurd cc

pub of-id : (P : ℕ → Type 0) → ((b v : ℕ) → digit_in 16 b ≡ Some v → P b) → (word : List ℕ) (id : Identifier) → id_of word ≡ Ok id → Each P word
unfolding id_of
of-id P each word id h = by (length word == 8) h
  where
    short : (n : Option ℕ) → number_in 16 3 word ≡ n → short_id n ≡ Ok id → Each P word
    short None is e = absurd cc
    short (Some v) is e = of-digits P each 3 word v is

    long : (n : Option ℕ) → number_in 16 8 word ≡ n → long_id n ≡ Ok id → Each P word
    long None is e = absurd cc
    long (Some v) is e = of-digits P each 8 word v is

    by : (b : Bool) → (if b then long_id (number_in 16 8 word) else short_id (number_in 16 3 word)) ≡ Ok id → Each P word
    by true e = long (number_in 16 8 word) refl e
    by false e = short (number_in 16 3 word) refl e

-- the word of an identifier ends before a space

digit-solid : (b v : ℕ) → digit_in 16 b ≡ Some v → is_blank b ≡ false
digit-solid b v h = grind arith

front-solid : (word tail : List ℕ) → Each (λ b. is_blank b ≡ false) word → front (word ++ 32 ∷ tail) ≡ word
front-solid [] tail h = refl
front-solid (b ∷ bs) tail h = rw h.0 (ap (λ (x : List ℕ). b ∷ x) (front-solid bs tail h.1))

after-solid : (word tail : List ℕ) → Each (λ b. is_blank b ≡ false) word → words_after false (word ++ 32 ∷ tail) ≡ words_of tail
after-solid [] tail h = refl
after-solid (b ∷ bs) tail h = rw h.0 (after-solid bs tail h.1)

first-solid : (word tail : List ℕ) → 1 ≤ length word → Each (λ b. is_blank b ≡ false) word → words_of (word ++ 32 ∷ tail) ≡ word ∷ words_of tail
first-solid [] tail some h = absurd (omega arith)
first-solid (b ∷ bs) tail some h = rw (h.0, front-solid bs tail h.1, after-solid bs tail h.1) refl

pub first-id : (word tail : List ℕ) (id : Identifier) → 1 ≤ length word → id_of word ≡ Ok id → words_of (word ++ 32 ∷ tail) ≡ word ∷ words_of tail
first-id word tail id some h = first-solid word tail some (of-id (λ b. is_blank b ≡ false) digit-solid word id h)
