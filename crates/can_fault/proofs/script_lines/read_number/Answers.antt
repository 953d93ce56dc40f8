use Rattle.std.proofs.Common.{◌≡◌, ℕ, ◌+◌, ◌*◌, ◌&&◌, Bool, true, false, cond, ltb, leb, List, [], ◌∷◌, length, Option, Some, None, ap, ◌∙◌, refl, arith}
use Rattle.std.specs.Char.{is_ascii_digit, digit_value}
use Rattle.std.specs.List.{list_all}
use Rattle.std.specs.Str.Parse.{digits_value, digits_value_after}
use Rattle.can_frame.specs.Numbers.{digit_in, number_after, number_in, one_more}
use Rattle.can_fault.specs.Scripts.{number_spelling}
use Rattle.can_fault.proofs.script_lines.read_number.Goals as goal

digit : (n d : ℕ) → is_ascii_digit d ≡ true → one_more 10 n (digit_in 10 d) ≡ Some (n * 10 + digit_value d)
digit n d is = grind arith

other : (n d : ℕ) → is_ascii_digit d ≡ false → one_more 10 n (digit_in 10 d) ≡ None
other n d not = grind arith

-- digits after a number, as texts are parsed
all : (n : ℕ) (ds : List ℕ) → number_after 10 (Some n) ds ≡ cond (list_all is_ascii_digit ds) (Some (digits_value_after 10 n ds)) None
all n [] = refl
all n (d ∷ ds) = by_digit (is_ascii_digit d) refl (all (n * 10 + digit_value d) ds)
  where
    by_digit : (b : Bool) → is_ascii_digit d ≡ b
        → number_after 10 (Some (n * 10 + digit_value d)) ds ≡ cond (list_all is_ascii_digit ds) (Some (digits_value_after 10 (n * 10 + digit_value d) ds)) None
        → number_after 10 (Some n) (d ∷ ds) ≡ cond (b && list_all is_ascii_digit ds) (Some (digits_value_after 10 n (d ∷ ds))) None
    by_digit true is rest = ap (λ (o : Option ℕ). number_after 10 o ds) (digit n d is) ∙ rest
    by_digit false not rest = ap (λ (o : Option ℕ). number_after 10 o ds) (other n d not)

spelled : (text : List ℕ) → number_in 10 8 text ≡ number_spelling text
spelled text = by_length (ltb 0 (length text)) (leb (length text) 8)
  where
    by_length : (some few : Bool) → cond (some && few) (number_after 10 (Some 0) text) None ≡ cond (some && few && list_all is_ascii_digit text) (Some (digits_value 10 text)) None
    by_length true true = all 0 text
    by_length true false = refl
    by_length false few = refl

pub returns : goal.returns
returns c = c.read_decimal.ensures.value ∙ ap (number_in 10 8) c.as_bytes.ensures.value ∙ spelled c.args.text.now
