use Rattle.std.specs.Prelude.{◌≡◌, ◌≤◌, ℕ, Bool, true, List, ◌∷◌, ◌++◌, codes, Option, Some, None}

-- Refusals in the output of a bench (own choice). A refusal is `< error TEXT >`, and its text begins with a lower-case
-- letter. An error message frame has its class at that position, in digits and capital letters.

-- the text contains a refusal
pub record HasRefusal (text : List ℕ) : Type 0 where
  pub before : List ℕ
  pub letter : ℕ
  pub after : List ℕ
  pub text_is : text ≡ before ++ (codes "< error " ++ letter ∷ after)
  pub least : 97 ≤ letter
  pub most : letter ≤ 122

-- if the bytes are known, a text with a refusal was added to them, and the options are strict
abbrev pub GrowsByRefusal : Bool → Option (List ℕ) → Option (List ℕ) → Type 0
GrowsByRefusal strict (Some old) (Some new) = (strict ≡ true) × (text : List ℕ) × (new ≡ old ++ text) × HasRefusal text
GrowsByRefusal strict (Some old) None = ⊥
GrowsByRefusal strict None new = Unit {0}

-- if the bytes are known, a text without a refusal was added to them
abbrev pub GrowsQuietly : Option (List ℕ) → Option (List ℕ) → Type 0
GrowsQuietly (Some old) (Some new) = (text : List ℕ) × (new ≡ old ++ text) × (HasRefusal text → ⊥)
GrowsQuietly (Some old) None = ⊥
GrowsQuietly None new = Unit {0}
