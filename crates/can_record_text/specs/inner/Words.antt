use Rattle.std.specs.Prelude.{ℕ, nat_le, Bool, true, not, ◌&&◌, List, [], ◌∷◌, ◌++◌, if◌then◌else◌}

-- The words of a line (own choice).

-- A byte that ends a word: any byte up to the space (32), which includes LF.
abbrev pub is_gap : ℕ → Bool
is_gap b = nat_le b 32

-- No byte of the word ends a word.
abbrev pub is_word : List ℕ → Bool
is_word [] = true
is_word (b ∷ bs) = not (is_gap b) && is_word bs

-- The bytes before the first byte that ends a word.
unfoldable pub word : List ℕ → List ℕ
word [] = []
word (b ∷ bs) = if is_gap b then [] else b ∷ word bs

-- The bytes after the first byte that ends a word.
unfoldable pub after : List ℕ → List ℕ
after [] = []
after (b ∷ bs) = if is_gap b then bs else after bs

-- The words, with a space after each.
abbrev pub spaced : List (List ℕ) → List ℕ
spaced [] = []
spaced (w ∷ ws) = w ++ 32 ∷ [] ++ spaced ws
