use Rattle.std.specs.Prelude.{◌≡◌, ℕ, Bool, true, false, ◌||◌, ◌==◌, if◌then◌else◌, List, [], ◌∷◌}

-- The words of a message: its longest pieces without blanks (own choice after socketcand's protocol).

-- whether the byte is a blank: a space, tab, CR or LF
abbrev pub is_blank : ℕ → Bool
is_blank b = (b == 32 || b == 9) || (b == 13 || b == 10)

-- the byte is not a blank
abbrev pub IsSolid : ℕ → Type 0
IsSolid b = is_blank b ≡ false

-- the bytes before the first blank
abbrev pub front : List ℕ → List ℕ
front [] = []
front (b ∷ bs) = if is_blank b then [] else b ∷ front bs

-- the words of a text: a word begins at a byte that is not a blank, after a blank or at the start
abbrev pub words_after : Bool → List ℕ → List (List ℕ)
words_after was_blank [] = []
words_after was_blank (b ∷ bs) =
    if is_blank b then words_after true bs
    else if was_blank then (b ∷ front bs) ∷ words_after false bs
    else words_after false bs

-- the words of a text, in order
abbrev pub words_of : List ℕ → List (List ℕ)
words_of text = words_after true text

-- `word` is the first word of the text, and `rest` has the words after it
abbrev pub BeginsWith : List ℕ → List ℕ → List ℕ → Type 0
BeginsWith word rest text = words_of text ≡ word ∷ words_of rest
