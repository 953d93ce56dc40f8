use Rattle.std.proofs.Common.{◌≡◌, ℕ, Bool, true, false, if◌then◌else◌, List, [], ◌∷◌, ◌++◌, refl, sym, ap, ◌∙◌}

-- Texts that are split at marks.

-- the text has no mark
abbrev pub clear : (ℕ → Bool) → List ℕ → Bool
clear mark [] = true
clear mark (b ∷ bs) = if mark b then false else clear mark bs

-- the bytes before the first mark
abbrev up_to : (ℕ → Bool) → List ℕ → List ℕ
up_to mark [] = []
up_to mark (b ∷ bs) = if mark b then [] else b ∷ up_to mark bs

-- the bytes after the first mark
abbrev past : (ℕ → Bool) → List ℕ → List ℕ
past mark [] = []
past mark (b ∷ bs) = if mark b then bs else past mark bs

pub clear_parts : (x y : Bool) → (if x then false else y) ≡ true → (x ≡ false) × (y ≡ true)
clear_parts true y h = absurd cc
clear_parts false y h = (refl, h)

pub clear-append : (mark : ℕ → Bool) (xs ys : List ℕ) → clear mark xs ≡ true → clear mark ys ≡ true → clear mark (xs ++ ys) ≡ true
clear-append mark [] ys h k = k
clear-append mark (b ∷ bs) ys h k =
    let parts = clear_parts (mark b) (clear mark bs) h in
    rw (parts.0, clear-append mark bs ys parts.1 k) refl

pub clear-one : (mark : ℕ → Bool) (b : ℕ) → mark b ≡ false → clear mark (b ∷ []) ≡ true
clear-one mark b h = rw h refl

up_to-cut : (mark : ℕ → Bool) (sep : ℕ) (xs rest : List ℕ) → mark sep ≡ true → clear mark xs ≡ true → up_to mark (xs ++ sep ∷ rest) ≡ xs
up_to-cut mark sep [] rest is h = rw is refl
up_to-cut mark sep (b ∷ bs) rest is h =
    let parts = clear_parts (mark b) (clear mark bs) h in
    rw (parts.0, up_to-cut mark sep bs rest is parts.1) refl

past-cut : (mark : ℕ → Bool) (sep : ℕ) (xs rest : List ℕ) → mark sep ≡ true → clear mark xs ≡ true → past mark (xs ++ sep ∷ rest) ≡ rest
past-cut mark sep [] rest is h = rw is refl
past-cut mark sep (b ∷ bs) rest is h =
    let parts = clear_parts (mark b) (clear mark bs) h in
    rw (parts.0, past-cut mark sep bs rest is parts.1) refl

-- if two equal texts are split at their first marks, the parts are equal
pub cut : (mark : ℕ → Bool) (sep : ℕ) (xs ys rest last : List ℕ) → mark sep ≡ true → clear mark xs ≡ true → clear mark ys ≡ true → xs ++ sep ∷ rest ≡ ys ++ sep ∷ last → (xs ≡ ys) × (rest ≡ last)
cut mark sep xs ys rest last is cx cy e = (
  sym (up_to-cut mark sep xs rest is cx) ∙ ap (up_to mark) e ∙ up_to-cut mark sep ys last is cy,
  sym (past-cut mark sep xs rest is cx) ∙ ap (past mark) e ∙ past-cut mark sep ys last is cy,
)

-- a text that contains a mark

stays : (x y : Bool) → y ≡ false → (if x then false else y) ≡ false
stays true y h = refl
stays false y h = h

passes : (x y z : Bool) → (y ≡ false → z ≡ false) → (if x then false else y) ≡ false → (if x then false else z) ≡ false
passes true y z h k = refl
passes false y z h k = h k

pub marked-left : (mark : ℕ → Bool) (xs ys : List ℕ) → clear mark xs ≡ false → clear mark (xs ++ ys) ≡ false
marked-left mark [] ys h = absurd cc
marked-left mark (b ∷ bs) ys h = passes (mark b) (clear mark bs) (clear mark (bs ++ ys)) (λ k. marked-left mark bs ys k) h

pub marked-right : (mark : ℕ → Bool) (xs ys : List ℕ) → clear mark ys ≡ false → clear mark (xs ++ ys) ≡ false
marked-right mark [] ys h = h
marked-right mark (b ∷ bs) ys h = stays (mark b) (clear mark (bs ++ ys)) (marked-right mark bs ys h)
