use Rattle.std.proofs.Common.{◌≡◌, ◌≢◌, ℕ, ◌-◌, ◌+◌, ◌≤◌, ◌==◌, ◌||◌, suc, Bool, true, false, if◌then◌else◌, List, [], ◌∷◌, ◌++◌, length, take, drop, get_or, refl, sym, ap, ◌∙◌, arith}
use Rattle.std.proofs.lemmas.Grind.{common_steps}
use Rattle.std.proofs.lemmas.List.{take_more, take_all}
use Rattle.can_session.specs.IgnoredInput.{begun_after, has_outside}
use Rattle.can_proto.specs.Messages.{has_mark}

-- one more byte at the end: a mark decides whether a message is open, and any other byte changes nothing
begun_at_last : (begun : Bool) (bytes : List ℕ) (b : ℕ) → begun_after begun (bytes ++ b ∷ []) ≡ (if b == 60 then true else if b == 62 then false else begun_after begun bytes)
begun_at_last begun [] b = refl
begun_at_last begun (x ∷ bytes) b = begun_at_last (if x == 60 then true else if x == 62 then false else begun) bytes b

parted : (bytes : List ℕ) → 1 ≤ length bytes → bytes ≡ take (length bytes - 1) bytes ++ get_or bytes (length bytes - 1) 0 ∷ []
parted bytes some =
    let len : length bytes - 1 + 1 ≡ length bytes = omega (arith, some) in
    sym (ap (λ (n : ℕ). take n bytes) len ∙ take_all (length bytes) bytes (omega arith)) ∙ take_more bytes (length bytes - 1) 0 (omega (arith, some))

-- if the last byte is a mark, it decides whether a message is open
pub last_decides : (begun : Bool) (bytes : List ℕ) (b : ℕ) → 1 ≤ length bytes → get_or bytes (length bytes - 1) 0 ≡ b
    → begun_after begun bytes ≡ (if b == 60 then true else if b == 62 then false else begun_after begun (take (length bytes - 1) bytes))
last_decides begun bytes b some is =
    ap (begun_after begun) (parted bytes some) ∙ begun_at_last begun (take (length bytes - 1) bytes) (get_or bytes (length bytes - 1) 0)
    ∙ ap (λ (n : ℕ). if n == 60 then true else if n == 62 then false else begun_after begun (take (length bytes - 1) bytes)) is

no_mark : (A : Type 0) (b : ℕ) (x y z : A) → b ≢ 60 → b ≢ 62 → (if b == 60 then x else if b == 62 then y else z) ≡ z
no_mark A b x y z m n = grind (arith, common_steps, m, n)

-- a last byte that is not a mark changes nothing
pub last_leaves : (begun : Bool) (bytes : List ℕ) → 1 ≤ length bytes → get_or bytes (length bytes - 1) 0 ≢ 60 → get_or bytes (length bytes - 1) 0 ≢ 62
    → begun_after begun (take (length bytes - 1) bytes) ≡ begun_after begun bytes
last_leaves begun bytes some m n =
    let front = begun_after begun (take (length bytes - 1) bytes) in
    sym (last_decides begun bytes (get_or bytes (length bytes - 1) 0) some refl ∙ no_mark Bool (get_or bytes (length bytes - 1) 0) true false front m n)

none_of : (a b c : Bool) → ((a || b) || c) ≡ false → (a ≡ false) × ((b ≡ false) × (c ≡ false))
none_of a b c h = grind (arith, common_steps, h)

-- after a `<`, bytes without marks and the `>` after them are inside a message
pub closed : (inside rest : List ℕ) → has_mark inside ≡ false → has_outside true (inside ++ 62 ∷ rest) ≡ has_outside false rest
closed [] rest none = refl
closed (x ∷ inside) rest none =
    let h = none_of (x == 60) (x == 62) (has_mark inside) none in
    ap (λ (m : Bool). if m then true else has_outside (if x == 62 then false else true) (inside ++ 62 ∷ rest)) h.0
    ∙ ap (λ (m : Bool). has_outside (if m then false else true) (inside ++ 62 ∷ rest)) h.1.0 ∙ closed inside rest h.1.1

-- a piece that is exactly one message has no bytes outside messages
pub whole : (bytes : List ℕ) → 2 ≤ length bytes → get_or bytes 0 0 ≡ 60 → get_or bytes (length bytes - 1) 0 ≡ 62
    → has_mark (take (length bytes - 1 - 1) (drop 1 bytes)) ≡ false → has_outside false bytes ≡ false
whole [] some first last none = absurd (omega (arith, some))
whole (b ∷ rest) some first last none =
    let place : length (b ∷ rest) - 1 ≡ suc (length rest - 1) = omega (arith, some) in
    let len : length (b ∷ rest) - 1 - 1 ≡ length rest - 1 = omega (arith, some) in
    let end : get_or rest (length rest - 1) 0 ≡ 62 = sym (ap (λ (n : ℕ). get_or (b ∷ rest) n 0) place) ∙ last in
    ap (λ (x : ℕ). has_outside false (x ∷ rest)) first
    ∙ ap (has_outside true) (parted rest (omega (arith, some)) ∙ ap (λ (x : ℕ). take (length rest - 1) rest ++ x ∷ []) end)
    ∙ closed (take (length rest - 1) rest) [] (ap (λ (n : ℕ). has_mark (take n rest)) (sym len) ∙ none)
