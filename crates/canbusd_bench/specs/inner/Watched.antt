use Rattle.std.specs.Prelude.{◌==◌, ℕ, suc, ◌+◌, ◌-◌, nat_le, Bool, true, false, ◌&&◌, List, ◌∷◌}
use Rattle.std.specs.Prelude.{length, drop, codes, get_or, Option, Some, None, if◌then◌else◌}
use Rattle.std.specs.List.{fold}

-- The state of a watcher, given the bytes that it wrote.

-- how many of the last bytes may begin the string `< error `, after one more byte; the result is 9 once a lower-case
-- letter has followed the whole string
abbrev pub seen_after : ℕ → ℕ → ℕ
seen_after seen b =
    if seen == 9 then 9
    else if b == 60 then 1
    else if seen == 8 && (nat_le 97 b && nat_le b 122) then 9
    else if get_or (codes "< error ") seen 60 == b then seen + 1
    else 0

-- the result of `seen_after` after several more bytes
abbrev pub seen_in : ℕ → List ℕ → ℕ
seen_in seen text = fold seen_after seen text

-- whether `seen` is the count after the last `written` bytes of a text
abbrev pub saw : ℕ → ℕ → List ℕ → Bool
saw written seen text = nat_le written (length text) && (seen_in 0 (drop (length text - written) text) == seen)

-- the bytes of a watcher's writer as far as the watcher knows them, preceded by two numbers. The first number
-- identifies the writer. The second is 0 if the watcher is off; otherwise it is one more than the number of bytes when
-- it started.
abbrev pub told : ℕ → Bool → ℕ → ℕ → Option (List ℕ) → Option (List ℕ)
told name is_on written seen None = None
told name false written seen (Some text) = Some (name ∷ 0 ∷ text)
told name true written seen (Some text) =
    if saw written seen text then Some (name ∷ suc (length text - written) ∷ text) else None
