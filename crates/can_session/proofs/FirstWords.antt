-- The effect of a line that begins with one of the most frequent command words.
use Rattle.std.proofs.Common.{◌≡◌, ◌+◌, ℕ, Bool, List, ◌∷◌, length, take, drop, Option, Some, None, cond, ap, arith}
use Rattle.std.specs.Option.{option_map, option_and_then}
use Rattle.std.proofs.lemmas.Bool.{lt-ltb}
use Rattle.can_frame.specs.Moments.{moment_in}
use Rattle.can_session.specs.Orders.{Effect, Sets, Drains, asked_by_word, order_of, fed_by, parted, session_of}

-- the effect of a line, given the index of its first space and whether it has one
abbrev asked : List ℕ → ℕ → Bool → Option Effect
asked line n there = option_and_then asked_by_word (option_map (λ k. (take k line, drop (k + 1) line)) (cond there (Some n) None))

pub at_first : (rest : List ℕ) → order_of (97 ∷ 116 ∷ 32 ∷ rest) ≡ option_map Sets (moment_in rest)
at_first rest = ap (asked (97 ∷ 116 ∷ 32 ∷ rest) 2) (lt-ltb 2 (length (97 ∷ 116 ∷ 32 ∷ rest)) (omega arith))

pub feed_first : (rest : List ℕ) → order_of (102 ∷ 101 ∷ 101 ∷ 100 ∷ 32 ∷ rest) ≡ option_and_then fed_by (parted 32 rest)
feed_first rest = ap (asked (102 ∷ 101 ∷ 101 ∷ 100 ∷ 32 ∷ rest) 4) (lt-ltb 4 (length (102 ∷ 101 ∷ 101 ∷ 100 ∷ 32 ∷ rest)) (omega arith))

pub drain_first : (rest : List ℕ) → order_of (100 ∷ 114 ∷ 97 ∷ 105 ∷ 110 ∷ 32 ∷ rest) ≡ option_map Drains (session_of rest)
drain_first rest = ap (asked (100 ∷ 114 ∷ 97 ∷ 105 ∷ 110 ∷ 32 ∷ rest) 5) (lt-ltb 5 (length (100 ∷ 114 ∷ 97 ∷ 105 ∷ 110 ∷ 32 ∷ rest)) (omega arith))
