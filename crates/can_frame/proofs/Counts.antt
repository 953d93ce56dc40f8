-- How often a byte occurs in a text.
use Rattle.std.proofs.Common.{◌≡◌, ℕ, ◌+◌, ◌<◌, ◌≤◌, ◌==◌, List, length, take, drop, get_or, cond}
use Rattle.std.specs.List.{count_by}
use Rattle.std.proofs.lemmas.List.Sums.{sum_by_more, sum_by-take-drop, count_by-le-length}

-- counting one more byte
pub counted_more : (mark : ℕ) (text : List ℕ) (i : ℕ) → i < length text → count_by (λ b. b == mark) (take (i + 1) text) ≡ count_by (λ b. b == mark) (take i text) + cond (get_or text i 0 == mark) 1 0
counted_more mark text i inside = sum_by_more (λ b. cond (b == mark) 1 0) text i 0 inside

-- the count of a text is the sum of the counts of its two parts
pub counted_parts : (mark : ℕ) (text : List ℕ) (n : ℕ) → count_by (λ b. b == mark) (take n text) + count_by (λ b. b == mark) (drop n text) ≡ count_by (λ b. b == mark) text
counted_parts mark text n = sum_by-take-drop (λ b. cond (b == mark) 1 0) text n

-- the count is at most the number of bytes
pub counted_few : (mark : ℕ) (text : List ℕ) → count_by (λ b. b == mark) text ≤ length text
counted_few mark text = count_by-le-length (λ b. b == mark) text
