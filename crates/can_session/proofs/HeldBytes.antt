-- The bytes between two indexes of a list, after the first index advances or bytes are appended at the second index.
use Rattle.std.proofs.Common.{◌≡◌, ℕ, ◌+◌, ◌-◌, ◌≤◌, List, ◌++◌, length, take, drop, slice_range, refl, sym, ap, ◌∙◌, arith}
use Rattle.std.proofs.lemmas.List.{take_at, drop_at, take-append-le, drop-take, drop-drop, length-take-le}
use Rattle.std.proofs.Math.Seq.{take-add}

-- the bytes after the first `count` bytes are removed
pub fewer : (xs : List ℕ) (start end count : ℕ) → start + count ≤ end → slice_range xs (start + count) end ≡ drop count (slice_range xs start end)
fewer xs start end count inside =
    let parts : end - start ≡ count + (end - (start + count)) = omega arith in
    sym (ap (λ j. drop count (take j (drop start xs))) parts ∙ drop-take count _ (drop start xs) ∙ ap (take (end - (start + count))) (drop-drop count start xs))

-- the bytes after more bytes are appended
pub read_on : (xs ys zs : List ℕ) (end n : ℕ) → end ≤ length xs → n ≤ length ys → take (end + n) (take end xs ++ (ys ++ zs)) ≡ take end xs ++ take n ys
read_on xs ys zs end n within fits =
    let len : length (take end xs) ≡ end = length-take-le end xs within in
    take-add end n (take end xs ++ (ys ++ zs)) ∙ (rw (take_at (take end xs) (ys ++ zs) end len, drop_at (take end xs) (ys ++ zs) end len, take-append-le n ys zs fits) refl)
