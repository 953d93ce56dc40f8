use Rattle.std.proofs.Common.{◌≡◌, ◌<◌, ◌+◌, ◌*◌, ◌/◌, ◌%◌, ◌++◌, ◌∷◌, ℕ, List, length, take, drop, slice_index, slice_set, refl, arith, append_assoc}
use Rattle.std.proofs.lemmas.List.{drop_more}
use Rattle.hex.proofs.Pairs.{take-two_writes}
use Rattle.can_frame.specs.FrameText.{digit_of, pairs}
use Rattle.can_frame.proofs.DigitTables.{hexadecimal_pairs}
use Rattle.can_frame.proofs.digit_writing.write_pairs.Goals as goal

-- the pairs of the remaining bytes, from one byte on
pairs-drop : (bytes : List ℕ) (i : ℕ) → i < length bytes → slice_index bytes i < 256 → pairs (drop i bytes) ≡ digit_of (slice_index bytes i / 16) ∷ digit_of (slice_index bytes i % 16) ∷ pairs (drop (i + 1) bytes)
pairs-drop bytes i h byte =
    let high : slice_index bytes i / 16 % 16 ≡ slice_index bytes i / 16 = omega arith in
    rw (drop_more bytes i 0 h, high) refl

one_more : (bytes room : List ℕ) (i b x y : ℕ) → i < length bytes → length room ≡ 2 * length bytes → slice_index bytes i < 256 → b ≡ slice_index bytes i → x ≡ digit_of (b / 16) → y ≡ digit_of (b % 16)
    → take (2 * i) room ++ pairs (drop i bytes) ≡ pairs bytes
    → take (2 * (i + 1)) (slice_set (slice_set room (2 * i) x) (2 * i + 1) y) ++ pairs (drop (i + 1) bytes) ≡ pairs bytes
one_more bytes room i b x y h len byte same high low so_far =
    let two : 2 * (i + 1) ≡ 2 * i + 2 = omega arith in
    rw (two, take-two_writes room (2 * i) x y (omega arith), append_assoc, high, low, same) (rw (pairs-drop bytes i h byte) at so_far)

pub loop-place-preserved : goal.loop-place-preserved
loop-place-preserved c =
    let byte = c.type_inv.bytes c.loop-place.place in
    one_more c.args.bytes.now c.loop-place.room c.loop-place.place c.from-pair.result _ _ (omega arith) (omega arith) (omega arith) c.from-pair.ensures (hexadecimal_pairs.high c.from-pair.result (omega arith)) (hexadecimal_pairs.low c.from-pair.result (omega arith)) c.loop-place.invariant
