use Rattle.std.proofs.Common.{◌≡◌, ◌≤◌, ◌<◌, ◌+◌, ◌*◌, ◌∷◌, [], List, ℕ, suc, false, length, take, drop, slice_index, slice_set, Some, sym, ap, ◌∙◌, refl, arith}
use Rattle.std.proofs.lemmas.List.{length-set, take_more_set, drop_more, drop_all}
use Rattle.can_proto.specs.Words.{is_blank, words_of}
use Rattle.can_frame.specs.Numbers.{number_in}
use Rattle.can_proto.specs.Commands.{with_front, bytes_of}
use Rattle.can_proto.proofs.DataBytes.{more, ended}
use Rattle.can_proto.proofs.pairs.paired_bytes.Goals as goal

-- two bytes that are not blanks, followed by a space
pair-drop : (text : List ℕ) (k : ℕ) → k + 2 < length text → slice_index text (k + 2) ≡ 32 → is_blank (slice_index text k) ≡ false → is_blank (slice_index text (k + 1)) ≡ false
    → words_of (drop k text) ≡ (slice_index text k ∷ slice_index text (k + 1) ∷ []) ∷ words_of (drop (k + 3) text)
pair-drop text k few space high low =
    let two : k + 1 + 1 ≡ k + 2 = omega arith in
    let three : k + 2 + 1 ≡ k + 3 = omega arith in
    let first = drop_more text k 0 (omega arith) in
    let second = drop_more text (k + 1) 0 (omega arith) in
    let third = drop_more text (k + 2) 0 (omega arith) in
    rw (first, second, two, third, three, space, high, low) refl

-- one more byte is read at this index
one_more : (text bytes : List ℕ) (i b : ℕ) (words : List (List ℕ)) → i < length bytes → 3 * i + 2 < length text → slice_index text (3 * i + 2) ≡ 32 → is_blank (slice_index text (3 * i)) ≡ false → is_blank (slice_index text (3 * i + 1)) ≡ false
    → Some b ≡ number_in 16 2 (slice_index text (3 * i) ∷ slice_index text (3 * i + 1) ∷ [])
    → with_front (take i bytes) (bytes_of (words_of (drop (3 * i) text))) ≡ bytes_of words
    → with_front (take (i + 1) (slice_set bytes i b)) (bytes_of (words_of (drop (3 * (i + 1)) text))) ≡ bytes_of words
one_more text bytes i b words room few space high low byte same =
    let next : 3 * i + 3 ≡ 3 * (i + 1) = omega arith in
    let pair = pair-drop text (3 * i) (omega (arith, few)) space high low in
    rw (← next, take_more_set bytes i b room) (more (take i bytes) _ b (words_of (drop (3 * i + 3) text)) (bytes_of words) (rw pair at same) byte)

pub loop-i-preserved : goal.loop-i-preserved
loop-i-preserved g c =
    let text = c.args.text.now in
    let i = c.loop-i.i in
    let room : i < length c.loop-i.bytes = omega (arith, c.loop-i.invariant.whole, c.requires.small) in
    let inside : 3 * i + 2 < length text = omega arith in
    let space : slice_index text (3 * i + 2) ≡ 32 = omega arith in
    let solid = c.in_ok-bytes.ensures.solid in
    let pair = pair-drop text (3 * i) inside space solid.0 solid.1 in
    let count : length (words_of (drop (3 * i) text)) ≡ suc (length (words_of (drop (3 * i + 3) text))) = ap (λ (w : List (List ℕ)). length w) pair in
    let next : 3 * (i + 1) ≡ 3 * i + 3 = omega arith in
    record {
      same = one_more text c.loop-i.bytes i c.in_ok-bytes.field-0 (words_of text) room inside space solid.0 solid.1 c.in_ok-bytes.ensures.value c.loop-i.invariant.same;
      whole = simp length-set c.loop-i.invariant.whole;
      left = rw next (omega (arith, count, c.loop-i.invariant.left));
    }

-- no bytes are left after the last index
no_more : (text : List ℕ) (i : ℕ) → length text ≤ 3 * i → words_of (drop (3 * i) text) ≡ []
no_more text i le = ap words_of (drop_all (3 * i) text le)

pub returns-clause-value : goal.returns-clause-value
returns-clause-value g c =
    let done : c.loop-i.i ≡ c.args.len = omega arith in
    let none : words_of (drop (3 * c.loop-i.i) c.args.text.now) ≡ [] = no_more c.args.text.now c.loop-i.i (omega arith) in
    ended (take c.args.len c.loop-i.bytes) (words_of (drop (3 * c.loop-i.i) c.args.text.now)) _ (ap (λ (w : List (List ℕ)). length w) none) (ap (λ (n : ℕ). with_front (take n c.loop-i.bytes) (bytes_of (words_of (drop (3 * c.loop-i.i) c.args.text.now)))) (sym done) ∙ c.loop-i.invariant.same)

pub returns-clause-count : goal.returns-clause-count
returns-clause-count g c =
    let none : words_of (drop (3 * c.loop-i.i) c.args.text.now) ≡ [] = no_more c.args.text.now c.loop-i.i (omega arith) in
    let zero_left : length (words_of (drop (3 * c.loop-i.i) c.args.text.now)) ≡ 0 = ap (λ (w : List (List ℕ)). length w) none in
    omega (arith, zero_left, c.loop-i.invariant.left)
