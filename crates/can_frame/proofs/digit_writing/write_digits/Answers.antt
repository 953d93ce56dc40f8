use Rattle.std.proofs.Common.{◌≡◌, ◌≤◌, ◌<◌, ◌+◌, ◌-◌, ◌*◌, ◌/◌, ◌%◌, ◌++◌, ◌∷◌, [], ℕ, zero, suc, List, length, drop, slice_set, refl, sym, ◌∙◌, arith, append_assoc}
use Rattle.std.proofs.Math.Nat.{div-div-eq-div-mul, mul-add-mod_self_right, mod-mod}
use Rattle.std.proofs.Math.Arith.{mod-mul}
use Rattle.std.proofs.lemmas.Nat.{div-mul-add, mod_below, mul-le}
use Rattle.std.proofs.lemmas.List.{drop-set, length-set, set_comm}
use Rattle.can_frame.specs.FrameText.{digits, digit_of}
use Rattle.can_frame.proofs.digit_writing.write_digits.Goals as goal

-- two bytes that are written come just before the rest
written : (room : List ℕ) (place x y : ℕ) → 2 ≤ place → place ≤ length room → drop (place - 2) (slice_set (slice_set room (place - 2) x) (place - 2 + 1) y) ≡ x ∷ y ∷ drop place room
written room place x y few le =
    let back : place - 2 + 1 + 1 ≡ place = omega arith in
    let second : place - 2 + 1 < length room = omega arith in
    let first : place - 2 < length (slice_set room (place - 2 + 1) y) = omega (arith, length-set room (place - 2 + 1) y) in
    rw (set_comm room (place - 2) (place - 2 + 1) x y (λ e. omega arith), drop-set (slice_set room (place - 2 + 1) y) (place - 2) x first, drop-set room (place - 2 + 1) y second, back) refl

-- the two digits of the remainder by the square of the base
high_digit : (base n : ℕ) → 0 < base → n % (base * base) / base ≡ n / base % base
high_digit base n pos = rw (mod-mul n {m = base} {c = base} pos pos) (div-mul-add (n / base % base) base (n % base) (mod_below n base pos))

low_digit : (base n : ℕ) → 0 < base → n % (base * base) % base ≡ n % base
low_digit base n pos = rw (mod-mul n {m = base} {c = base} pos pos) (mul-add-mod_self_right (n / base % base) base (n % base) ∙ mod-mod n base)

-- the last two digits can be split off from the others
last_apart : (base place n : ℕ) → 0 < base → 2 ≤ place → digits base place n ≡ digits base (place - 2) (n / (base * base)) ++ digit_of (n % (base * base) / base) ∷ digit_of (n % (base * base) % base) ∷ []
last_apart base zero n pos few = absurd (omega (arith, few))
last_apart base (suc zero) n pos few = absurd (omega (arith, few))
last_apart base (suc (suc k)) n pos few =
    let back : suc (suc k) - 2 ≡ k = omega arith in
    rw (high_digit base n pos, low_digit base n pos, back, ← div-div-eq-div-mul n base base) (append_assoc (digits base k (n / base / base)) (digit_of (n / base % base) ∷ []) (digit_of (n % base) ∷ []))

two_more : (base place n x y : ℕ) (all room : List ℕ) → 0 < base → 2 ≤ place → place ≤ length room → x ≡ digit_of (n % (base * base) / base) → y ≡ digit_of (n % (base * base) % base) → all ≡ digits base place n ++ drop place room → all ≡ digits base (place - 2) (n / (base * base)) ++ drop (place - 2) (slice_set (slice_set room (place - 2) x) (place - 2 + 1) y)
two_more base place n x y all room pos few le high low so_far =
    so_far ∙ rw (last_apart base place n pos few, written room place x y few le, high, low) (append_assoc (digits base (place - 2) (n / (base * base))) (digit_of (n % (base * base) / base) ∷ digit_of (n % (base * base) % base) ∷ []) (drop place room))

-- a byte that is written first comes before the rest
first_written : (room : List ℕ) (d : ℕ) → 1 ≤ length room → slice_set room 0 d ≡ d ∷ drop 1 room
first_written [] d some = absurd (omega (arith, some))
first_written (x ∷ room) d some = refl

-- the first of an odd number of digits
last_one : (base place n d : ℕ) (all room : List ℕ) → place ≡ 1 → 1 ≤ length room → d ≡ digit_of (n % base) → all ≡ digits base place n ++ drop place room → slice_set room 0 d ≡ all
last_one base place n d all room one some digit so_far = first_written room d some ∙ rw digit (sym (rw one at so_far))

below_square : (base n : ℕ) → 2 ≤ base → n % (base * base) < base * base
below_square base n low = mod_below n (base * base) (omega (arith, mul-le 1 1 base base (omega (arith, low)) (omega (arith, low))))

digit_below : (base n : ℕ) → 2 ≤ base → n % base < base * base
digit_below base n low = omega (arith, mod_below n base (omega (arith, low)), mul-le 1 base base base (omega (arith, low)) (omega arith))

pub loop-place-preserved : goal.loop-place-preserved
loop-place-preserved g c =
    let base : ℕ = g.row.BASE in
    let left : ℕ = c.loop-place.left in
    let small : left % (base * base) < base * base = below_square base left c.requires.low in
    record {
      inside = simp length-set (omega arith);
      same = two_more base c.loop-place.place left _ _ _ c.loop-place.room (omega (arith, c.requires.low)) c.loop-place-test.true c.loop-place.invariant.inside (c.requires.table.high (left % (base * base)) small) (c.requires.table.low (left % (base * base)) small) c.loop-place.invariant.same;
    }

pub returns-then-place-eq1-clause-text : goal.returns-then-place-eq1-clause-text
returns-then-place-eq1-clause-text g c =
    let base : ℕ = g.row.BASE in
    let last : ℕ = c.loop-place.left % base in
    let digit = rw (mod-mod c.loop-place.left base) at (c.requires.table.low last (digit_below base c.loop-place.left c.requires.low)) in
    last_one base c.loop-place.place c.loop-place.left _ _ c.loop-place.room c.if-place-eq1.true (omega (arith, c.loop-place.invariant.inside)) digit c.loop-place.invariant.same
