use Rattle.std.proofs.Common.{◌≡◌, ℕ, zero, suc, ◌+◌, ◌-◌, ◌/◌, ◌≤◌, ◌==◌, true, false, List, [], ◌∷◌, ◌++◌, length, replicate, take, drop, refl, sym, ap, subst, ◌∙◌, arith, inl, inr, length-drop, take-append-drop, append_assoc}
use Rattle.std.proofs.lemmas.List.{append-nil}
use Rattle.std.proofs.lemmas.Bool.{cases_Bool}
use Rattle.std.proofs.lemmas.Bool.Decides.{Decides-eqb}
use Rattle.std.specs.Prelude.{if◌then◌else◌}
use Rattle.can_wire.specs.Stuffing.{stuffed, stuffed_after, stuffed_inside, unstuffed, unstuffed_after}

-- Lists of bits with their stuff bits.

-- ---- unstuffing

eqb_same : (x : ℕ) → (x == x) ≡ true
eqb_same x = (Decides-eqb x x).1 refl

-- a list of at most one bit
abbrev pub IsShort : List ℕ → Type 0
IsShort tail = length tail ≤ 1

-- unstuffing gives back stuffed bits, and at most one bit after them that has no stuff bit
pub unstuffed_back : (bits tail : List ℕ) (last run : ℕ) → IsShort tail → run ≤ 4 → unstuffed_after last run (stuffed_after last run bits ++ tail) ≡ bits ++ tail
unstuffed_back [] [] last run one h = refl
unstuffed_back [] (x ∷ []) last run one h =
    let short : (run == 5) ≡ false = grind (arith, Decides-eqb) in
    rw short (elim (cases_Bool (x == last)) [
      | inl here ↦ rw here refl
      | inr other ↦ rw other refl
    ])
unstuffed_back [] (x ∷ y ∷ tail) last run one h = absurd (omega (arith, one))
unstuffed_back (b ∷ bits) tail last run one h =
    let short : (run == 5) ≡ false = grind (arith, Decides-eqb) in
    elim (cases_Bool (b == last)) [
      | inl here ↦ elim (cases_Bool (run == 4)) [
        | inl full ↦
            let four : run ≡ 4 = (Decides-eqb run 4).0 full in
            rw (here, four) (rw here (ap (λ l. b ∷ l) (unstuffed_back bits tail (1 - b) 1 one (omega arith))))
        | inr part ↦
            let below : run + 1 ≤ 4 = grind (arith, Decides-eqb) in
            rw (here, part) (rw (short, here) (ap (λ l. b ∷ l) (unstuffed_back bits tail b (run + 1) one below)))
      ]
      | inr other ↦ rw other (rw (short, other) (ap (λ l. b ∷ l) (unstuffed_back bits tail b 1 one (omega arith))))
    ]

-- ---- how many there are

-- stuffing never removes a bit, and adds at most one bit for each four
pub stuffed_least : (bits : List ℕ) (last run : ℕ) → length bits ≤ length (stuffed_after last run bits)
stuffed_least [] last run = omega arith
stuffed_least (b ∷ bits) last run = elim (cases_Bool (b == last)) [
  | inl here ↦ elim (cases_Bool (run == 4)) [
    | inl full ↦ rw (here, full) (omega (arith, stuffed_least bits (1 - b) 1))
    | inr part ↦ rw (here, part) (omega (arith, stuffed_least bits b (run + 1)))
  ]
  | inr other ↦ rw other (omega (arith, stuffed_least bits b 1))
]

pub stuffed_most : (bits : List ℕ) (last run : ℕ) → run ≤ 4 → length (stuffed_after last run bits) ≤ length bits + (run + length bits - 1) / 4
stuffed_most [] last run h = omega arith
stuffed_most (b ∷ bits) last run h = elim (cases_Bool (b == last)) [
  | inl here ↦ elim (cases_Bool (run == 4)) [
    | inl full ↦
        let four : run ≡ 4 = (Decides-eqb run 4).0 full in
        rw (here, full) (omega (arith, stuffed_most bits (1 - b) 1 (omega arith), four))
    | inr part ↦
        let below : run + 1 ≤ 4 = grind (arith, Decides-eqb) in
        rw (here, part) (omega (arith, stuffed_most bits b (run + 1) below))
  ]
  | inr other ↦ rw other (omega (arith, stuffed_most bits b 1 (omega arith)))
]

-- ---- no six equal bits

-- five equal bits are never followed by a sixth, if `run` bits of the value `last` came before
abbrev pub IsBroken : ℕ → ℕ → List ℕ → Type 0
IsBroken last run [] = Unit {0}
IsBroken last run (b ∷ bits) = (b ≡ last → run + 1 ≤ 5) × IsBroken b (if b == last then run + 1 else 1) bits

differs : (b : ℕ) → ((1 - b) == b) ≡ false
differs zero = refl
differs (suc b) = grind (arith, Decides-eqb)

pub stuffed_broken : (bits tail : List ℕ) (last run : ℕ) → IsShort tail → run ≤ 4 → IsBroken last run (stuffed_after last run bits ++ tail)
stuffed_broken [] [] last run one h = tt
stuffed_broken [] (x ∷ []) last run one h = ((λ e. omega (arith, h)), tt)
stuffed_broken [] (x ∷ y ∷ tail) last run one h = absurd (omega (arith, one))
stuffed_broken (b ∷ bits) tail last run one h = elim (cases_Bool (b == last)) [
  | inl here ↦ elim (cases_Bool (run == 4)) [
    | inl full ↦ rw (here, full) (rw here ((λ e. omega (arith, h)), ((λ e. omega (arith, e)), rw (differs b) (stuffed_broken bits tail (1 - b) 1 one (omega arith)))))
    | inr part ↦
        let below : run + 1 ≤ 4 = grind (arith, Decides-eqb) in
        rw (here, part) (rw here ((λ e. omega (arith, h)), stuffed_broken bits tail b (run + 1) one below))
  ]
  | inr other ↦ rw other (rw other ((λ e. omega (arith, h)), stuffed_broken bits tail b 1 one (omega arith)))
]

-- the rest of a list without six equal bits has no six equal bits either
pub broken_after : (before : List ℕ) (last run : ℕ) (rest : List ℕ) → IsBroken last run (before ++ rest) → (l : ℕ) × (r : ℕ) × IsBroken l r rest
broken_after [] last run rest h = (last, run, h)
broken_after (b ∷ before) last run rest h = broken_after before b (if b == last then run + 1 else 1) rest h.1

-- at most five equal bits come in a row
again : (b run : ℕ) (rest : List ℕ) → IsBroken b run (b ∷ rest) → (run + 1 ≤ 5) × IsBroken b (run + 1) rest
again b run rest h = (h.0 refl, rw (eqb_same b) at h.1)

six_more : (b run : ℕ) (rest : List ℕ) → 1 ≤ run → IsBroken b run (replicate 5 b ++ rest) → ⊥
six_more b run rest some h =
    let two = again b run (replicate 4 b ++ rest) h in
    let three = again b (run + 1) (replicate 3 b ++ rest) two.1 in
    let four = again b (run + 1 + 1) (replicate 2 b ++ rest) three.1 in
    let five = again b (run + 1 + 1 + 1) (replicate 1 b ++ rest) four.1 in
    let six = again b (run + 1 + 1 + 1 + 1) rest five.1 in
    absurd (omega (arith, six.0, some))

begun : (b last run : ℕ) → 1 ≤ (if b == last then run + 1 else 1)
begun b last run = elim (cases_Bool (b == last)) [
  | inl here ↦ rw here (omega arith)
  | inr other ↦ rw other (omega arith)
]

pub no_six : (b last run : ℕ) (rest : List ℕ) → IsBroken last run (replicate 6 b ++ rest) → ⊥
no_six b last run rest h = six_more b (if b == last then run + 1 else 1) rest (begun b last run) h.1

-- ---- all bits, and all but a stuff bit after the last

last_short : (bits : List ℕ) → IsShort (drop (length bits - 1) bits)
last_short bits = omega (arith, length-drop (length bits - 1) bits)

pub unstuffed_all : (bits : List ℕ) → unstuffed (stuffed bits) ≡ bits
unstuffed_all bits = ap unstuffed (sym (append-nil (stuffed bits))) ∙ (unstuffed_back bits [] 2 0 (omega arith) (omega arith) ∙ append-nil bits)

pub unstuffed_inside : (bits : List ℕ) → unstuffed (stuffed_inside bits) ≡ bits
unstuffed_inside bits = unstuffed_back (take (length bits - 1) bits) (drop (length bits - 1) bits) 2 0 (last_short bits) (omega arith) ∙ take-append-drop (length bits - 1) bits

six_there : (bits before after : List ℕ) (b : ℕ) → IsBroken 2 0 bits → bits ≡ before ++ replicate 6 b ++ after → ⊥
six_there bits before after b broken e =
    let rest = broken_after before 2 0 (replicate 6 b ++ after) (subst (IsBroken 2 0) (e ∙ append_assoc before (replicate 6 b) after) broken) in
    no_six b rest.0 rest.1 after rest.2

pub no_six_all : (bits before after : List ℕ) (b : ℕ) → stuffed bits ≡ before ++ replicate 6 b ++ after → ⊥
no_six_all bits before after b e = six_there (stuffed bits) before after b (subst (IsBroken 2 0) (append-nil (stuffed bits)) (stuffed_broken bits [] 2 0 (omega arith) (omega arith))) e

pub no_six_inside : (bits before after : List ℕ) (b : ℕ) → stuffed_inside bits ≡ before ++ replicate 6 b ++ after → ⊥
no_six_inside bits before after b e = six_there (stuffed_inside bits) before after b (stuffed_broken (take (length bits - 1) bits) (drop (length bits - 1) bits) 2 0 (last_short bits) (omega arith)) e
