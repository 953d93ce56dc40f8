use Rattle.std.specs.Prelude.{ℕ, ◌+◌, ◌-◌, ◌==◌, List, [], ◌∷◌, ◌++◌, length, take, drop, if◌then◌else◌}

-- Bit stuffing (Bosch CAN Specification 2.0, section 6): after five consecutive bits of one value the transmitter sends
-- one of the other value, a stuff bit, which counts as the first of the next five.

-- these bits with their stuff bits, if `run` bits of the value `last` were sent just before them
abbrev pub stuffed_after : ℕ → ℕ → List ℕ → List ℕ
stuffed_after last run [] = []
stuffed_after last run (b ∷ bits) =
    if b == last
    then (if run == 4 then b ∷ (1 - b) ∷ stuffed_after (1 - b) 1 bits else b ∷ stuffed_after b (run + 1) bits)
    else b ∷ stuffed_after b 1 bits

-- bits with their stuff bits, as they are sent from start of frame on: no bit comes before the first one, so `last` is
-- 2, which is not the value of a bit
abbrev pub stuffed : List ℕ → List ℕ
stuffed bits = stuffed_after 2 0 bits

-- bits with their stuff bits, but without one after the last bit, because an unstuffed part or an error flag follows
abbrev pub stuffed_inside : List ℕ → List ℕ
stuffed_inside bits = stuffed (take (length bits - 1) bits) ++ drop (length bits - 1) bits

-- the bits that a receiver gets after dropping the bit after each five equal ones, if `run` bits of the value `last`
-- came just before
abbrev pub unstuffed_after : ℕ → ℕ → List ℕ → List ℕ
unstuffed_after last run [] = []
unstuffed_after last run (b ∷ bits) =
    if run == 5 then unstuffed_after b 1 bits
    else if b == last then b ∷ unstuffed_after b (run + 1) bits
    else b ∷ unstuffed_after b 1 bits

-- the bits that a receiver reads, without their stuff bits
abbrev pub unstuffed : List ℕ → List ℕ
unstuffed bits = unstuffed_after 2 0 bits

-- ---- fixed stuff bits (ISO 11898-1:2015, the CRC field of FD frames)

-- these bits with their fixed stuff bits, if the bit `last` comes before them and the next fixed stuff bit is due after
-- `due` bits: each fixed stuff bit is the opposite of the bit before it, and four bits lie between two of them
abbrev pub fixed_stuffed_after : ℕ → ℕ → List ℕ → List ℕ
fixed_stuffed_after last due [] = []
fixed_stuffed_after last due (b ∷ bits) =
    if due == 0 then (1 - last) ∷ b ∷ fixed_stuffed_after b 3 bits else b ∷ fixed_stuffed_after b (due - 1) bits

-- the last bit of a list, or `b` if the list is empty
abbrev pub last_of : ℕ → List ℕ → ℕ
last_of b [] = b
last_of b (c ∷ bits) = last_of c bits

-- bits, followed by others with fixed stuff bits, the first of which comes before the first of the others
abbrev pub then_fixed_stuffed : List ℕ → List ℕ → List ℕ
then_fixed_stuffed bits others = bits ++ fixed_stuffed_after (last_of 1 bits) 0 others
