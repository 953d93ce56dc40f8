use Rattle.std.proofs.Common.{◌≡◌, ℕ, ◌+◌, ◌-◌, ◌/◌, ◌≤◌, ◌==◌, Bool, true, false, List, [], ◌∷◌, ◌++◌, length, refl, arith, inl, inr, length-append, nat_le}
use Rattle.std.proofs.lemmas.Bool.{cases_Bool}
use Rattle.std.proofs.lemmas.Bool.Decides.{Decides-eqb}
use Rattle.can_frame.specs.Frames.{CanFrame, payload_len, payload_flags, is_fd}
use Rattle.can_wire.specs.Stuffing.{stuffed_inside, last_of, fixed_stuffed_after}
use Rattle.can_wire.specs.Division.{subtracted, check_from_one, generator_17, generator_21}
use Rattle.can_wire.specs.FrameBits.{end_bits, covered_bits, fd_head, fd_rest, fd_to_data_end, fd_stuff_bits, stuff_count, fd_generator, fd_check, fd_to_check_end, to_check_end, wire_of, by_rates, fd_bits_to_brs, bits_to_data_end, bits_to_check_end, frame_bits_of}
use Rattle.can_wire.specs.inner.Sending.{fd_check_width}
use Rattle.can_wire.proofs.Divided.{length-check_of}
use Rattle.can_wire.proofs.Counted.{inside_rises}

-- How many bits an FD frame has after its data.

-- one fixed stuff bit more for each four bits
length-fixed : (bits : List ℕ) (last due : ℕ) → due ≤ 3 → length (fixed_stuffed_after last due bits) ≡ length bits + (length bits + 3 - due) / 4
length-fixed [] last due h = omega arith
length-fixed (b ∷ bits) last due h = elim (cases_Bool (due == 0)) [
  | inl now ↦
      let none : due ≡ 0 = (Decides-eqb due 0).0 now in
      rw now (omega (arith, length-fixed bits b 3 (omega arith), none))
  | inr later ↦
      let some : 1 ≤ due = grind (arith, Decides-eqb) in
      rw later (omega (arith, length-fixed bits b (due - 1) (omega (arith, h)), some))
]

length-fd_check : (f : CanFrame) → length (fd_check f) ≡ 4 + length (fd_generator (payload_len f.payload))
unfolding fd_check
length-fd_check f =
    let count : List ℕ = stuff_count (fd_stuff_bits f) in
    let g : List ℕ = fd_generator (payload_len f.payload) in
    omega (arith, length-append count (check_from_one g (fd_to_data_end f ++ count)), length-check_of g (subtracted (1 ∷ []) (fd_to_data_end f ++ count)))

width : (n : ℕ) → 4 + length (fd_generator n) + (4 + length (fd_generator n) + 3) / 4 ≡ fd_check_width n
unfolding generator_17 generator_21
width n = elim (cases_Bool (nat_le n 16)) [
  | inl short ↦ rw short refl
  | inr long ↦ rw long refl
]

pub length-fd_to_check_end : (f : CanFrame) → length (fd_to_check_end f) ≡ length (fd_to_data_end f) + fd_check_width (payload_len f.payload)
length-fd_to_check_end f =
    let last : ℕ = last_of 1 (fd_to_data_end f) in
    omega (arith, length-append (fd_to_data_end f) (fixed_stuffed_after last 0 (fd_check f)), length-fixed (fd_check f) last 0 (omega arith), length-fd_check f, width (payload_len f.payload))

-- the bits of an FD frame, split by bit rate
pub fd_checked : (f : CanFrame) (few carried more : ℕ) → is_fd f.payload ≡ true → few ≡ fd_bits_to_brs f → carried ≡ length (fd_to_data_end f) → more ≡ fd_check_width (payload_len f.payload) → by_rates (payload_flags f.payload).brs few (carried + more) ≡ bits_to_check_end f
unfolding bits_to_check_end
fd_checked f few carried more fd head whole end =
    let all : carried + more ≡ length (fd_to_check_end f) = omega (arith, whole, end, length-fd_to_check_end f) in
    rw (fd, head, all) refl

-- the bits of a classic frame to its last data bit
pub classic_carried : (f : CanFrame) (n : ℕ) → is_fd f.payload ≡ false → n ≡ length (stuffed_inside (covered_bits f)) → record { nominal = n; fast = 0 } ≡ bits_to_data_end f
unfolding bits_to_data_end
classic_carried f n classic count = rw (classic, count) refl

-- ---- all bits of a frame

by_rates_all : (switches : Bool) (few n : ℕ) → few ≤ n → (by_rates switches few n).nominal + (by_rates switches few n).fast ≡ n
by_rates_all true few n h = omega (arith, h)
by_rates_all false few n h = omega arith

brs_within : (f : CanFrame) → fd_bits_to_brs f ≤ length (fd_to_check_end f)
brs_within f = omega (arith, inside_rises (fd_head f) (fd_rest f), length-fd_to_check_end f)

rated_all : (f : CanFrame) → (bits_to_check_end f).nominal + (bits_to_check_end f).fast ≡ length (to_check_end f)
unfolding bits_to_check_end
rated_all f = elim (cases_Bool (is_fd f.payload)) [
  | inl fd ↦ rw fd (by_rates_all (payload_flags f.payload).brs (fd_bits_to_brs f) (length (fd_to_check_end f)) (brs_within f))
  | inr classic ↦ rw classic (omega arith)
]

pub all_counted : (f : CanFrame) → (frame_bits_of f).nominal + (frame_bits_of f).fast ≡ length (wire_of f)
all_counted f = omega (arith, rated_all f, length-append (to_check_end f) end_bits)
