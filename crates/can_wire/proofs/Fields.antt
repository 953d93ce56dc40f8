use Rattle.std.proofs.Common.{◌≡◌, ℕ, zero, suc, ◌+◌, ◌/◌, ◌^◌, ◌<◌, Bool, true, false, List, [], ◌∷◌, ◌++◌, length, drop, get_or, refl, sym, ap, ◌∙◌, append_assoc, arith}
use Rattle.std.proofs.Math.Seq.{drop-cons}
use Rattle.can_frame.specs.Frames.{CanFrame, payload_len, payload_flags}
use Rattle.can_frame.specs.Arbitration.{arbitration_bits, low_bits, standard_bits, extended_bits}
use Rattle.can_wire.specs.Stuffing.{stuffed, stuffed_inside}
use Rattle.can_wire.specs.FrameBits.{byte_bits, bit_of, reserved_bits, classic_head, fd_head}
use Rattle.can_wire.specs.inner.Sending.{Sent, nothing_sent, flushed, sent_all, shifted_all}
use Rattle.can_wire.proofs.Counted.{sent_all-append, counted_all, counted_inside}
use Rattle.can_wire.proofs.Divided.{shifted_all-append}

-- The fields of frames, one after another.

pub standard_sent : (n r : ℕ) → r < 2 → [] ++ low_bits 1 0 ++ low_bits 11 n ++ low_bits 1 r ++ low_bits 1 0 ≡ 0 ∷ standard_bits n r
standard_sent n zero h = refl
standard_sent n (suc zero) h = refl
standard_sent n (suc (suc r)) h = absurd (omega (arith, h))

pub extended_sent : (n r : ℕ) → r < 2 → [] ++ low_bits 1 0 ++ low_bits 11 (n / 2 ^ 18) ++ low_bits 2 3 ++ low_bits 18 n ++ low_bits 1 r ≡ 0 ∷ extended_bits n r
extended_sent n zero h = refl
extended_sent n (suc zero) h = refl
extended_sent n (suc (suc r)) h = absurd (omega (arith, h))

reserved : (extended : Bool) → low_bits (1 + bit_of extended) 0 ≡ reserved_bits extended
reserved true = refl
reserved false = refl

pub classic_sent : (f : CanFrame) → (0 ∷ arbitration_bits f) ++ low_bits (1 + bit_of f.id.extended) 0 ++ low_bits 4 (payload_len f.payload) ≡ classic_head f
unfolding classic_head
classic_sent f = rw (reserved f.id.extended) refl

flag_bit : (flag : Bool) (bits : List ℕ) → bits ++ 1 ∷ 0 ∷ [] ++ low_bits 1 (bit_of flag) ≡ bits ++ 1 ∷ 0 ∷ bit_of flag ∷ []
flag_bit true bits = append_assoc bits (1 ∷ 0 ∷ []) (1 ∷ [])
flag_bit false bits = append_assoc bits (1 ∷ 0 ∷ []) (0 ∷ [])

pub fd_sent : (f : CanFrame) → (0 ∷ arbitration_bits f) ++ low_bits 2 2 ++ low_bits 1 (bit_of (payload_flags f.payload).brs) ≡ fd_head f
unfolding fd_head
fd_sent f = flag_bit (payload_flags f.payload).brs (0 ∷ arbitration_bits f)

pub control_sent : (esi : Bool) (code : ℕ) → [] ++ low_bits 1 (bit_of esi) ++ low_bits 4 code ≡ bit_of esi ∷ low_bits 4 code
control_sent true code = refl
control_sent false code = refl

-- ---- what is counted of them

-- bits that are sent after others
pub sent_two : (xs ys zs : List ℕ) (s t : Sent) → s ≡ sent_all xs nothing_sent → t ≡ sent_all ys s → zs ≡ xs ++ ys → t ≡ sent_all zs nothing_sent
sent_two xs ys zs s t one two all = rw all (two ∙ (ap (sent_all ys) one ∙ sym (sent_all-append xs ys nothing_sent)))

pub inside_count : (bits : List ℕ) (s : Sent) → s ≡ sent_all bits nothing_sent → s.count ≡ length (stuffed_inside bits)
inside_count bits s h = rw h (counted_inside bits)

pub all_count : (bits : List ℕ) (s t : Sent) → s ≡ sent_all bits nothing_sent → t ≡ flushed s → t.count ≡ length (stuffed bits)
all_count bits s t h k = rw k (rw h (counted_all bits))

-- ---- bytes, one after another

-- sending one more byte
pub sent_byte : (bytes : List ℕ) (i : ℕ) (s t : Sent) → i < length bytes → t ≡ sent_all (low_bits 8 (get_or bytes i 0)) s → sent_all (byte_bits (drop (i + 1) bytes)) t ≡ sent_all (byte_bits (drop i bytes)) s
sent_byte bytes i s t inside step =
    let next : i + 1 ≡ suc i = omega arith in
    rw (drop-cons bytes i 0 inside, next, step) (sym (sent_all-append (low_bits 8 (get_or bytes i 0)) (byte_bits (drop (suc i) bytes)) s))

-- checking one more byte
pub checked_byte : (g bytes : List ℕ) (i : ℕ) (r q : List ℕ) → i < length bytes → q ≡ shifted_all g (low_bits 8 (get_or bytes i 0)) r → shifted_all g (byte_bits (drop (i + 1) bytes)) q ≡ shifted_all g (byte_bits (drop i bytes)) r
checked_byte g bytes i r q inside step =
    let next : i + 1 ≡ suc i = omega arith in
    rw (drop-cons bytes i 0 inside, next, step) (sym (shifted_all-append g (low_bits 8 (get_or bytes i 0)) (byte_bits (drop (suc i) bytes)) r))
