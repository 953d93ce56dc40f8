use Rattle.std.proofs.Common.{◌≡◌, ℕ, zero, suc, ◌+◌, ◌-◌, ◌*◌, ◌/◌, ◌%◌, ◌^◌, ◌<◌, ◌≤◌, ◌==◌, bit_and, bit_xor, Bool, true, false, List, [], ◌∷◌, ◌++◌, length, replicate, map, drop, get_or, refl, sym, ap, subst, ◌∙◌, append_assoc, arith, length-append}
use Rattle.std.proofs.Math.Seq.{drop-cons}
use Rattle.std.proofs.lemmas.List.{length-map}
use Rattle.std.proofs.lemmas.Nat.{and_mask}
use Rattle.std.specs.Int.{bit_at}
use Rattle.can_frame.specs.Frames.{CanFrame, payload_len, payload_bytes, payload_flags}
use Rattle.can_frame.specs.Arbitration.{arbitration_bits, low_bits}
use Rattle.can_frame.proofs.Bits.{IsBits, IsBits-append, IsBits-low_bits, length-low_bits}
use Rattle.can_wire.specs.Division.{check_of, check_from_one, generator_15}
use Rattle.can_wire.specs.FrameBits.{bit_of, byte_bits, stuff_count, covered_bits, checked_bits, fd_head, fd_rest, fd_code}
use Rattle.can_wire.specs.inner.Sending.{shifted_all}
use Rattle.can_wire.proofs.Divided.{IsBits-byte_bits, length-byte_bits, shifted_all-append}
use Rattle.can_wire.proofs.Fields.{classic_sent, fd_sent, control_sent}
use Rattle.can_wire.proofs.Words.{low_bits_step}
use Rattle.can_bits.specs.declared.bit.Bit.{Bit}
use Rattle.can_bits.specs.declared.bit.Field.{Field}
use Rattle.can_bits.specs.declared.bit.Field.TheVariants.{RemoteRequest, RemoteSubstitution, Reserved, FdFormat, FdReserved, BitRateSwitch, ErrorState, LengthCode, Data, StuffCount, Crc}
use Rattle.can_bits.specs.Fields.{first_fields, reserved_fields, data_fields, covered_fields, classic_fields, fd_head_fields, fd_rest_fields, check_fields}
use Rattle.can_bits.specs.Sent.{levels}
use Rattle.can_bits.specs.inner.Sending.{in_field, fields_in, AreFields, Adds}
use Rattle.can_bits.proofs.Levels.{levels-append}
use Rattle.can_bits.proofs.Marked.{fields-append}
use Rattle.can_bits.proofs.Divided.{from_zeros, from_one, low_15, values_are_bits}

-- The bits of fields, one field after another.

pub in_field-append : (field : Field) (xs ys : List ℕ) → in_field field (xs ++ ys) ≡ in_field field xs ++ in_field field ys
in_field-append field [] ys = refl
in_field-append field (x ∷ xs) ys = ap (λ (bits : List Bit). record { field = field; is_recessive = x == 1; is_stuff = false; is_fast = false } ∷ bits) (in_field-append field xs ys)

-- one more bit of a field
pub field_step : (field : Field) (n place : ℕ) (all old new : List Bit) (x : Bit) → 0 < place →
    x ≡ record { field = field; is_recessive = bit_and (n / 2 ^ (place - 1)) 1 == 1; is_stuff = false; is_fast = false } →
    new ≡ old ++ x ∷ [] → old ++ in_field field (low_bits place n) ≡ all → new ++ in_field field (low_bits (place - 1) n) ≡ all
field_step field n place all old new x some is more before =
    let rest : List Bit = in_field field (low_bits (place - 1) n) in
    let bit : Bit = record { field = field; is_recessive = bit_at n (place - 1) == 1; is_stuff = false; is_fast = false } in
    let same : x ≡ bit = is ∙ ap (λ (b : ℕ). record { field = field; is_recessive = b == 1; is_stuff = false; is_fast = false }) (and_mask (n / 2 ^ (place - 1)) 1) in
    rw (more, same) (append_assoc old (bit ∷ []) rest ∙ rw (low_bits_step place n some) at before)

-- one more byte
pub byte_step : (bytes : List ℕ) (i : ℕ) (all old new : List Bit) → i < length bytes → new ≡ old ++ in_field Data (low_bits 8 (get_or bytes i 0)) →
    old ++ in_field Data (byte_bits (drop i bytes)) ≡ all → new ++ in_field Data (byte_bits (drop (i + 1) bytes)) ≡ all
byte_step bytes i all old new inside more before =
    let next : i + 1 ≡ suc i = omega arith in
    let byte : List ℕ = low_bits 8 (get_or bytes i 0) in
    let rest : List ℕ = byte_bits (drop (suc i) bytes) in
    rw (next, more) (append_assoc old (in_field Data byte) (in_field Data rest) ∙ (ap (λ (bits : List Bit). old ++ bits) (sym (in_field-append Data byte rest)) ∙ rw (drop-cons bytes i 0 inside) at before))

-- ---- the fields and the values of bits

one_value : (x : ℕ) → x < 2 → bit_of (x == 1) ≡ x
one_value zero h = refl
one_value (suc zero) h = refl
one_value (suc (suc x)) h = absurd (omega (arith, h))

pub field_values : (field : Field) (xs : List ℕ) → IsBits xs → levels (in_field field xs) ≡ xs
field_values field [] h = refl
field_values field (x ∷ xs) h = ap (λ (v : ℕ). v ∷ levels (in_field field xs)) (one_value x h.0) ∙ ap (λ (v : List ℕ). x ∷ v) (field_values field xs h.1)

pub field_fields : (field : Field) (xs : List ℕ) → fields_in (in_field field xs) ≡ replicate (length xs) field
field_fields field [] = refl
field_fields field (x ∷ xs) = ap (λ (fs : List Field). field ∷ fs) (field_fields field xs)

-- the bits of a field are added
adds_bits : (field : Field) (xs : List ℕ) (old new : List Bit) → IsBits xs → new ≡ old ++ in_field field xs → Adds old new (replicate (length xs) field) xs
adds_bits field xs old new h is = record {
  fields = ap fields_in is ∙ (fields-append old (in_field field xs) ∙ ap (λ (fs : List Field). fields_in old ++ fs) (field_fields field xs));
  values = ap levels is ∙ (levels-append old (in_field field xs) ∙ ap (λ (v : List ℕ). levels old ++ v) (field_values field xs h));
}

pub adds_field : (field : Field) (k n : ℕ) (old new : List Bit) → new ≡ old ++ in_field field (low_bits k n) → Adds old new (replicate k field) (low_bits k n)
adds_field field k n old new is =
    subst (λ (m : ℕ). Adds old new (replicate m field) (low_bits k n)) (length-low_bits k n) (adds_bits field (low_bits k n) old new (IsBits-low_bits k n) is)

pub adds_bytes : (bytes : List ℕ) (old new : List Bit) → new ≡ old ++ in_field Data (byte_bits bytes) → Adds old new (replicate (8 * length bytes) Data) (byte_bits bytes)
adds_bytes bytes old new is =
    subst (λ (m : ℕ). Adds old new (replicate m Data) (byte_bits bytes)) (length-byte_bits bytes) (adds_bits Data (byte_bits bytes) old new (IsBits-byte_bits bytes) is)

-- the bits of two lists of fields are added, one after the other
pub adds_both : (a b c : List Bit) (fs gs : List Field) (xs ys : List ℕ) → Adds a b fs xs → Adds b c gs ys → Adds a c (fs ++ gs) (xs ++ ys)
adds_both a b c fs gs xs ys one two = record {
  fields = two.fields ∙ (ap (λ (l : List Field). l ++ gs) one.fields ∙ append_assoc (fields_in a) fs gs);
  values = two.values ∙ (ap (λ (l : List ℕ). l ++ ys) one.values ∙ append_assoc (levels a) xs ys);
}

-- the added bits are all bits, because there was none before
pub all_added : (a b : List Bit) (fs : List Field) (xs : List ℕ) → a ≡ [] → Adds a b fs xs → AreFields b fs xs
all_added a b fs xs none adds = record {
  fields = adds.fields ∙ ap (λ (l : List Bit). fields_in l ++ fs) none;
  values = adds.values ∙ ap (λ (l : List Bit). levels l ++ xs) none;
}

-- bits with known fields, and bits that are added after them
pub fields_then : (a b : List Bit) (fs gs : List Field) (xs ys : List ℕ) → AreFields a fs xs → Adds a b gs ys → AreFields b (fs ++ gs) (xs ++ ys)
fields_then a b fs gs xs ys are adds = record {
  fields = adds.fields ∙ ap (λ (l : List Field). l ++ gs) are.fields;
  values = adds.values ∙ ap (λ (l : List ℕ). l ++ ys) are.values;
}

-- ---- whole parts of frames

reserved_laid : (extended : Bool) → replicate (1 + bit_of extended) Reserved ≡ reserved_fields extended
reserved_laid true = refl
reserved_laid false = refl

-- a classic frame to its last data bit
pub covered_laid : (f : CanFrame) (a b c d e : List Bit) (reserved len : ℕ) → a ≡ [] → Adds a b (first_fields f.id.extended RemoteRequest) (0 ∷ arbitration_bits f) →
    c ≡ b ++ in_field Reserved (low_bits (1 + reserved) 0) → reserved ≡ bit_of f.id.extended → d ≡ c ++ in_field LengthCode (low_bits 4 len) → len ≡ payload_len f.payload →
    e ≡ d ++ in_field Data (byte_bits (payload_bytes f.payload)) → AreFields e (covered_fields f) (covered_bits f)
covered_laid f a b c d e reserved len none first second reserved_is third len_is fourth =
    let two = adds_both _ _ _ _ _ _ _ first (adds_field Reserved (1 + reserved) 0 b c second) in
    let three = adds_both _ _ _ _ _ _ _ two (adds_field LengthCode 4 len c d third) in
    let four = adds_both _ _ _ _ _ _ _ three (adds_bytes (payload_bytes f.payload) d e fourth) in
    let all = all_added a e _ _ none four in
    let fields : first_fields f.id.extended RemoteRequest ++ replicate (1 + reserved) Reserved ++ replicate 4 LengthCode ++ data_fields f ≡ covered_fields f = rw (reserved_is, reserved_laid f.id.extended) refl in
    let values : (0 ∷ arbitration_bits f) ++ low_bits (1 + reserved) 0 ++ low_bits 4 len ++ byte_bits (payload_bytes f.payload) ≡ covered_bits f = rw (reserved_is, len_is) (ap (λ (l : List ℕ). l ++ byte_bits (payload_bytes f.payload)) (classic_sent f)) in
    record { fields = all.fields ∙ fields; values = all.values ∙ values }

-- a classic frame with its CRC
pub classic_laid : (f : CanFrame) (covered all : List Bit) (crc : ℕ) → AreFields covered (covered_fields f) (covered_bits f) →
    low_bits 15 crc ≡ shifted_all (low_bits 15 17817) (levels covered) (low_bits 15 0) → all ≡ covered ++ in_field Crc (low_bits 15 crc) → AreFields all (classic_fields f) (checked_bits f)
classic_laid f covered all crc are check added =
    let laid = fields_then covered all _ _ _ _ are (adds_field Crc 15 crc covered all added) in
    let long : length generator_15 ≡ 15 = ap (λ (l : List ℕ). length l) (sym low_15) ∙ length-low_bits 15 17817 in
    let bits : IsBits generator_15 = subst IsBits low_15 (IsBits-low_bits 15 17817) in
    let same : low_bits 15 crc ≡ check_of generator_15 (covered_bits f) = check ∙ (ap (λ (g : List ℕ). shifted_all g (levels covered) (replicate 15 0)) low_15 ∙ (from_zeros generator_15 (levels covered) 15 (omega arith) bits long (values_are_bits covered) ∙ ap (check_of generator_15) are.values)) in
    record { fields = laid.fields; values = laid.values ∙ ap (λ (l : List ℕ). covered_bits f ++ l) same }

-- an FD frame from start of frame to BRS
pub head_laid : (f : CanFrame) (a b c d e : List Bit) (brs : ℕ) → a ≡ [] → Adds a b (first_fields f.id.extended RemoteSubstitution) (0 ∷ arbitration_bits f) →
    c ≡ b ++ in_field FdFormat (low_bits 1 1) → d ≡ c ++ in_field FdReserved (low_bits 1 0) → e ≡ d ++ in_field BitRateSwitch (low_bits 1 brs) → brs ≡ bit_of (payload_flags f.payload).brs →
    AreFields e (fd_head_fields f) (fd_head f)
head_laid f a b c d e brs none first second third fourth brs_is =
    let front : List ℕ = 0 ∷ arbitration_bits f in
    let named : List Field = first_fields f.id.extended RemoteSubstitution in
    let two = adds_both _ _ _ _ _ _ _ first (adds_field FdFormat 1 1 b c second) in
    let three = adds_both _ _ _ _ _ _ _ two (adds_field FdReserved 1 0 c d third) in
    let four = adds_both _ _ _ _ _ _ _ three (adds_field BitRateSwitch 1 brs d e fourth) in
    let all = all_added a e _ _ none four in
    let fields : named ++ FdFormat ∷ [] ++ FdReserved ∷ [] ++ BitRateSwitch ∷ [] ≡ fd_head_fields f = ap (λ (l : List Field). l ++ BitRateSwitch ∷ []) (append_assoc named (FdFormat ∷ []) (FdReserved ∷ [])) ∙ append_assoc named (FdFormat ∷ FdReserved ∷ []) (BitRateSwitch ∷ []) in
    let values : front ++ low_bits 1 1 ++ low_bits 1 0 ++ low_bits 1 brs ≡ fd_head f = ap (λ (l : List ℕ). l ++ low_bits 1 brs) (append_assoc front (low_bits 1 1) (low_bits 1 0)) ∙ (ap (λ (n : ℕ). front ++ low_bits 2 2 ++ low_bits 1 n) brs_is ∙ fd_sent f) in
    record { fields = all.fields ∙ fields; values = all.values ∙ values }

-- an FD frame from ESI to its last data bit
pub rest_laid : (f : CanFrame) (a b c d : List Bit) (esi code : ℕ) → a ≡ [] → b ≡ a ++ in_field ErrorState (low_bits 1 esi) → esi ≡ bit_of (payload_flags f.payload).esi →
    c ≡ b ++ in_field LengthCode (low_bits 4 code) → code ≡ fd_code (payload_len f.payload) → d ≡ c ++ in_field Data (byte_bits (payload_bytes f.payload)) → AreFields d (fd_rest_fields f) (fd_rest f)
rest_laid f a b c d esi code none first esi_is second code_is third =
    let two = adds_both _ _ _ _ _ _ _ (adds_field ErrorState 1 esi a b first) (adds_field LengthCode 4 code b c second) in
    let three = adds_both _ _ _ _ _ _ _ two (adds_bytes (payload_bytes f.payload) c d third) in
    let all = all_added a d _ _ none three in
    let control : low_bits 1 esi ++ low_bits 4 code ≡ bit_of (payload_flags f.payload).esi ∷ low_bits 4 (fd_code (payload_len f.payload)) = rw (esi_is, code_is) (control_sent (payload_flags f.payload).esi (fd_code (payload_len f.payload))) in
    record { fields = all.fields; values = all.values ∙ ap (λ (l : List ℕ). l ++ byte_bits (payload_bytes f.payload)) control }

-- the stuff count and the CRC of an FD frame
pub check_laid : (terms : List ℕ) (w t n one sent_in crc : ℕ) (sent counted all : List Bit) → 1 ≤ w → low_bits w t ≡ terms → 0 < length sent → AreFields counted (replicate 4 StuffCount) (stuff_count n) →
    low_bits w one ≡ 1 ∷ replicate (w - 1) 0 → low_bits w sent_in ≡ shifted_all (low_bits w t) (levels sent) (low_bits w one) → low_bits w crc ≡ shifted_all (low_bits w t) (levels counted) (low_bits w sent_in) →
    all ≡ counted ++ in_field Crc (low_bits w crc) → AreFields all (check_fields terms) (stuff_count n ++ check_from_one terms (levels sent ++ stuff_count n))
check_laid terms w t n one sent_in crc sent counted all some is any are begin middle end added =
    let laid = fields_then counted all _ _ _ _ are (adds_field Crc w crc counted all added) in
    let covered : List ℕ = levels sent ++ levels counted in
    let long : length terms ≡ w = ap (λ (l : List ℕ). length l) (sym is) ∙ length-low_bits w t in
    let bits : IsBits terms = subst IsBits is (IsBits-low_bits w t) in
    let covered_bits : IsBits covered = IsBits-append (levels sent) (levels counted) (values_are_bits sent) (values_are_bits counted) in
    let many : 0 < length covered = omega (arith, any, length-append (levels sent) (levels counted), length-map sent (λ (b : Bit). bit_of b.is_recessive)) in
    let whole : low_bits w crc ≡ shifted_all (low_bits w t) covered (1 ∷ replicate (w - 1) 0) = end ∙ (ap (shifted_all (low_bits w t) (levels counted)) (middle ∙ ap (shifted_all (low_bits w t) (levels sent)) begin) ∙ sym (shifted_all-append (low_bits w t) (levels sent) (levels counted) (1 ∷ replicate (w - 1) 0))) in
    let same : low_bits w crc ≡ check_from_one terms (levels sent ++ stuff_count n) = whole ∙ (ap (λ (g : List ℕ). shifted_all g covered (1 ∷ replicate (w - 1) 0)) is ∙ (from_one terms covered w some bits long covered_bits many ∙ ap (λ (l : List ℕ). check_from_one terms (levels sent ++ l)) are.values)) in
    record {
      fields = laid.fields ∙ ap (λ (k : ℕ). replicate 4 StuffCount ++ replicate k Crc) (sym long);
      values = laid.values ∙ ap (λ (l : List ℕ). stuff_count n ++ l) same;
    }
