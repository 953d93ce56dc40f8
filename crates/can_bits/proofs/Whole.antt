use Rattle.std.proofs.Common.{◌≡◌, ℕ, ◌+◌, ◌-◌, ◌<◌, ◌≤◌, ◌&&◌, Bool, true, false, List, [], ◌∷◌, ◌++◌, length, map, replicate, refl, sym, ap, subst, ◌∙◌, append_assoc, arith, length-append}
use Rattle.std.proofs.lemmas.List.{append-nil, length-map, replicate-append-replicate}
use Rattle.can_frame.specs.Frames.{CanFrame, payload_len, payload_flags, is_fd}
use Rattle.can_wire.specs.Stuffing.{stuffed, stuffed_inside, last_of, fixed_stuffed_after}
use Rattle.can_wire.specs.Division.{check_from_one}
use Rattle.can_wire.specs.FrameBits.{bit_of, checked_bits, stuff_count, fd_generator, fd_head, fd_rest, fd_to_data_end, fd_stuff_bits, fd_check, fd_to_check_end, to_check_end, wire_of, end_bits, bits_to_check_end, fd_bits_to_brs}
use Rattle.can_wire.specs.AttemptBits.{intermission}
use Rattle.can_bits.specs.declared.bit.Bit.{Bit}
use Rattle.can_bits.specs.declared.bit.Field.{Field}
use Rattle.can_bits.specs.Fields.{classic_fields, fd_head_fields, fd_rest_fields, check_fields, fd_check_fields, end_fields}
use Rattle.can_bits.specs.Marks.{Mark, plain, marks_in, fixed_marks_after, check_marks, check_rates, marks_of, frame_rates}
use Rattle.can_bits.specs.Sent.{levels, mark_of, AreBitsOf}
use Rattle.can_bits.specs.inner.Sending.{Last, nothing_sent, sent, due, flushed, added, sent_all, last_after, sent_fixed, fields_in, AreFields, AreToCheckEnd, end_sent}
use Rattle.can_bits.proofs.Levels.{levels-append, sent_all-append, last_after-append, whole_levels, inside_levels, both_levels, fixed_levels, last_level, some_last}
use Rattle.can_bits.proofs.Marked.{marks-append, whole_marks, both_marks, fixed_marks}
use Rattle.can_bits.proofs.Rated.{rates, rates-append, rates_two, sent_rates, due_rates, fixed_rates}

-- The bits of whole frames.

-- there are as many values as bits
length-levels : (bits : List Bit) → length (levels bits) ≡ length bits
length-levels bits = length-map bits (λ (b : Bit). bit_of b.is_recessive)

-- ---- classic frames

-- all bits of a classic frame are sent at the nominal bit rate
slow_rates : (f : CanFrame) → is_fd f.payload ≡ false → check_rates f ≡ replicate (length (to_check_end f)) false
unfolding bits_to_check_end
slow_rates f classic = rw classic (append-nil (replicate (length (stuffed (checked_bits f))) false))

pub classic_whole : (f : CanFrame) (bits : List Bit) → is_fd f.payload ≡ false → AreFields bits (classic_fields f) (checked_bits f) → AreToCheckEnd f (sent_all false bits nothing_sent ++ due false (last_after bits nothing_sent))
classic_whole f bits classic are =
    let s : List Bit = sent_all false bits nothing_sent in
    let d : List Bit = due false (last_after bits nothing_sent) in
    let all : List Bit = s ++ d in
    let values : levels all ≡ stuffed (checked_bits f) = whole_levels false bits ∙ ap stuffed are.values in
    let wire : levels all ≡ to_check_end f = rw classic values in
    let marks : map mark_of all ≡ marks_in (classic_fields f) (stuffed (checked_bits f)) = whole_marks false bits ∙ (ap (λ (fs : List Field). marks_in fs (levels all)) are.fields ∙ ap (marks_in (classic_fields f)) values) in
    let count : length all ≡ length (to_check_end f) = sym (length-levels all) ∙ ap (λ (l : List ℕ). length l) wire in
    record {
      wire = wire;
      marks = rw classic marks;
      rates = rates_two s d false (sent_rates false bits nothing_sent) (due_rates false (last_after bits nothing_sent)) ∙ (ap (λ (n : ℕ). replicate n false) count ∙ sym (slow_rates f classic));
    }

-- ---- FD frames

-- the bits that are sent for the two parts of an FD frame
abbrev pub fd_sent : Bool → List Bit → List Bit → List Bit
fd_sent fast head rest = sent_all false head nothing_sent ++ sent_all fast rest (last_after head nothing_sent)

pub data_levels : (f : CanFrame) (fast : Bool) (head rest : List Bit) → levels head ≡ fd_head f → levels rest ≡ fd_rest f → levels (fd_sent fast head rest) ≡ fd_to_data_end f
data_levels f fast head rest h r = both_levels fast head rest ∙ (ap (λ (l : List ℕ). stuffed_inside (l ++ levels rest)) h ∙ ap (λ (l : List ℕ). stuffed_inside (fd_head f ++ l)) r)

-- at least as many bits are sent as there are bits
sent_some : (fast : Bool) (bits : List Bit) (l : Last) → length bits ≤ length (sent_all fast bits l)
sent_some fast [] l = omega arith
sent_some fast (b ∷ bits) l =
    let s : List Bit = sent_all fast bits (added b (flushed l)) in
    omega (arith, length-append (due fast l) (sent fast b ∷ s), sent_some fast bits (added b (flushed l)))

pub data_least : (fast : Bool) (head rest : List Bit) → length head + length rest ≤ length (fd_sent fast head rest)
data_least fast head rest =
    let l : Last = last_after head nothing_sent in
    omega (arith, length-append (sent_all false head nothing_sent) (sent_all fast rest l), sent_some false head nothing_sent, sent_some fast rest l)

head_some : (f : CanFrame) → 0 < length (fd_head f)
unfolding fd_head
head_some f = omega arith

pub data_some : (f : CanFrame) (fast : Bool) (head rest : List Bit) → levels head ≡ fd_head f → 0 < length (fd_sent fast head rest)
data_some f fast head rest h =
    let first : length head ≡ length (fd_head f) = sym (length-levels head) ∙ ap (λ (l : List ℕ). length l) h in
    omega (arith, first, head_some f, data_least fast head rest)

-- the last bit of an FD frame before the stuff count
pub data_last : (f : CanFrame) (fast : Bool) (head rest : List Bit) → levels head ≡ fd_head f → levels rest ≡ fd_rest f → bit_of (last_after rest (last_after head nothing_sent)).is_recessive ≡ last_of 1 (fd_to_data_end f)
data_last f fast head rest h r =
    let l : Last = last_after head nothing_sent in
    let all : List ℕ = levels (fd_sent false head rest) in
    let is : all ≡ fd_to_data_end f = data_levels f false head rest h r in
    let whole : levels (sent_all false (head ++ rest) nothing_sent) ≡ all = ap levels (sent_all-append false head rest nothing_sent) in
    let some : 0 < length all = omega (arith, length-levels (fd_sent false head rest), data_some f false head rest h) in
    ap (λ (m : Last). bit_of m.is_recessive) (sym (last_after-append head rest nothing_sent)) ∙ (sym (last_level false (head ++ rest) nothing_sent) ∙ (ap (last_of 0) whole ∙ (some_last 0 1 all some ∙ ap (last_of 1) is)))

-- the number of stuff bits is the number that `fd_stuff_bits` counts
pub stuff_bits_counted : (f : CanFrame) (fast : Bool) (head rest : List Bit) → levels head ≡ fd_head f → levels rest ≡ fd_rest f → length (fd_sent fast head rest) - length head - length rest ≡ fd_stuff_bits f
stuff_bits_counted f fast head rest h r =
    let all : length (fd_sent fast head rest) ≡ length (fd_to_data_end f) = sym (length-levels (fd_sent fast head rest)) ∙ ap (λ (l : List ℕ). length l) (data_levels f fast head rest h r) in
    let first : length head ≡ length (fd_head f) = sym (length-levels head) ∙ ap (λ (l : List ℕ). length l) h in
    let second : length rest ≡ length (fd_rest f) = sym (length-levels rest) ∙ ap (λ (l : List ℕ). length l) r in
    omega (arith, all, first, second, length-append (fd_head f) (fd_rest f))

-- the bit rates of the parts of an FD frame
fd_rates : (f : CanFrame) (fast : Bool) (first second third : List Bit) → is_fd f.payload ≡ true → fast ≡ (payload_flags f.payload).brs → length first ≡ fd_bits_to_brs f →
    length (first ++ second ++ third) ≡ length (fd_to_check_end f) → rates first ≡ replicate (length first) false → rates second ≡ replicate (length second) fast → rates third ≡ replicate (length third) fast →
    rates (first ++ second ++ third) ≡ check_rates f
unfolding bits_to_check_end
fd_rates f true first second third fd brs few all one two three =
    let more : List Bit = second ++ third in
    let split : rates (first ++ second ++ third) ≡ rates first ++ rates more = ap rates (append_assoc first second third) ∙ rates-append first more in
    let count : length more ≡ length (fd_to_check_end f) - fd_bits_to_brs f = omega (arith, all, few, length-append (first ++ second) third, length-append first second, length-append second third) in
    rw (fd, ← brs) (split ∙ (ap (λ (l : List Bool). l ++ rates more) one ∙ (ap (λ (l : List Bool). replicate (length first) false ++ l) (rates_two second third true two three) ∙ (ap (λ (n : ℕ). replicate n false ++ replicate (length more) true) few ∙ ap (λ (n : ℕ). replicate (fd_bits_to_brs f) false ++ replicate n true) count))))
fd_rates f false first second third fd brs few all one two three =
    rw (fd, ← brs) (rates_two (first ++ second) third false (rates_two first second false one two) three ∙ (ap (λ (n : ℕ). replicate n false) all ∙ sym (append-nil (replicate (length (fd_to_check_end f)) false))))

pub fd_whole : (f : CanFrame) (fast : Bool) (head rest check : List Bit) → is_fd f.payload ≡ true → fast ≡ (payload_flags f.payload).brs →
    AreFields head (fd_head_fields f) (fd_head f) → AreFields rest (fd_rest_fields f) (fd_rest f) → AreFields check (fd_check_fields f) (fd_check f) →
    AreToCheckEnd f (fd_sent fast head rest ++ sent_fixed fast (last_after rest (last_after head nothing_sent)).is_recessive 0 check)
fd_whole f fast head rest check fd brs h r k =
    let l : Last = last_after head nothing_sent in
    let last : Bool = (last_after rest l).is_recessive in
    let first : List Bit = sent_all false head nothing_sent in
    let second : List Bit = sent_all fast rest l in
    let third : List Bit = sent_fixed fast last 0 check in
    let carried : levels (first ++ second) ≡ fd_to_data_end f = data_levels f fast head rest h.values r.values in
    let end : levels third ≡ fixed_stuffed_after (last_of 1 (fd_to_data_end f)) 0 (fd_check f) = fixed_levels fast last 0 check ∙ (ap (λ (v : ℕ). fixed_stuffed_after v 0 (levels check)) (data_last f fast head rest h.values r.values) ∙ ap (fixed_stuffed_after (last_of 1 (fd_to_data_end f)) 0) k.values) in
    let wire : levels (first ++ second ++ third) ≡ fd_to_check_end f = levels-append (first ++ second) third ∙ (ap (λ (v : List ℕ). v ++ levels third) carried ∙ ap (λ (v : List ℕ). fd_to_data_end f ++ v) end) in
    let found : map mark_of (first ++ second) ≡ marks_in (fd_head_fields f ++ fd_rest_fields f) (fd_to_data_end f) = both_marks fast head rest ∙ (ap (λ (fs : List Field). marks_in (fs ++ fields_in rest) (levels (first ++ second))) h.fields ∙ (ap (λ (fs : List Field). marks_in (fd_head_fields f ++ fs) (levels (first ++ second))) r.fields ∙ ap (marks_in (fd_head_fields f ++ fd_rest_fields f)) carried)) in
    let fixed : map mark_of third ≡ fixed_marks_after 0 (fd_check_fields f) = fixed_marks fast last 0 check ∙ ap (fixed_marks_after 0) k.fields in
    let marks : map mark_of (first ++ second ++ third) ≡ marks_in (fd_head_fields f ++ fd_rest_fields f) (fd_to_data_end f) ++ fixed_marks_after 0 (fd_check_fields f) = marks-append (first ++ second) third ∙ (ap (λ (ms : List Mark). ms ++ map mark_of third) found ∙ ap (λ (ms : List Mark). marks_in (fd_head_fields f ++ fd_rest_fields f) (fd_to_data_end f) ++ ms) fixed) in
    let few : length first ≡ fd_bits_to_brs f = sym (length-levels first) ∙ ap (λ (v : List ℕ). length v) (inside_levels false head ∙ ap stuffed_inside h.values) in
    let all : length (first ++ second ++ third) ≡ length (fd_to_check_end f) = sym (length-levels (first ++ second ++ third)) ∙ ap (λ (v : List ℕ). length v) wire in
    record {
      wire = rw fd wire;
      marks = rw fd marks;
      rates = fd_rates f fast first second third fd brs few all (sent_rates false head nothing_sent) (sent_rates fast rest l) (fixed_rates fast last 0 check);
    }

-- ---- the bits that are sent, step by step

pub classic_done : (f : CanFrame) (bits a b d : List Bit) (r s : Last) → is_fd f.payload ≡ false → AreFields bits (classic_fields f) (checked_bits f) → a ≡ [] → r ≡ nothing_sent →
    b ≡ a ++ sent_all false bits r → s ≡ last_after bits r → d ≡ b ++ due false s → AreToCheckEnd f d
classic_done f bits a b d r s classic are none begun first then second =
    rw (second, first, none, then, begun) (classic_whole f bits classic are)

-- two parts of an FD frame are sent
pub record AreSent (fast : Bool) (head rest all : List Bit) (last : Last) : Type 0 where
  pub bits : all ≡ fd_sent fast head rest
  pub run : last ≡ last_after rest (last_after head nothing_sent)

pub fd_begun : (fast : Bool) (head rest a b d : List Bit) (r s t : Last) → a ≡ [] → r ≡ nothing_sent → b ≡ a ++ sent_all false head r → s ≡ last_after head r →
    d ≡ b ++ sent_all fast rest s → t ≡ last_after rest s → AreSent fast head rest d t
fd_begun fast head rest a b d r s t none begun first one second two = record {
  bits = rw (second, first, none, one, begun) refl;
  run = rw (two, one, begun) refl;
}

-- the CRC of an FD frame
check_is : (f : CanFrame) (fast : Bool) (head rest all check : List Bit) (n : ℕ) → levels head ≡ fd_head f → levels rest ≡ fd_rest f → all ≡ fd_sent fast head rest →
    n ≡ length all - length head - length rest →
    AreFields check (check_fields (fd_generator (payload_len f.payload))) (stuff_count n ++ check_from_one (fd_generator (payload_len f.payload)) (levels all ++ stuff_count n)) →
    AreFields check (fd_check_fields f) (fd_check f)
unfolding fd_check
check_is f fast head rest all check n h r is count are =
    let g : List ℕ = fd_generator (payload_len f.payload) in
    let stuffs : n ≡ fd_stuff_bits f = count ∙ (ap (λ (l : List Bit). length l - length head - length rest) is ∙ stuff_bits_counted f fast head rest h r) in
    let carried : levels all ≡ fd_to_data_end f = ap levels is ∙ data_levels f fast head rest h r in
    record {
      fields = are.fields;
      values = are.values ∙ (ap (λ (v : List ℕ). stuff_count n ++ check_from_one g (v ++ stuff_count n)) carried ∙ ap (λ (k : ℕ). stuff_count k ++ check_from_one g (fd_to_data_end f ++ stuff_count k)) stuffs);
    }

pub fd_done : (f : CanFrame) (fast : Bool) (head rest all check end : List Bit) (last : Last) (len n : ℕ) → is_fd f.payload ≡ true → fast ≡ (payload_flags f.payload).brs → len ≡ payload_len f.payload →
    AreFields head (fd_head_fields f) (fd_head f) → AreFields rest (fd_rest_fields f) (fd_rest f) → AreSent fast head rest all last → n ≡ length all - length head - length rest →
    AreFields check (check_fields (fd_generator len)) (stuff_count n ++ check_from_one (fd_generator len) (levels all ++ stuff_count n)) →
    end ≡ all ++ sent_fixed fast last.is_recessive 0 check → AreToCheckEnd f end
fd_done f fast head rest all check end last len n fd brs is h r sent count are added =
    let same = subst (λ (k : ℕ). AreFields check (check_fields (fd_generator k)) (stuff_count n ++ check_from_one (fd_generator k) (levels all ++ stuff_count n))) is are in
    rw (added, sent.bits, sent.run) (fd_whole f fast head rest check fd brs h r (check_is f fast head rest all check n h.values r.values sent.bits count same))

-- ---- to the end of intermission

pub whole_frame : (f : CanFrame) (checked all : List Bit) → AreToCheckEnd f checked → all ≡ checked ++ end_sent → AreBitsOf f all
whole_frame f checked all are is = record {
  wire = ap levels is ∙ (levels-append checked end_sent ∙ (ap (λ (v : List ℕ). v ++ levels end_sent) are.wire ∙ sym (append_assoc (to_check_end f) end_bits (replicate intermission 1))));
  marks = ap (λ (l : List Bit). map mark_of l) is ∙ (marks-append checked end_sent ∙ ap (λ (ms : List Mark). ms ++ map mark_of end_sent) are.marks);
  rates = ap rates is ∙ (rates-append checked end_sent ∙ ap (λ (l : List Bool). l ++ rates end_sent) are.rates);
}
