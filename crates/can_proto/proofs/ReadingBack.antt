use Rattle.std.proofs.Common.{◌≡◌, ℕ, suc, inl, inr, ◌+◌, ◌*◌, ◌-◌, ◌^◌, ◌<◌, ◌≤◌, ◌==◌, nat_lt, nat_le, Bool, true, false, IsTrue, if◌then◌else◌, List, [], ◌∷◌, ◌++◌, Option, Some, None, Result, Ok, map, length, slice_index, bit_and, refl, ap, ◌∙◌, arith, append_assoc}
use Rattle.std.specs.Fmt.{decimal}
use Rattle.std.specs.List.{All, flat_map, join_with_byte}
use Rattle.std.proofs.lemmas.Fmt.{decimal_digit, decimal_nonempty, length-decimal-le}
use Rattle.std.proofs.lemmas.List.{length-map}
use Rattle.std.proofs.lemmas.Bool.{cases_lt}
use Rattle.can_frame.specs.Frames.{Identifier, IsIdentifier, Payload, is_fd_length, flags_number}
use Rattle.can_frame.specs.Frames.Payload.{Data, Remote, Fd}
use Rattle.can_frame.specs.declared.fd_flags.FdFlags.{FdFlags}
use Rattle.can_frame.specs.FrameText.{digits, id_text, IsPayload}
use Rattle.can_filter.specs.Filters.{CanFilter}
use Rattle.can_event.specs.declared.opt.Opt.{Opt}
use Rattle.can_event.specs.declared.opt.Opt.TheVariants as opt
use Rattle.can_proto.specs.declared.command.Mode.{Mode}
use Rattle.can_proto.specs.declared.command.Command.{Command}
use Rattle.can_proto.specs.declared.command.Command.TheVariants.{Echo, Interfaces, Open, Rawmode, Send, SetFilters, SetOption, ErrData, Ack, Origin, Stats, Status, Load, Restart, Fault, Faults, NoFaults, Close, Down}
use Rattle.can_proto.specs.declared.fault.ProtoFault.{ProtoFault}
use Rattle.can_proto.specs.declared.fault.ProtoFault.TheVariants.{BadByte}
use Rattle.can_proto.specs.declared.verb.Verb.{Verb}
use Rattle.can_proto.specs.declared.verb.Verb.TheVariants as verb
use Rattle.can_proto.specs.Words.{is_blank, front, words_after, words_of}
use Rattle.can_proto.specs.Verbs.{is_allowed_in, mode_has}
use Rattle.can_frame.specs.Numbers.{hex_digit, in_base, one_more, number_after, number_in}
use Rattle.can_proto.specs.Commands.{◌>>=◌, or_fault, short_id, long_id, id_of, length_of, fd_length_of, bytes_of, send_of, send_fd_of, flags_of_word, send_flagged_of, remote_of, filter_of, filters_of, set_of, mask_of, switch_of, open_of, fault_of, arguments_of, command_of, reading}
use Rattle.can_proto.specs.CommandSpelling.{flag_text, frame_words, filter_command_words, option_command_words, command_words, command_spelling, IsFilter, IsOption, IsCommand}
use Rattle.can_proto.proofs.Cuts.{clear, clear_parts}
use Rattle.can_proto.proofs.Numerals.{IsMark, clear-digits, clear-decimal}
use Rattle.can_frame.proofs.Numerals.{left, value-digits, value-decimal}

-- The text of a command is read back as that command.

-- words

front-whole : (w : List ℕ) → clear is_blank w ≡ true → front w ≡ w
front-whole [] h = refl
front-whole (b ∷ bs) h = let parts = clear_parts (is_blank b) (clear is_blank bs) h in rw (parts.0, front-whole bs parts.1) refl

front-cut : (w rest : List ℕ) → clear is_blank w ≡ true → front (w ++ 32 ∷ rest) ≡ w
front-cut [] rest h = refl
front-cut (b ∷ bs) rest h = let parts = clear_parts (is_blank b) (clear is_blank bs) h in rw (parts.0, front-cut bs rest parts.1) refl

after-whole : (w : List ℕ) → clear is_blank w ≡ true → words_after false w ≡ []
after-whole [] h = refl
after-whole (b ∷ bs) h = let parts = clear_parts (is_blank b) (clear is_blank bs) h in rw (parts.0, after-whole bs parts.1) refl

after-cut : (w rest : List ℕ) → clear is_blank w ≡ true → words_after false (w ++ 32 ∷ rest) ≡ words_of rest
after-cut [] rest h = refl
after-cut (b ∷ bs) rest h = let parts = clear_parts (is_blank b) (clear is_blank bs) h in rw (parts.0, after-cut bs rest parts.1) refl

last-word : (w : List ℕ) → clear is_blank w ≡ true → 0 < length w → words_of w ≡ w ∷ []
last-word [] h some = absurd (omega arith)
last-word (b ∷ bs) h some = let parts = clear_parts (is_blank b) (clear is_blank bs) h in rw (parts.0, front-whole bs parts.1, after-whole bs parts.1) refl

pub next-word : (w rest : List ℕ) → clear is_blank w ≡ true → 0 < length w → words_of (w ++ 32 ∷ rest) ≡ w ∷ words_of rest
next-word [] rest h some = absurd (omega arith)
next-word (b ∷ bs) rest h some = let parts = clear_parts (is_blank b) (clear is_blank bs) h in rw (parts.0, front-cut bs rest parts.1, after-cut bs rest parts.1) refl

abbrev pub AreWords : List (List ℕ) → Type 0
AreWords [] = Unit {0}
AreWords (w ∷ ws) = (clear is_blank w ≡ true) × (0 < length w) × AreWords ws

words-again : (ws : List (List ℕ)) → AreWords ws → words_of (join_with_byte 32 ws) ≡ ws
words-again [] h = refl
words-again (w ∷ []) h = last-word w h.0 h.1
words-again (w ∷ v ∷ ws) h = next-word w (join_with_byte 32 (v ∷ ws)) h.0 h.1 ∙ ap (λ (rest : List (List ℕ)). w ∷ rest) (words-again (v ∷ ws) h.2)

spaced-again : (ws : List (List ℕ)) → AreWords ws → words_of (join_with_byte 32 ws ++ 32 ∷ []) ≡ ws
spaced-again [] h = refl
spaced-again (w ∷ []) h = next-word w [] h.0 h.1
spaced-again (w ∷ v ∷ ws) h =
    ap words_of (append_assoc w (32 ∷ join_with_byte 32 (v ∷ ws)) (32 ∷ []))
    ∙ next-word w (join_with_byte 32 (v ∷ ws) ++ 32 ∷ []) h.0 h.1
    ∙ ap (λ (rest : List (List ℕ)). w ∷ rest) (spaced-again (v ∷ ws) h.2)

-- the words of a command are valid words

no-blank : IsMark is_blank
no-blank d h = grind arith

front-parts : (x : Bool) (b : ℕ) (xs bs : List ℕ) → (if x then [] else b ∷ xs) ≡ b ∷ bs → (x ≡ false) × (xs ≡ bs)
front-parts true b xs bs e = absurd cc
front-parts false b xs bs e = (refl, cc)

pub clear-front : (w : List ℕ) → front w ≡ w → clear is_blank w ≡ true
clear-front [] h = refl
clear-front (b ∷ bs) h = let parts = front-parts (is_blank b) b (front bs) bs h in rw (parts.0, clear-front bs parts.1) refl

-- the bytes before the first blank contain no blank
clear-up-to : (text : List ℕ) → clear is_blank (front text) ≡ true
clear-up-to [] = refl
clear-up-to (b ∷ bs) = by_test (is_blank b) refl (clear-up-to bs)
  where
    by_test : (blank : Bool) → is_blank b ≡ blank → clear is_blank (front bs) ≡ true → clear is_blank (if blank then [] else b ∷ front bs) ≡ true
    by_test true is more = refl
    by_test false is more = rw (is, more) refl

-- the words of a text are valid words
words-after : (was_blank : Bool) (text : List ℕ) → AreWords (words_after was_blank text)
words-after was_blank [] = tt
words-after was_blank (b ∷ bs) = by_test was_blank (is_blank b) refl (λ was. words-after was bs)
  where
    by_test : (was blank : Bool) → is_blank b ≡ blank → ((before : Bool) → AreWords (words_after before bs)) → AreWords (if blank then words_after true bs else if was then (b ∷ front bs) ∷ words_after false bs else words_after false bs)
    by_test was true is more = more true
    by_test true false is more = (rw (is, clear-up-to bs) refl, omega arith, more false)
    by_test false false is more = more false

words-bytes : (bytes : List ℕ) → AreWords (map (digits 16 2) bytes)
words-bytes [] = tt
words-bytes (b ∷ bs) = (clear-digits is_blank no-blank 16 2 b, omega arith, words-bytes bs)

words-filters : (filters : List CanFilter) → AreWords (flat_map filter_command_words filters)
words-filters [] = tt
words-filters (f ∷ fs) = (clear-digits is_blank no-blank 16 8 f.id, omega arith, (clear-digits is_blank no-blank 16 8 f.mask, omega arith, words-filters fs))

some-id : (extended : Bool) (n : ℕ) → 0 < length (id_text (record { extended = extended; number = n }))
some-id false n = omega arith
some-id true n = omega arith

clear-id : (id : Identifier) → clear is_blank (id_text id) ≡ true
clear-id id = clear-digits is_blank no-blank 16 (if id.extended then 8 else 3) id.number

-- an identifier, a count and more words are valid words
words-count : (id : Identifier) (n : ℕ) (rest : List (List ℕ)) → n < 2 ^ 64 → AreWords rest → AreWords (id_text id ∷ decimal n ∷ rest)
words-count id n rest small h = (clear-id id, some-id id.extended id.number, (clear-decimal is_blank no-blank n small, decimal_nonempty n small, h))

at_most_64 : (n : ℕ) → is_fd_length n ≡ true → n ≤ 64
at_most_64 n h = grind arith

words-frame : (id : Identifier) (p : Payload) → IsPayload p → AreWords (frame_words id p)
words-frame id (Data bytes) h = let few = h.0 in (refl, omega arith, words-count id (length bytes) (map (digits 16 2) bytes) (omega arith) (words-bytes bytes))
words-frame id (Fd flags bytes) h = by flags.brs flags.esi
  where
    few : length bytes ≤ 64
    few = at_most_64 (length bytes) h.0

    counted : AreWords (id_text id ∷ decimal (length bytes) ∷ map (digits 16 2) bytes)
    counted = words-count id (length bytes) (map (digits 16 2) bytes) (omega (arith, few)) (words-bytes bytes)

    by : (brs esi : Bool) → AreWords (frame_words id (Fd (record { brs = brs; esi = esi }) bytes))
    by true true = (refl, omega arith, (refl, omega arith, counted))
    by true false = (refl, omega arith, (refl, omega arith, counted))
    by false true = (refl, omega arith, (refl, omega arith, counted))
    by false false = (refl, omega arith, counted)
words-frame id (Remote len) h = (refl, omega arith, words-count id len [] (omega arith) tt)

words-flag : (on : Bool) → AreWords (flag_text on ∷ [])
words-flag false = (refl, omega arith, tt)
words-flag true = (refl, omega arith, tt)

words-option : (o : Opt) → AreWords (option_command_words o)
words-option (opt.Loopback on) = (refl, omega arith, words-flag on)
words-option (opt.RecvOwn on) = (refl, omega arith, words-flag on)
words-option (opt.Join on) = (refl, omega arith, words-flag on)
words-option (opt.FdFrames on) = (refl, omega arith, words-flag on)
words-option (opt.ErrMask mask) = (refl, omega arith, (clear-digits is_blank no-blank 16 8 mask, omega arith, tt))

words-command : (c : Command) → IsCommand c → AreWords (command_words c)
words-command Echo h = (refl, omega arith, tt)
words-command Interfaces h = (refl, omega arith, tt)
words-command (Open name) h = (refl, omega arith, (clear-front name h.1, h.0, tt))
words-command Rawmode h = (refl, omega arith, tt)
words-command (Send frame) h = words-frame frame.id frame.payload h.1
words-command (SetFilters filters) h =
    let few = h.0 in
    (refl, omega arith, (clear-decimal is_blank no-blank (length filters) (omega arith), decimal_nonempty (length filters) (omega arith), words-filters filters))
words-command (SetOption o) h = words-option o
words-command (ErrData on) h = (refl, omega arith, words-flag on)
words-command (Ack on) h = (refl, omega arith, words-flag on)
words-command (Origin on) h = (refl, omega arith, words-flag on)
words-command Stats h = (refl, omega arith, tt)
words-command Status h = (refl, omega arith, tt)
words-command Load h = (refl, omega arith, tt)
words-command Restart h = (refl, omega arith, tt)
words-command (Fault rule) h = (refl, omega arith, words-after true rule)
words-command Faults h = (refl, omega arith, tt)
words-command NoFaults h = (refl, omega arith, tt)
words-command Close h = (refl, omega arith, tt)
words-command Down h = (refl, omega arith, tt)

-- each word is read back

lt-true : (a b : ℕ) → a < b → nat_lt a b ≡ true
lt-true a b h = grind arith

below : (a b : ℕ) → nat_lt a b ≡ true → a < b
below a b h = grind arith

lt-false : (a b : ℕ) → b ≤ a → nat_lt a b ≡ false
lt-false a b h = grind arith

le-true : (a b : ℕ) → a ≤ b → nat_le a b ≡ true
le-true a b h = grind arith

eq-true : (a b : ℕ) → a ≡ b → (a == b) ≡ true
eq-true a b h = grind arith

number-again : (base most : ℕ) (w : List ℕ) (n : ℕ) → 0 < length w → length w ≤ most → number_after base (Some 0) w ≡ Some n → number_in base most w ≡ Some n
number-again base most w n some few h = rw (lt-true 0 (length w) some, le-true (length w) most few, h) refl

digits-again : (count n : ℕ) → 0 < length (digits 16 count n) → length (digits 16 count n) ≤ count → left 16 count n ≡ 0 → number_in 16 count (digits 16 count n) ≡ Some n
digits-again count n some few h = number-again 16 count (digits 16 count n) n some few (value-digits 16 count n (omega arith) (omega arith) h)

word-again : (n : ℕ) → n < 2 ^ 32 → number_in 16 8 (digits 16 8 n) ≡ Some n
word-again n h = digits-again 8 n (omega arith) (omega arith) (omega arith)

id-again : (extended : Bool) (n : ℕ) → IsIdentifier (record { extended = extended; number = n }) → id_of (id_text (record { extended = extended; number = n })) ≡ Ok (record { extended = extended; number = n })
unfolding id_of
id-again false n h = ap short_id (digits-again 3 n (omega arith) (omega arith) (omega arith)) ∙ rw (lt-true n (2 ^ 11) h) refl
id-again true n h = ap long_id (word-again n (omega arith)) ∙ rw (lt-true n (2 ^ 31) (omega arith)) (rw (lt-true n (2 ^ 29) h) refl)

length-again : (k : ℕ) → k ≤ 8 → length_of (decimal k) ≡ Ok k
unfolding length_of
length-again k h =
    let back : 48 + k - 48 ≡ k = omega arith in
    ap length_of (decimal_digit k (omega arith)) ∙ rw (le-true 48 (48 + k) (omega arith), le-true (48 + k) 56 (omega arith)) (ap (λ (n : ℕ). Ok n) back)

fd-word : (n : ℕ) (word : List ℕ) → is_fd_length n ≡ true → number_in 10 2 word ≡ Some n → length word ≡ (if nat_lt n 10 then 1 else 2) → fd_length_of word ≡ Ok n
unfolding fd_length_of
fd-word n word h is_n count = rw (is_n, h, eq-true (length word) (if nat_lt n 10 then 1 else 2) count) refl

-- a number of one digit is less than 10
one-digit : (o : Option ℕ) (n : ℕ) → number_after 10 (one_more 10 0 (in_base 10 o)) [] ≡ Some n → n < 10
one-digit None n e = absurd cc
one-digit (Some v) n e = by_test (nat_lt v 10) refl e
  where
    by_test : (b : Bool) → nat_lt v 10 ≡ b → number_after 10 (one_more 10 0 (if b then Some v else None)) [] ≡ Some n → n < 10
    by_test true lt e = let same : 0 * 10 + v ≡ n = cc in let small = below v 10 lt in omega (arith, same, small)
    by_test false lt e = absurd cc

two-digits : (ds : List ℕ) (n : ℕ) → number_after 10 (Some 0) ds ≡ Some n → 10 ≤ n → 0 < length ds → 2 ≤ length ds
two-digits [] n e big some = absurd (omega arith)
two-digits (d ∷ []) n e big some = let small = one-digit (hex_digit d) n e in absurd (omega (arith, small, big))
two-digits (d ∷ c ∷ ds) n e big some = omega arith

decimal-width : (n : ℕ) → n < 65 → length (decimal n) ≡ (if nat_lt n 10 then 1 else 2)
decimal-width n h = elim (cases_lt n 10) [
  | inl few ↦ rw (lt-true n 10 few) (ap length (decimal_digit n (omega arith)))
  | inr many ↦
      let most = length-decimal-le 2 n (omega arith) (omega arith) (omega arith) in
      let least = two-digits (decimal n) n (value-decimal n (omega arith)) (omega arith) (decimal_nonempty n (omega arith)) in
      rw (lt-false n 10 (omega arith)) (omega (arith, most, least))
]

-- each valid length of an FD frame is read back
fd-length-again : (n : ℕ) → is_fd_length n ≡ true → fd_length_of (decimal n) ≡ Ok n
fd-length-again n h =
    let small = at_most_64 n h in
    fd-word n (decimal n) h (number-again 10 2 (decimal n) n (decimal_nonempty n (omega arith)) (length-decimal-le 2 n (omega arith) (omega arith) (omega arith)) (value-decimal n (omega arith))) (decimal-width n (omega arith))

bytes-again : (bytes : List ℕ) → ((i : ℕ) → slice_index bytes i < 256) → bytes_of (map (digits 16 2) bytes) ≡ Ok bytes
unfolding bytes_of
bytes-again [] h = refl
bytes-again (b ∷ bs) h =
    let fits : b < 256 = h 0 in
    let byte = digits-again 2 b (omega arith) (omega arith) (omega arith) in
    let again = bytes-again bs (λ i. h (suc i)) in
    ap (λ (o : Option ℕ). or_fault BadByte o >>= λ x. bytes_of (map (digits 16 2) bs) >>= λ xs. Ok (x ∷ xs)) byte ∙ ap (λ (r : Result (List ℕ) ProtoFault). r >>= λ xs. Ok (b ∷ xs)) again

send-again : (id_word len_word : List ℕ) (words : List (List ℕ)) (id : Identifier) (len : ℕ) (bytes : List ℕ) →
    id_of id_word ≡ Ok id → length_of len_word ≡ Ok len → length words ≡ len → bytes_of words ≡ Ok bytes →
    send_of (id_word ∷ len_word ∷ words) ≡ Ok (Send (record { id = id; payload = Data bytes }))
unfolding send_of
send-again id_word len_word words id len bytes is_id is_len count is_bytes = rw (is_id, is_len, eq-true (length words) len count, is_bytes) refl

send-fd-again : (flags : FdFlags) (id_word len_word : List ℕ) (words : List (List ℕ)) (id : Identifier) (len : ℕ) (bytes : List ℕ) → id_of id_word ≡ Ok id → fd_length_of len_word ≡ Ok len → length words ≡ len → bytes_of words ≡ Ok bytes → send_fd_of flags (id_word ∷ len_word ∷ words) ≡ Ok (Send (record { id = id; payload = Fd flags bytes }))
unfolding send_fd_of
send-fd-again flags id_word len_word words id len bytes is_id is_len count is_bytes = rw (is_id, is_len, eq-true (length words) len count, is_bytes) refl

-- the flags and the words after them are read back
send-flagged-again : (word : List ℕ) (flags : FdFlags) (words : List (List ℕ)) (c : Command) → flags_of_word word ≡ Ok flags → send_fd_of flags words ≡ Ok c → send_flagged_of (word ∷ words) ≡ Ok c
unfolding send_flagged_of
send-flagged-again word flags words c is_flags sends = rw (is_flags, sends) refl

digit-again : (brs esi : Bool) → flags_of_word ((48 + flags_number (record { brs = brs; esi = esi })) ∷ []) ≡ Ok (record { brs = brs; esi = esi })
unfolding flags_of_word
digit-again true true = refl
digit-again true false = refl
digit-again false true = refl
digit-again false false = refl

remote-again : (id_word len_word : List ℕ) (id : Identifier) (len : ℕ) → id_of id_word ≡ Ok id → length_of len_word ≡ Ok len → remote_of (id_word ∷ len_word ∷ []) ≡ Ok (Send (record { id = id; payload = Remote len }))
unfolding remote_of
remote-again id_word len_word id len is_id is_len = rw (is_id, is_len) refl

filter-again : (id_word mask_word : List ℕ) (id mask : ℕ) → number_in 16 8 id_word ≡ Some id → number_in 16 8 mask_word ≡ Some mask → bit_and mask (2 ^ 29) ≡ 0 → filter_of id_word mask_word ≡ Ok (record { id = id; mask = mask })
unfolding filter_of
filter-again id_word mask_word id mask is_id is_mask low = rw (is_id, is_mask, low) refl

filters-again : (filters : List CanFilter) → All IsFilter filters → filters_of (flat_map filter_command_words filters) ≡ Ok filters
unfolding filters_of
filters-again [] h = refl
filters-again (f ∷ fs) h =
    let good : IsFilter f = h 0 f (omega arith) in
    let one = filter-again (digits 16 8 f.id) (digits 16 8 f.mask) f.id f.mask (word-again f.id good.0) (word-again f.mask good.1) good.2 in
    let again = filters-again fs (λ k d lt. h (suc k) d (omega arith)) in
    ap (λ (r : Result CanFilter ProtoFault). r >>= λ x. filters_of (flat_map filter_command_words fs) >>= λ xs. Ok (x ∷ xs)) one ∙ ap (λ (r : Result (List CanFilter) ProtoFault). r >>= λ xs. Ok (f ∷ xs)) again

two-each : (filters : List CanFilter) → length (flat_map filter_command_words filters) ≡ length filters * 2
two-each [] = refl
two-each (f ∷ fs) = let again = two-each fs in omega (arith, again)

set-again : (count_word : List ℕ) (words : List (List ℕ)) (n : ℕ) (filters : List CanFilter) → number_in 10 3 count_word ≡ Some n → n ≤ 512 → length words ≡ n * 2 → filters_of words ≡ Ok filters → set_of (count_word ∷ words) ≡ Ok (SetFilters filters)
unfolding set_of
set-again count_word words n filters is_count few count is_filters = rw (is_count, lt-false 512 n few, eq-true (length words) (n * 2) count, is_filters) refl

count-again : (n : ℕ) → n ≤ 512 → number_in 10 3 (decimal n) ≡ Some n
count-again n few = number-again 10 3 (decimal n) n (decimal_nonempty n (omega arith)) (length-decimal-le 3 n (omega arith) (omega arith) (omega arith)) (value-decimal n (omega arith))

flag-again : (on : Bool) → switch_of (flag_text on ∷ []) ≡ Ok on
unfolding switch_of
flag-again false = refl
flag-again true = refl

mask-again : (word : List ℕ) (mask : ℕ) → number_in 16 8 word ≡ Some mask → mask_of (word ∷ []) ≡ Ok (SetOption (opt.ErrMask mask))
unfolding mask_of
mask-again word mask h = rw h refl

spaced-rule : (words : List (List ℕ)) (rule : List ℕ) → 0 < length words → join_with_byte 32 words ≡ rule → fault_of words ≡ Ok (Fault rule)
unfolding fault_of
spaced-rule [] rule some is = absurd (omega arith)
spaced-rule (w ∷ ws) rule some is = ap (λ (text : List ℕ). Ok (Fault text)) is

-- each command is read back

tested : {A : Type 0} (b : Bool) (x y : A) → IsTrue b → (if b then x else y) ≡ x
tested true x y h = refl
tested false x y h = absurd cc

said : (mode : Mode) (v : Verb) (words : List (List ℕ)) (c : Command) → IsTrue (is_allowed_in v mode) → arguments_of v words ≡ Ok c → command_of mode words (Some v) ≡ Ok c
said mode v words c may h = tested (is_allowed_in v mode) (arguments_of v words) _ may ∙ h

frame-again : (mode : Mode) (id : Identifier) (p : Payload) → IsIdentifier id → IsPayload p → IsTrue (mode_has mode (frame_words id p)) → reading mode (frame_words id p) ≡ Ok (Send (record { id = id; payload = p }))
unfolding arguments_of
frame-again mode id (Data bytes) is_id h may =
    said mode verb.Send _ _ may (send-again (id_text id) (decimal (length bytes)) (map (digits 16 2) bytes) id (length bytes) bytes (id-again id.extended id.number is_id) (length-again (length bytes) h.0) (length-map bytes (digits 16 2)) (bytes-again bytes h.1))
frame-again mode id (Fd flags bytes) is_id h may = by flags.brs flags.esi may
  where
    sends : (f : FdFlags) → send_fd_of f (id_text id ∷ decimal (length bytes) ∷ map (digits 16 2) bytes) ≡ Ok (Send (record { id = id; payload = Fd f bytes }))
    sends f = send-fd-again f (id_text id) (decimal (length bytes)) (map (digits 16 2) bytes) id (length bytes) bytes (id-again id.extended id.number is_id) (fd-length-again (length bytes) h.0) (length-map bytes (digits 16 2)) (bytes-again bytes h.1)

    flagged : (brs esi : Bool) → send_flagged_of (((48 + flags_number (record { brs = brs; esi = esi })) ∷ []) ∷ id_text id ∷ decimal (length bytes) ∷ map (digits 16 2) bytes) ≡ Ok (Send (record { id = id; payload = Fd (record { brs = brs; esi = esi }) bytes }))
    flagged brs esi = send-flagged-again _ (record { brs = brs; esi = esi }) _ _ (digit-again brs esi) (sends (record { brs = brs; esi = esi }))

    by : (brs esi : Bool) → IsTrue (mode_has mode (frame_words id (Fd (record { brs = brs; esi = esi }) bytes))) → reading mode (frame_words id (Fd (record { brs = brs; esi = esi }) bytes)) ≡ Ok (Send (record { id = id; payload = Fd (record { brs = brs; esi = esi }) bytes }))
    by true true allowed = said mode verb.SendFlagged _ _ allowed (flagged true true)
    by true false allowed = said mode verb.SendFlagged _ _ allowed (flagged true false)
    by false true allowed = said mode verb.SendFlagged _ _ allowed (flagged false true)
    by false false allowed = said mode verb.SendFd _ _ allowed (sends (record { brs = false; esi = false }))
frame-again mode id (Remote len) is_id h may =
    said mode verb.SendRtr _ _ may (remote-again (id_text id) (decimal len) id len (id-again id.extended id.number is_id) (length-again len h))

option-again : (mode : Mode) (o : Opt) → IsOption o → IsTrue (mode_has mode (option_command_words o)) → reading mode (option_command_words o) ≡ Ok (SetOption o)
unfolding arguments_of
option-again mode (opt.Loopback on) h may = said mode verb.Loopback _ _ may (ap (λ (r : Result Bool ProtoFault). r >>= λ x. Ok (SetOption (opt.Loopback x))) (flag-again on))
option-again mode (opt.RecvOwn on) h may = said mode verb.RecvOwn _ _ may (ap (λ (r : Result Bool ProtoFault). r >>= λ x. Ok (SetOption (opt.RecvOwn x))) (flag-again on))
option-again mode (opt.Join on) h may = said mode verb.Join _ _ may (ap (λ (r : Result Bool ProtoFault). r >>= λ x. Ok (SetOption (opt.Join x))) (flag-again on))
option-again mode (opt.FdFrames on) h may = said mode verb.FdFrames _ _ may (ap (λ (r : Result Bool ProtoFault). r >>= λ x. Ok (SetOption (opt.FdFrames x))) (flag-again on))
option-again mode (opt.ErrMask mask) h may = said mode verb.ErrMask _ _ may (mask-again (digits 16 8 mask) mask (word-again mask h))

command-again : (mode : Mode) (c : Command) → IsCommand c → IsTrue (mode_has mode (command_words c)) → reading mode (command_words c) ≡ Ok c
unfolding arguments_of open_of
command-again mode Echo h may = said mode verb.Echo [] Echo may refl
command-again mode Interfaces h may = said mode verb.Interfaces [] Interfaces may refl
command-again mode (Open name) h may = said mode verb.Open (name ∷ []) (Open name) may refl
command-again mode Rawmode h may = said mode verb.Rawmode [] Rawmode may refl
command-again mode (Send frame) h may = frame-again mode frame.id frame.payload h.0 h.1 may
command-again mode (SetFilters filters) h may = said mode verb.Filter _ _ may (set-again (decimal (length filters)) (flat_map filter_command_words filters) (length filters) filters (count-again (length filters) h.0) h.0 (two-each filters) (filters-again filters h.1))
command-again mode (SetOption o) h may = option-again mode o h may
command-again mode (ErrData on) h may = said mode verb.ErrData _ _ may (ap (λ (r : Result Bool ProtoFault). r >>= λ x. Ok (ErrData x)) (flag-again on))
command-again mode (Ack on) h may = said mode verb.Ack _ _ may (ap (λ (r : Result Bool ProtoFault). r >>= λ x. Ok (Ack x)) (flag-again on))
command-again mode (Origin on) h may = said mode verb.Origin _ _ may (ap (λ (r : Result Bool ProtoFault). r >>= λ x. Ok (Origin x)) (flag-again on))
command-again mode Stats h may = said mode verb.Stats [] Stats may refl
command-again mode Status h may = said mode verb.Status [] Status may refl
command-again mode Load h may = said mode verb.Load [] Load may refl
command-again mode Restart h may = said mode verb.Restart [] Restart may refl
command-again mode (Fault rule) h may = said mode verb.Fault (words_of rule) (Fault rule) may (spaced-rule (words_of rule) rule h.0 h.1)
command-again mode Faults h may = said mode verb.Faults [] Faults may refl
command-again mode NoFaults h may = said mode verb.NoFaults [] NoFaults may refl
command-again mode Close h may = said mode verb.Close [] Close may refl
command-again mode Down h may = said mode verb.Down [] Down may refl

pub read-back : (mode : Mode) (c : Command) → IsCommand c → IsTrue (mode_has mode (command_words c)) → reading mode (words_of (command_spelling c)) ≡ Ok c
read-back mode c h may = ap (reading mode) (words-again (command_words c) (words-command c h)) ∙ command-again mode c h may

pub read-spaced : (mode : Mode) (c : Command) → IsCommand c → IsTrue (mode_has mode (command_words c)) → reading mode (words_of (32 ∷ command_spelling c ++ 32 ∷ [])) ≡ Ok c
read-spaced mode c h may = ap (reading mode) (spaced-again (command_words c) (words-command c h)) ∙ command-again mode c h may
