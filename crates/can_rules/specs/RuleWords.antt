use Rattle.std.specs.Prelude.{ℕ, ◌+◌, ◌-◌, ◌^◌, Bool, ◌||◌, ◌==◌, nat_lt, if◌then◌else◌, List}
use Rattle.std.specs.Prelude.{Option, Some, None, length, Result, Ok, Err, codes, bit_and}
use Rattle.std.specs.List.{before_first, after_first}
use Rattle.std.specs.Option.{ok_or, option_and_then}
use Rattle.std.specs.Str.{bytes_eq}
use Rattle.can_frame.specs.Numbers.{number_in}
use Rattle.can_fault.specs.Scripts.{word, after, set_spelling, verdict_spelling}
use Rattle.can_fault.specs.declared.script_lines.LineFault.{LineFault}
use Rattle.can_fault.specs.declared.script_lines.LineFault.TheVariants as line
use Rattle.can_fault.specs.declared.verdict.Verdict.TheVariants.{Good}
use Rattle.can_filter.specs.Filters.{CanFilter, everything}
use Rattle.can_rules.specs.declared.rule.Rule.{Rule}
use Rattle.can_rules.specs.declared.rule_words.WrongWord.{WrongWord}
use Rattle.can_rules.specs.declared.rule_words.WrongWord.TheVariants as wrong

-- Rules as texts: `next N` or `always`, then optionally `from NAMES`, `id ID` and `skip K`, and a verdict (own choice).

infixl 10 ◌>>=◌
abbrev pub ◌>>=◌ : {A B : Type 0} → Result A WrongWord → (A → Result B WrongWord) → Result B WrongWord
(Ok x) >>= f = f x
(Err e) >>= f = Err e

-- The second word of a text.
abbrev pub second : List ℕ → List ℕ
second text = word (after text)

-- The text after its first two words.
abbrev pub beyond : List ℕ → List ℕ
beyond text = after (after text)

-- The error for a faulty part of a rule: the error of that part, or `UnknownInterface` if the bus has no interface with
-- a given name.
abbrev pub wrong_word_of : WrongWord → LineFault → WrongWord
wrong_word_of which line.BadLine = which
wrong_word_of which line.UnknownInterface = wrong.UnknownInterface

-- The result of reading a part of a rule, with its error replaced by that for the wrong word.
abbrev pub as_word : {A : Type 0} → WrongWord → Result A LineFault → Result A WrongWord
as_word which (Ok x) = Ok x
as_word which (Err fault) = Err (wrong_word_of which fault)

-- A decimal number of 1 to 8 digits.
abbrev pub small_spelling : List ℕ → Option ℕ
small_spelling text = number_in 10 8 text

-- The number, or `None` if it is 0.
abbrev pub some_of : ℕ → Option ℕ
some_of n = if n == 0 then None else Some n

-- A decimal number of 1 to 8 digits that is not 0.
abbrev pub count_spelling : List ℕ → Option ℕ
count_spelling text = option_and_then some_of (small_spelling text)

-- The mask for one 11-bit identifier: the flag of 29-bit identifiers (CAN_EFF_FLAG) and the 11 bits of CAN_SFF_MASK.
abbrev pub standard_bits : ℕ
standard_bits = 2 ^ 31 + (2 ^ 11 - 1)

-- The mask for one 29-bit identifier: the flag of 29-bit identifiers (CAN_EFF_FLAG) and the 29 bits of CAN_EFF_MASK.
abbrev pub extended_bits : ℕ
extended_bits = 2 ^ 31 + (2 ^ 29 - 1)

-- The filter that passes data frames, FD frames and remote frames with this 11-bit identifier.
abbrev pub of_standard : ℕ → Option CanFilter
of_standard n = if nat_lt n (2 ^ 11) then Some (record { id = n; mask = standard_bits }) else None

-- The filter that passes frames with this 29-bit identifier.
abbrev pub of_extended : ℕ → Option CanFilter
of_extended n = if nat_lt n (2 ^ 29) then Some (record { id = n + 2 ^ 31; mask = extended_bits }) else None

-- The filter with this identifier word and this mask, or `None` if bit 29 of the mask is set.
abbrev pub of_words : ℕ → ℕ → Option CanFilter
of_words id mask = if bit_and mask (2 ^ 29) == 0 then Some (record { id = id; mask = mask }) else None

-- The filter with this identifier word and this mask, each of 1 to 8 hexadecimal digits.
unfoldable pub masked_spelling : List ℕ → List ℕ → Option CanFilter
masked_spelling id mask =
    option_and_then (λ i. option_and_then (λ m. of_words i m) (number_in 16 8 mask)) (number_in 16 8 id)

-- The filter for an identifier that is written without a mask: 3 hexadecimal digits for 11 bits, or 8 for 29 bits.
unfoldable pub plain_spelling : List ℕ → Option CanFilter
plain_spelling text =
    if length text == 3 then option_and_then of_standard (number_in 16 8 text)
    else if length text == 8 then option_and_then of_extended (number_in 16 8 text)
    else None

-- The text before its first colon, or the whole text if it has no colon.
abbrev pub before_colon : List ℕ → List ℕ
before_colon text = before_first (λ b. b == 58) text

-- The text after its first colon, or the empty text if it has no colon.
abbrev pub mask_in : List ℕ → List ℕ
mask_in text = after_first (λ b. b == 58) text

-- The filter for an identifier, with or without a colon and a mask.
abbrev pub id_spelling : List ℕ → Option CanFilter
id_spelling text =
    if length (mask_in text) == 0 then plain_spelling text else masked_spelling (before_colon text) (mask_in text)

-- The rule with the verdict that ends its text.
unfoldable pub ended : List (List ℕ) → Rule → List ℕ → Result Rule WrongWord
ended names rule text = do
  verdict ← as_word wrong.Verdict (verdict_spelling names text)
  Ok (record rule { verdict = verdict })

-- The rule read from an optional `skip K` and the verdict.
unfoldable pub skipping : List (List ℕ) → Rule → List ℕ → Result Rule WrongWord
skipping names rule text = if bytes_eq (word text) (codes "skip") then (do
  skip ← ok_or (small_spelling (second text)) wrong.Skip
  ended names (record rule { skip = skip }) (beyond text)) else ended names rule text

-- The rule read from an optional `id ID` and the words after it.
unfoldable pub with_id : List (List ℕ) → Rule → List ℕ → Result Rule WrongWord
with_id names rule text = if bytes_eq (word text) (codes "id") then (do
  filter ← ok_or (id_spelling (second text)) wrong.Identifier
  skipping names (record rule { filter = filter }) (beyond text)) else skipping names rule text

-- The rule read from an optional `from NAMES` and the words after it.
unfoldable pub with_senders : List (List ℕ) → Rule → List ℕ → Result Rule WrongWord
with_senders names rule text = if bytes_eq (word text) (codes "from") then (do
  senders ← as_word wrong.Senders (set_spelling names (second text))
  with_id names (record rule { senders = Some senders }) (beyond text)) else with_id names rule text

-- The rule that matches every attempt and gives a good verdict this many times, or always if the number is `None`.
abbrev pub rule_of : Option ℕ → Rule
rule_of left = record { senders = None; filter = everything; skip = 0; left = left; verdict = Good; number = 0 }

-- The rule that a text spells: `always`, or `next` and a number, and then the words after it.
unfoldable pub rule_spelling : List (List ℕ) → List ℕ → Result Rule WrongWord
rule_spelling names text =
    if bytes_eq (word text) (codes "always") then with_senders names (rule_of None) (after text)
    else if bytes_eq (word text) (codes "next") then (do
      count ← ok_or (count_spelling (second text)) wrong.Count
      with_senders names (rule_of (Some count)) (beyond text))
    else Err wrong.Beginning

-- The line begins with `next` or `always`, as a rule does.
abbrev pub is_rule : List ℕ → Bool
is_rule line = bytes_eq (word line) (codes "next") || bytes_eq (word line) (codes "always")
