use Rattle.std.proofs.Common.{◌≡◌, ℕ, ◌+◌, ◌*◌, ◌^◌, ◌<◌, ◌≤◌, ◌==◌, zero, suc, Bool, true, false, List, [], ◌∷◌, length, Option, Some, None, Result, Ok, Err, if◌then◌else◌, refl, ap, sym, subst, ◌∙◌, arith, codes}
use Rattle.std.specs.Prelude.{◌&&◌, nat_lt, nat_le, bit_and}
use Rattle.std.specs.Option.{ok_or, option_and_then}
use Rattle.std.specs.Str.{bytes_eq}
use Rattle.std.proofs.lemmas.Bool.Decides.{nat_tests}
use Rattle.can_frame.specs.Numbers.{hex_digit, in_base, digit_in, one_more, number_after, number_in}
use Rattle.can_frame.specs.declared.iface.IfaceSet.{IfaceSet}
use Rattle.can_filter.specs.Filters.{CanFilter}
use Rattle.can_fault.specs.Scripts.{word, after, set_spelling, verdict_spelling}
use Rattle.can_fault.specs.declared.verdict.Verdict.{Verdict}
use Rattle.can_rules.specs.declared.rule.Rule.{Rule}
use Rattle.can_rules.specs.declared.rule_words.WrongWord.{WrongWord}
use Rattle.can_rules.specs.declared.rule_words.WrongWord.TheVariants as wrong
use Rattle.can_rules.specs.RuleWords.{◌>>=◌, second, beyond, as_word, small_spelling, some_of, count_spelling, of_standard, of_extended, of_words, masked_spelling, plain_spelling, before_colon, mask_in, id_spelling, ended, skipping, with_id, with_senders, rule_of, rule_spelling}
use Rattle.can_rules.proofs.GoodVerdicts.{IsNamed, IsVerdict, set-good, verdict-good}
use Rattle.can_rules.proofs.RuleOneLine.{bound, some-read, word-read}

-- Facts about a rule that some text spells.

abbrev pub AreSenders : List (List ℕ) → Option IfaceSet → Type 0
AreSenders names None = Unit {0}
AreSenders names (Some set) = IsNamed names set

abbrev pub IsCount : Option ℕ → Type 0
IsCount None = Unit {0}
IsCount (Some n) = (0 < n) × (n < 10 ^ 8)

-- The three kinds of filters: for an 11-bit identifier, for a 29-bit identifier, and for an identifier word and a
-- mask.
abbrev pub standard_of : ℕ → CanFilter
standard_of n = record { id = n; mask = 2147485695 }

abbrev pub extended_of : ℕ → CanFilter
extended_of n = record { id = n + 2147483648; mask = 2684354559 }

abbrev pub masked_of : ℕ → ℕ → CanFilter
masked_of i m = record { id = i; mask = m }

pub record IsFilter (f : CanFilter) : Type 0 where
  pub id : f.id < 2 ^ 32
  pub mask : f.mask < 2 ^ 32
  pub plain : (bit_and f.mask (2 ^ 29) == 0) ≡ true

pub record IsGood (names : List (List ℕ)) (rule : Rule) : Type 0 where
  pub number : rule.number ≡ 0
  pub left : IsCount rule.left
  pub senders : AreSenders names rule.senders
  pub filter : IsFilter rule.filter
  pub skip : rule.skip < 10 ^ 8
  pub verdict : IsVerdict names rule.verdict

-- A number that was read is below a bound that depends on its base and its count of digits.
digit-below : (base : ℕ) (o : Option ℕ) (v : ℕ) → in_base base o ≡ Some v → v < base
digit-below base None v e = absurd (cc e)
digit-below base (Some d) v e = by_test (nat_lt d base) refl e
  where
    by_test : (b : Bool) → nat_lt d base ≡ b → (if b then Some d else None) ≡ Some v → v < base
    by_test true is e = let same : d ≡ v = cc in grind (arith, nat_tests)
    by_test false is e = absurd (cc e)

-- The bound for a number after `k` more digits.
abbrev scaled : ℕ → ℕ → ℕ → ℕ
scaled base zero most = most
scaled base (suc k) most = scaled base k (most * base)

scaled-more : (base : ℕ) → ((m : ℕ) → m ≤ m * base) → ((m n : ℕ) → m ≤ n → m * base ≤ n * base) → (k j least most : ℕ) → k ≤ j → least ≤ most → scaled base k least ≤ scaled base j most
scaled-more base grow mono zero zero least most few le = le
scaled-more base grow mono zero (suc j) least most few le = scaled-more base grow mono zero j least (most * base) (omega arith) (let more = grow most in omega arith)
scaled-more base grow mono (suc k) zero least most few le = absurd (omega arith)
scaled-more base grow mono (suc k) (suc j) least most few le = scaled-more base grow mono k j (least * base) (most * base) (omega arith) (mono least most le)

number-below : (base : ℕ) → ((n v most : ℕ) → n < most → v < base → n * base + v < most * base) → (ds : List ℕ) (most m n : ℕ) → m < most → number_after base (Some m) ds ≡ Some n → n < scaled base (length ds) most
number-below base step [] most m n few e = let same : m ≡ n = cc in omega (arith, same, few)
number-below base step (d ∷ ds) most m n few e =
    (elim (digit_in base d) as (λ o. digit_in base d ≡ o → number_after base (one_more base m o) ds ≡ Some n → n < scaled base (length ds) (most * base)) [
      | None ↦ λ is e. absurd (cc e)
      | Some v ↦ λ is e. number-below base step ds (most * base) (m * base + v) n (step m v most few (digit-below base (hex_digit d) v is)) e
    ]) refl e

within-read : (a b : Bool) (o : Option ℕ) (n : ℕ) → (if a && b then o else None) ≡ Some n → (b ≡ true) × (o ≡ Some n)
within-read true true o n e = (refl, e)
within-read true false o n e = absurd (cc e)
within-read false b o n e = absurd (cc e)

le-from : (m n : ℕ) → nat_le m n ≡ true → m ≤ n
le-from m n h = grind (arith, nat_tests)

pub decimal-below : (text : List ℕ) (n : ℕ) → number_in 10 8 text ≡ Some n → n < 10 ^ 8
decimal-below text n e =
    let parts = within-read (nat_lt 0 (length text)) (nat_le (length text) 8) (number_after 10 (Some 0) text) n e in
    let low = number-below 10 (λ n v most few lt. omega arith) text 1 0 n (omega arith) parts.1 in
    let most = scaled-more 10 (λ m. omega arith) (λ m n le. omega arith) (length text) 8 1 1 (le-from (length text) 8 parts.0) (omega arith) in
    omega (arith, low, most)

pub hexadecimal-below : (text : List ℕ) (n : ℕ) → number_in 16 8 text ≡ Some n → n < 2 ^ 32
hexadecimal-below text n e =
    let parts = within-read (nat_lt 0 (length text)) (nat_le (length text) 8) (number_after 16 (Some 0) text) n e in
    let low = number-below 16 (λ n v most few lt. omega arith) text 1 0 n (omega arith) parts.1 in
    let most = scaled-more 16 (λ m. omega arith) (λ m n le. omega arith) (length text) 8 1 1 (le-from (length text) 8 parts.0) (omega arith) in
    omega (arith, low, most)

some-not-none : (m n : ℕ) → some_of m ≡ Some n → (0 < n) × (m ≡ n)
some-not-none m n e = by_test (m == 0) refl e
  where
    by_test : (b : Bool) → (m == 0) ≡ b → (if b then None else Some m) ≡ Some n → (0 < n) × (m ≡ n)
    by_test true is e = absurd (cc e)
    by_test false is e = let same : m ≡ n = cc in (grind (arith, nat_tests), same)

then-read : {A B : Type 0} (f : A → Option B) (o : Option A) (x : B) → option_and_then f o ≡ Some x → (a : A) × (o ≡ Some a) × (f a ≡ Some x)
then-read f (Some a) x h = (a, refl, h)
then-read f None x h = absurd (cc h)

count-good : (text : List ℕ) (n : ℕ) → count_spelling text ≡ Some n → IsCount (Some n)
count-good text n e =
    let (m, read, is) = then-read some_of (small_spelling text) n e in
    let parts = some-not-none m n is in
    let few = decimal-below text m read in
    (parts.0, omega (arith, few, parts.1))

-- A filter that was read is valid.
standard-good : (n : ℕ) (f : CanFilter) → of_standard n ≡ Some f → IsFilter f
standard-good n f e = by_test (nat_lt n (2 ^ 11)) refl e
  where
    by_test : (b : Bool) → nat_lt n (2 ^ 11) ≡ b → (if b then Some (standard_of n) else None) ≡ Some f → IsFilter f
    by_test true is e =
        let same : standard_of n ≡ f = cc in
        let few : n < 2 ^ 11 = grind (arith, nat_tests) in
        subst IsFilter same (record { id = omega (arith, few); mask = omega arith; plain = refl })
    by_test false is e = absurd (cc e)

extended-good : (n : ℕ) (f : CanFilter) → of_extended n ≡ Some f → IsFilter f
extended-good n f e = by_test (nat_lt n (2 ^ 29)) refl e
  where
    by_test : (b : Bool) → nat_lt n (2 ^ 29) ≡ b → (if b then Some (extended_of n) else None) ≡ Some f → IsFilter f
    by_test true is e =
        let same : extended_of n ≡ f = cc in
        let few : n < 2 ^ 29 = grind (arith, nat_tests) in
        subst IsFilter same (record { id = omega (arith, few); mask = omega arith; plain = refl })
    by_test false is e = absurd (cc e)

plain-good : (text : List ℕ) (f : CanFilter) → plain_spelling text ≡ Some f → IsFilter f
unfolding plain_spelling
plain-good text f e = by_length (length text == 3) (length text == 8) e
  where
    by_length : (three eight : Bool) → (if three then option_and_then of_standard (number_in 16 8 text) else if eight then option_and_then of_extended (number_in 16 8 text) else None) ≡ Some f → IsFilter f
    by_length true eight e = let (n, read, is) = then-read of_standard (number_in 16 8 text) f e in standard-good n f is
    by_length false true e = let (n, read, is) = then-read of_extended (number_in 16 8 text) f e in extended-good n f is
    by_length false false e = absurd (cc e)

masked-good : (id mask : List ℕ) (f : CanFilter) → masked_spelling id mask ≡ Some f → IsFilter f
unfolding masked_spelling
masked-good id mask f e =
    let (i, first, rest) = then-read (λ i. option_and_then (λ m. of_words i m) (number_in 16 8 mask)) (number_in 16 8 id) f e in
    let (m, second_, is) = then-read (λ m. of_words i m) (number_in 16 8 mask) f rest in
    by_test i m (hexadecimal-below id i first) (hexadecimal-below mask m second_) (bit_and m (2 ^ 29) == 0) refl is
  where
    by_test : (i m : ℕ) → i < 2 ^ 32 → m < 2 ^ 32 → (b : Bool) → (bit_and m (2 ^ 29) == 0) ≡ b → (if b then Some (masked_of i m) else None) ≡ Some f → IsFilter f
    by_test i m low few true is e =
        let same : masked_of i m ≡ f = cc in
        subst IsFilter same (record { id = low; mask = few; plain = is })
    by_test i m low few false is e = absurd (cc e)

id-good : (text : List ℕ) (f : CanFilter) → id_spelling text ≡ Some f → IsFilter f
id-good text f e = by_test (length (mask_in text) == 0) e
  where
    by_test : (b : Bool) → (if b then plain_spelling text else masked_spelling (before_colon text) (mask_in text)) ≡ Some f → IsFilter f
    by_test true e = plain-good text f e
    by_test false e = masked-good (before_colon text) (mask_in text) f e

-- A rule that was read from its parts is good.
part-good : {A : Type 0} (names : List (List ℕ)) (b : Bool) (read : Result A WrongWord) (on : A → Result Rule WrongWord) (other : Result Rule WrongWord) (rule : Rule)
    → ((a : A) → read ≡ Ok a → on a ≡ Ok rule → IsGood names rule) → (other ≡ Ok rule → IsGood names rule) → (if b then (read >>= on) else other) ≡ Ok rule → IsGood names rule
part-good names true read on other rule with without e = let (a, first, rest) = bound read on rule e in with a first rest
part-good names false read on other rule with without e = without e

ended-good : (names : List (List ℕ)) (known : Rule) (text : List ℕ) (rule : Rule) → IsGood names known → ended names known text ≡ Ok rule → IsGood names rule
unfolding ended
ended-good names known text rule g e =
    let (v, read, is) = bound (as_word wrong.Verdict (verdict_spelling names text)) (λ (v : Verdict). Ok (record known { verdict = v })) rule e in
    let same : record known { verdict = v } ≡ rule = cc in
    subst (IsGood names) same (record {
      number = g.number;
      left = g.left;
      senders = g.senders;
      filter = g.filter;
      skip = g.skip;
      verdict = verdict-good names text v (word-read wrong.Verdict (verdict_spelling names text) v read);
    })

skipping-good : (names : List (List ℕ)) (known : Rule) (text : List ℕ) (rule : Rule) → IsGood names known → skipping names known text ≡ Ok rule → IsGood names rule
unfolding skipping
skipping-good names known text rule g e =
    part-good names (bytes_eq (word text) (codes "skip")) (ok_or (small_spelling (second text)) wrong.Skip) (λ (skip : ℕ). ended names (record known { skip = skip }) (beyond text)) (ended names known text) rule
    (λ skip read rest. ended-good names (record known { skip = skip }) (beyond text) rule (record {
      number = g.number;
      left = g.left;
      senders = g.senders;
      filter = g.filter;
      skip = decimal-below (second text) skip (some-read (small_spelling (second text)) wrong.Skip skip read);
      verdict = g.verdict;
    }) rest)
    (λ rest. ended-good names known text rule g rest) e

id-part-good : (names : List (List ℕ)) (known : Rule) (text : List ℕ) (rule : Rule) → IsGood names known → with_id names known text ≡ Ok rule → IsGood names rule
unfolding with_id
id-part-good names known text rule g e =
    part-good names (bytes_eq (word text) (codes "id")) (ok_or (id_spelling (second text)) wrong.Identifier) (λ (filter : CanFilter). skipping names (record known { filter = filter }) (beyond text)) (skipping names known text) rule
    (λ filter read rest. skipping-good names (record known { filter = filter }) (beyond text) rule (record {
      number = g.number;
      left = g.left;
      senders = g.senders;
      filter = id-good (second text) filter (some-read (id_spelling (second text)) wrong.Identifier filter read);
      skip = g.skip;
      verdict = g.verdict;
    }) rest)
    (λ rest. skipping-good names known text rule g rest) e

senders-good : (names : List (List ℕ)) (known : Rule) (text : List ℕ) (rule : Rule) → IsGood names known → with_senders names known text ≡ Ok rule → IsGood names rule
unfolding with_senders
senders-good names known text rule g e =
    part-good names (bytes_eq (word text) (codes "from")) (as_word wrong.Senders (set_spelling names (second text))) (λ (senders : IfaceSet). with_id names (record known { senders = Some senders }) (beyond text)) (with_id names known text) rule
    (λ senders read rest. id-part-good names (record known { senders = Some senders }) (beyond text) rule (record {
      number = g.number;
      left = g.left;
      senders = set-good names (second text) senders (word-read wrong.Senders (set_spelling names (second text)) senders read);
      filter = g.filter;
      skip = g.skip;
      verdict = g.verdict;
    }) rest)
    (λ rest. id-part-good names known text rule g rest) e

start-good : (names : List (List ℕ)) (left : Option ℕ) → IsCount left → IsGood names (rule_of left)
start-good names left count = record {
  number = refl;
  left = count;
  senders = tt;
  filter = record { id = omega arith; mask = omega arith; plain = refl };
  skip = omega arith;
  verdict = tt;
}

pub rule-good : (names : List (List ℕ)) (text : List ℕ) (rule : Rule) → rule_spelling names text ≡ Ok rule → IsGood names rule
unfolding rule_spelling
rule-good names text rule e = by_test (bytes_eq (word text) (codes "always")) e
  where
    counted : Result Rule WrongWord
    counted = if bytes_eq (word text) (codes "next") then (ok_or (count_spelling (second text)) wrong.Count >>= λ count. with_senders names (rule_of (Some count)) (beyond text)) else Err wrong.Beginning

    next : counted ≡ Ok rule → IsGood names rule
    next e =
        part-good names (bytes_eq (word text) (codes "next")) (ok_or (count_spelling (second text)) wrong.Count) (λ (count : ℕ). with_senders names (rule_of (Some count)) (beyond text)) (Err wrong.Beginning) rule
        (λ count read rest. senders-good names (rule_of (Some count)) (beyond text) rule (start-good names (Some count) (count-good (second text) count (some-read (count_spelling (second text)) wrong.Count count read))) rest)
        (λ none. absurd (cc none)) e

    by_test : (b : Bool) → (if b then with_senders names (rule_of None) (after text) else counted) ≡ Ok rule → IsGood names rule
    by_test true e = senders-good names (rule_of None) (after text) rule (start-good names None tt) e
    by_test false e = next e
