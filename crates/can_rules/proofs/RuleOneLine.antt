use Rattle.std.proofs.Common.{◌≡◌, ℕ, ◌==◌, Bool, true, false, List, length, Option, Some, None, Result, Ok, Err, if◌then◌else◌, refl, ap, ◌∙◌, codes}
use Rattle.std.specs.Option.{ok_or, option_and_then}
use Rattle.std.specs.Str.{bytes_eq}
use Rattle.std.proofs.lemmas.Slice.Eq.{bytes_eq-Decides}
use Rattle.can_frame.specs.Numbers.{number_in}
use Rattle.can_frame.specs.declared.iface.IfaceSet.{IfaceSet}
use Rattle.can_fault.specs.Scripts.{word, after, set_spelling, verdict_spelling}
use Rattle.can_fault.specs.declared.script_lines.LineFault.{LineFault}
use Rattle.can_fault.specs.declared.verdict.Verdict.{Verdict}
use Rattle.can_filter.specs.Filters.{CanFilter}
use Rattle.can_rules.specs.declared.rule.Rule.{Rule}
use Rattle.can_rules.specs.declared.rule_words.WrongWord.{WrongWord}
use Rattle.can_rules.specs.declared.rule_words.WrongWord.TheVariants as wrong
use Rattle.can_rules.specs.RuleWords.{◌>>=◌, second, beyond, as_word, small_spelling, some_of, count_spelling, of_standard, of_extended, of_words, masked_spelling, plain_spelling, before_colon, mask_in, id_spelling, ended, skipping, with_id, with_senders, rule_of, rule_spelling}
use Rattle.can_rules.proofs.OneLine.{has_feed, feed-cut, feed-words, then-some, number-one-line, set-one-line, verdict-one-line}

-- The words of a rule contain no line feed.

-- If both steps of a reading succeed, the first step has read a value.
pub bound : {A B : Type 0} (r : Result A WrongWord) (f : A → Result B WrongWord) (x : B) → (r >>= f) ≡ Ok x → (a : A) × (r ≡ Ok a) × (f a ≡ Ok x)
bound (Ok a) f x h = (a, refl, h)
bound (Err e) f x h = absurd (cc h)

pub some-read : {A : Type 0} (o : Option A) (e : WrongWord) (a : A) → ok_or o e ≡ Ok a → o ≡ Some a
some-read (Some b) e a h = cc
some-read None e a h = absurd (cc h)

pub word-read : {A : Type 0} (which : WrongWord) (r : Result A LineFault) (a : A) → as_word which r ≡ Ok a → r ≡ Ok a
word-read which (Ok b) a h = cc
word-read which (Err fault) a h = absurd (cc h)

count-one-line : (text : List ℕ) (n : ℕ) → count_spelling text ≡ Some n → has_feed text ≡ false
count-one-line text n h = let (m, read) = then-some some_of (small_spelling text) n h in number-one-line 10 8 text m read

-- The text of an identifier contains no line feed.
plain-one-line : (text : List ℕ) (f : CanFilter) → plain_spelling text ≡ Some f → has_feed text ≡ false
unfolding plain_spelling
plain-one-line text f h = by_length (length text == 3) (length text == 8) h
  where
    by_length : (three eight : Bool) → (if three then option_and_then of_standard (number_in 16 8 text) else if eight then option_and_then of_extended (number_in 16 8 text) else None) ≡ Some f → has_feed text ≡ false
    by_length true eight e = let (n, read) = then-some of_standard (number_in 16 8 text) f e in number-one-line 16 8 text n read
    by_length false true e = let (n, read) = then-some of_extended (number_in 16 8 text) f e in number-one-line 16 8 text n read
    by_length false false e = absurd (cc e)

both-read : (one other : Option ℕ) (f : CanFilter) → option_and_then (λ i. option_and_then (λ m. of_words i m) other) one ≡ Some f → (i : ℕ) × (m : ℕ) × (one ≡ Some i) × (other ≡ Some m)
both-read (Some i) (Some m) f h = (i, m, refl, refl)
both-read (Some i) None f h = absurd (cc h)
both-read None other f h = absurd (cc h)

masked-one-line : (id mask : List ℕ) (f : CanFilter) → masked_spelling id mask ≡ Some f → (has_feed id ≡ false) × (has_feed mask ≡ false)
unfolding masked_spelling
masked-one-line id mask f h =
    let (i, m, one, other) = both-read (number_in 16 8 id) (number_in 16 8 mask) f h in
    (number-one-line 16 8 id i one, number-one-line 16 8 mask m other)

id-one-line : (text : List ℕ) (f : CanFilter) → id_spelling text ≡ Some f → has_feed text ≡ false
id-one-line text f h = by_test (length (mask_in text) == 0) h
  where
    by_test : (b : Bool) → (if b then plain_spelling text else masked_spelling (before_colon text) (mask_in text)) ≡ Some f → has_feed text ≡ false
    by_test true e = plain-one-line text f e
    by_test false e = let parts = masked-one-line (before_colon text) (mask_in text) f e in feed-cut 58 text refl parts.0 parts.1

-- An optional part of a rule, which begins with a keyword if the part is present.
part : {A : Type 0} (text key : List ℕ) (read : Result A WrongWord) (on : A → Result Rule WrongWord) (other : Result Rule WrongWord) (rule : Rule) → has_feed key ≡ false
    → ((a : A) → read ≡ Ok a → has_feed (second text) ≡ false) → ((a : A) → on a ≡ Ok rule → has_feed (beyond text) ≡ false) → (other ≡ Ok rule → has_feed text ≡ false)
    → (if bytes_eq (word text) key then (read >>= on) else other) ≡ Ok rule → has_feed text ≡ false
part text key read on other rule plain one rest without h = by_test (bytes_eq (word text) key) (bytes_eq-Decides (word text) key).0 h
  where
    by_test : (b : Bool) → (b ≡ true → word text ≡ key) → (if b then (read >>= on) else other) ≡ Ok rule → has_feed text ≡ false
    by_test true is e =
        let (a, first, more) = bound read on rule e in
        feed-words text (ap has_feed (is refl) ∙ plain) (feed-words (after text) (one a first) (rest a more))
    by_test false is e = without e

ended-one-line : (names : List (List ℕ)) (known : Rule) (text : List ℕ) (rule : Rule) → ended names known text ≡ Ok rule → has_feed text ≡ false
unfolding ended
ended-one-line names known text rule h =
    let (verdict, read, rest) = bound (as_word wrong.Verdict (verdict_spelling names text)) (λ (v : Verdict). Ok (record known { verdict = v })) rule h in
    verdict-one-line names text verdict (word-read wrong.Verdict (verdict_spelling names text) verdict read)

skipping-one-line : (names : List (List ℕ)) (known : Rule) (text : List ℕ) (rule : Rule) → skipping names known text ≡ Ok rule → has_feed text ≡ false
unfolding skipping
skipping-one-line names known text rule h =
    part text (codes "skip") (ok_or (small_spelling (second text)) wrong.Skip) (λ (skip : ℕ). ended names (record known { skip = skip }) (beyond text)) (ended names known text) rule refl
    (λ skip e. number-one-line 10 8 (second text) skip (some-read (small_spelling (second text)) wrong.Skip skip e))
    (λ skip e. ended-one-line names (record known { skip = skip }) (beyond text) rule e) (λ e. ended-one-line names known text rule e) h

id-part-one-line : (names : List (List ℕ)) (known : Rule) (text : List ℕ) (rule : Rule) → with_id names known text ≡ Ok rule → has_feed text ≡ false
unfolding with_id
id-part-one-line names known text rule h =
    part text (codes "id") (ok_or (id_spelling (second text)) wrong.Identifier) (λ (filter : CanFilter). skipping names (record known { filter = filter }) (beyond text)) (skipping names known text) rule refl
    (λ filter e. id-one-line (second text) filter (some-read (id_spelling (second text)) wrong.Identifier filter e))
    (λ filter e. skipping-one-line names (record known { filter = filter }) (beyond text) rule e) (λ e. skipping-one-line names known text rule e) h

senders-one-line : (names : List (List ℕ)) (known : Rule) (text : List ℕ) (rule : Rule) → with_senders names known text ≡ Ok rule → has_feed text ≡ false
unfolding with_senders
senders-one-line names known text rule h =
    part text (codes "from") (as_word wrong.Senders (set_spelling names (second text))) (λ (senders : IfaceSet). with_id names (record known { senders = Some senders }) (beyond text)) (with_id names known text) rule refl
    (λ senders e. set-one-line names (second text) senders (word-read wrong.Senders (set_spelling names (second text)) senders e))
    (λ senders e. id-part-one-line names (record known { senders = Some senders }) (beyond text) rule e) (λ e. id-part-one-line names known text rule e) h

pub rule-one-line : (names : List (List ℕ)) (text : List ℕ) (rule : Rule) → rule_spelling names text ≡ Ok rule → has_feed text ≡ false
unfolding rule_spelling
rule-one-line names text rule h = by_test (bytes_eq (word text) (codes "always")) (bytes_eq-Decides (word text) (codes "always")).0 h
  where
    counted : Result Rule WrongWord
    counted = if bytes_eq (word text) (codes "next") then (ok_or (count_spelling (second text)) wrong.Count >>= λ count. with_senders names (rule_of (Some count)) (beyond text)) else Err wrong.Beginning

    next : counted ≡ Ok rule → has_feed text ≡ false
    next e =
        part text (codes "next") (ok_or (count_spelling (second text)) wrong.Count) (λ (count : ℕ). with_senders names (rule_of (Some count)) (beyond text)) (Err wrong.Beginning) rule refl
        (λ count e. count-one-line (second text) count (some-read (count_spelling (second text)) wrong.Count count e))
        (λ count e. senders-one-line names (rule_of (Some count)) (beyond text) rule e) (λ e. absurd (cc e)) e

    by_test : (b : Bool) → (b ≡ true → word text ≡ codes "always") → (if b then with_senders names (rule_of None) (after text) else counted) ≡ Ok rule → has_feed text ≡ false
    by_test true is e = feed-words text (ap has_feed (is refl)) (senders-one-line names (rule_of None) (after text) rule e)
    by_test false is e = next e
