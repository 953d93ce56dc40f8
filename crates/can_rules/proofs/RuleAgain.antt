use Rattle.std.proofs.Common.{◌≡◌, ℕ, ◌+◌, ◌-◌, ◌^◌, ◌<◌, ◌≤◌, ◌==◌, Bool, true, false, List, [], ◌∷◌, ◌++◌, length, Option, Some, None, Result, Ok, Err, if◌then◌else◌, refl, ap, sym, ◌∙◌, arith, append_assoc, append-nil, codes}
use Rattle.std.specs.Prelude.{decimal, nat_lt, nat_le, bit_and, ◌&&◌}
use Rattle.std.specs.Option.{ok_or, option_and_then}
use Rattle.std.specs.Str.{bytes_eq}
use Rattle.std.proofs.lemmas.Bool.{and_parts}
use Rattle.std.proofs.lemmas.Bool.Decides.{nat_tests, Decides-eqb}
use Rattle.can_frame.specs.FrameText.{digits}
use Rattle.can_frame.specs.Names.{AreNames}
use Rattle.can_frame.specs.Numbers.{number_in}
use Rattle.can_frame.specs.declared.iface.IfaceSet.{IfaceSet}
use Rattle.can_frame.proofs.Numerals.{value-digits}
use Rattle.can_filter.specs.Filters.{CanFilter, everything}
use Rattle.can_fault.specs.Scripts.{word, after, set_spelling, verdict_spelling}
use Rattle.can_fault.specs.declared.script_lines.LineFault.{LineFault}
use Rattle.can_fault.specs.declared.verdict.Verdict.{Verdict}
use Rattle.can_rules.specs.declared.rule.Rule.{Rule}
use Rattle.can_rules.specs.declared.rule_words.WrongWord.{WrongWord}
use Rattle.can_rules.specs.declared.rule_words.WrongWord.TheVariants as wrong
use Rattle.can_rules.specs.RuleWords.{◌>>=◌, second, beyond, as_word, small_spelling, some_of, count_spelling, of_standard, of_extended, of_words, masked_spelling, plain_spelling, before_colon, mask_in, id_spelling, ended, skipping, with_id, with_senders, rule_of, rule_spelling}
use Rattle.can_rules.specs.RuleText.{count_words, filter_words, id_words, is_one_extended_id, is_open_filter, is_standard, rule_words, senders_words, set_words, skip_words, verdict_words}
use Rattle.can_rules.specs.Plans.{numbered}
use Rattle.can_rules.proofs.Cuts.{Lacks, lacks-append, lacks-decimal, spaceless-digits, colonless-digits, front-cut, rest-cut, none-cut, word-cut, after-cut}
use Rattle.can_rules.proofs.GoodRules.{AreSenders, IsCount, IsFilter, IsGood, extended_of, masked_of, rule-good, standard_of}
use Rattle.can_rules.proofs.Reading.{number-again}
use Rattle.can_rules.proofs.SetAgain.{set-again}
use Rattle.can_rules.proofs.VerdictAgain.{IsLast, verdict-again}

-- The words written for a rule are read back as that rule. Each part is written with a space before it.

ended-again : (names : List (List ℕ)) (known : Rule) (verdict : Verdict) (text : List ℕ) → verdict_spelling names text ≡ Ok verdict → ended names known text ≡ Ok (record known { verdict = verdict })
unfolding ended
ended-again names known verdict text read = ap (λ (r : Result Verdict LineFault). as_word wrong.Verdict r >>= λ v. Ok (record known { verdict = v })) read

-- ---- how many attempts a rule skips

-- The text from `skip` to the end of the rule, without the space before it.
pub record SkipText (names : List (List ℕ)) (k : ℕ) (rest : List ℕ) : Type 0 where
  pub text : List ℕ
  pub written : skip_words k ++ 32 ∷ rest ≡ 32 ∷ text
  pub from : bytes_eq (word text) (codes "from") ≡ false
  pub id : bytes_eq (word text) (codes "id") ≡ false
  pub read : (known : Rule) → known.skip ≡ 0 → skipping names known text ≡ ended names (record known { skip = k }) rest

skip-read : (names : List (List ℕ)) (known : Rule) (k : ℕ) (spelled rest : List ℕ) → Lacks 32 spelled → small_spelling spelled ≡ Some k
    → skipping names known (codes "skip " ++ (spelled ++ 32 ∷ rest)) ≡ ended names (record known { skip = k }) rest
unfolding skipping
skip-read names known k spelled rest lacks read =
    let on : Option ℕ → List ℕ → Result Rule WrongWord = λ o t. ok_or o wrong.Skip >>= λ skip. ended names (record known { skip = skip }) t in
    ap (λ (w : List ℕ). on (small_spelling w) (after (spelled ++ 32 ∷ rest))) (word-cut spelled rest lacks)
    ∙ ap (λ (o : Option ℕ). on o (after (spelled ++ 32 ∷ rest))) read
    ∙ ap (λ (t : List ℕ). ended names (record known { skip = k }) t) (after-cut spelled rest lacks)

none-skipped : (names : List (List ℕ)) (known : Rule) (text : List ℕ) → bytes_eq (word text) (codes "skip") ≡ false → skipping names known text ≡ ended names known text
unfolding skipping
none-skipped names known text other = ap (λ (b : Bool). if b then (ok_or (small_spelling (second text)) wrong.Skip >>= λ skip. ended names (record known { skip = skip }) (beyond text)) else ended names known text) other

skip-again : (names : List (List ℕ)) (k : ℕ) (rest : List ℕ) → k < 10 ^ 8 → IsLast rest → SkipText names k rest
unfolding skip_words
skip-again names k rest few last = by_test (k == 0) refl (Decides-eqb k 0).0
  where
    none : (known : Rule) → known.skip ≡ 0 → k ≡ 0 → ◌≡◌ {A = Rule} known (record known { skip = k })
    none known first is = ap (λ (n : ℕ). record known { skip = n }) (first ∙ sym is)

    by_test : (b : Bool) → (k == 0) ≡ b → (b ≡ true → k ≡ 0) → SkipText names k rest
    by_test true is none_is = record {
      text = rest;
      written = ap (λ (b : Bool). (if b then [] else codes " skip " ++ decimal k) ++ 32 ∷ rest) is;
      from = last.from;
      id = last.id;
      read = λ known first. none-skipped names known rest last.skip ∙ ap (λ (r : Rule). ended names r rest) (none known first (none_is refl));
    }
    by_test false is none_is = record {
      text = codes "skip " ++ (decimal k ++ 32 ∷ rest);
      written = ap (λ (b : Bool). (if b then [] else codes " skip " ++ decimal k) ++ 32 ∷ rest) is ∙ append_assoc (codes " skip ") (decimal k) (32 ∷ rest);
      from = refl;
      id = refl;
      read = λ known first. skip-read names known k (decimal k) rest (lacks-decimal 32 k (omega arith) (omega (arith, few))) (number-again 8 k (omega arith) few (omega (arith, few)));
    }

-- ---- identifiers

lt-true : (a b : ℕ) → a < b → nat_lt a b ≡ true
lt-true a b h = grind (arith, nat_tests)

lt-from : (a b : ℕ) → nat_lt a b ≡ true → a < b
lt-from a b h = grind (arith, nat_tests)

le-from : (a b : ℕ) → nat_le a b ≡ true → a ≤ b
le-from a b h = grind (arith, nat_tests)

-- An identifier that is written without a mask is read back.
plain-read : (text : List ℕ) → Lacks 58 text → id_spelling text ≡ plain_spelling text
plain-read text lacks = ap (λ (t : List ℕ). if length t == 0 then plain_spelling text else masked_spelling (before_colon text) t) (none-cut 58 text lacks)

three-read : (n : ℕ) → n < 2 ^ 11 → plain_spelling (digits 16 3 n) ≡ Some (standard_of n)
unfolding plain_spelling
three-read n h =
    let read : number_in 16 8 (digits 16 3 n) ≡ Some n = value-digits 16 3 n (omega arith) (omega arith) (omega (arith, h)) in
    ap (option_and_then of_standard) read ∙ ap (λ (b : Bool). if b then Some (standard_of n) else None) (lt-true n (2 ^ 11) h)

eight-read : (n : ℕ) → n < 2 ^ 29 → plain_spelling (digits 16 8 n) ≡ Some (extended_of n)
unfolding plain_spelling
eight-read n h =
    let read : number_in 16 8 (digits 16 8 n) ≡ Some n = value-digits 16 8 n (omega arith) (omega arith) (omega (arith, h)) in
    ap (option_and_then of_extended) read ∙ ap (λ (b : Bool). if b then Some (extended_of n) else None) (lt-true n (2 ^ 29) h)

-- An identifier word that is written with a mask is read back.
number-read : (n : ℕ) → n < 2 ^ 32 → number_in 16 8 (digits 16 8 n) ≡ Some n
number-read n h = value-digits 16 8 n (omega arith) (omega arith) (omega (arith, h))

both-read : (f : CanFilter) → IsFilter f → masked_spelling (digits 16 8 f.id) (digits 16 8 f.mask) ≡ Some f
unfolding masked_spelling
both-read f g =
    let on : Option ℕ → Option ℕ → Option CanFilter = λ one other. option_and_then (λ i. option_and_then (λ m. of_words i m) other) one in
    ap (λ (o : Option ℕ). on o (number_in 16 8 (digits 16 8 f.mask))) (number-read f.id g.id)
    ∙ ap (λ (o : Option ℕ). on (Some f.id) o) (number-read f.mask g.mask)
    ∙ ap (λ (b : Bool). if b then Some (masked_of f.id f.mask) else None) g.plain

masked-read : (id mask : List ℕ) → Lacks 58 id → (length mask == 0) ≡ false → id_spelling (id ++ 58 ∷ mask) ≡ masked_spelling id mask
masked-read id mask lacks some =
    let text : List ℕ = id ++ 58 ∷ mask in
    ap (λ (t : List ℕ). if length t == 0 then plain_spelling text else masked_spelling (before_colon text) t) (rest-cut 58 id mask refl lacks)
    ∙ ap (λ (b : Bool). if b then plain_spelling text else masked_spelling (before_colon text) mask) some
    ∙ ap (λ (t : List ℕ). masked_spelling t mask) (front-cut 58 id mask refl lacks)

-- The text of a filter is read back as the same filter.
filter-read : (f : CanFilter) → IsFilter f → id_spelling (filter_words f) ≡ Some f
unfolding filter_words
filter-read f g = by_kind (is_standard f) (is_one_extended_id f) refl refl
  where
    standard : is_standard f ≡ true → id_spelling (digits 16 3 f.id) ≡ Some f
    standard is =
        let parts = and_parts (f.mask == 2147485695) (nat_lt f.id (2 ^ 11)) is in
        plain-read (digits 16 3 f.id) (colonless-digits 16 3 f.id)
        ∙ three-read f.id (lt-from f.id (2 ^ 11) parts.1)
        ∙ ap (λ (m : ℕ). Some (masked_of f.id m)) (sym ((Decides-eqb f.mask 2147485695).0 parts.0))

    extended : is_one_extended_id f ≡ true → id_spelling (digits 16 8 (f.id - 2147483648)) ≡ Some f
    extended is =
        let parts = and_parts (f.mask == 2684354559 && nat_le 2147483648 f.id) (nat_lt f.id (2147483648 + 2 ^ 29)) is in
        let first = and_parts (f.mask == 2684354559) (nat_le 2147483648 f.id) parts.0 in
        let low = le-from 2147483648 f.id first.1 in
        let high = lt-from f.id (2147483648 + 2 ^ 29) parts.1 in
        plain-read (digits 16 8 (f.id - 2147483648)) (colonless-digits 16 8 (f.id - 2147483648))
        ∙ eight-read (f.id - 2147483648) (omega (arith, low, high))
        ∙ ap (λ (i : ℕ). Some (masked_of i 2684354559)) (omega (arith, low))
        ∙ ap (λ (m : ℕ). Some (masked_of f.id m)) (sym ((Decides-eqb f.mask 2684354559).0 first.0))

    by_kind : (a b : Bool) → is_standard f ≡ a → is_one_extended_id f ≡ b → id_spelling (if a then digits 16 3 f.id else if b then digits 16 8 (f.id - 2147483648) else digits 16 8 f.id ++ 58 ∷ digits 16 8 f.mask) ≡ Some f
    by_kind true b is other = standard is
    by_kind false true is other = extended other
    by_kind false false is other = masked-read (digits 16 8 f.id) (digits 16 8 f.mask) (colonless-digits 16 8 f.id) refl ∙ both-read f g

filter-spaceless : (f : CanFilter) → Lacks 32 (filter_words f)
unfolding filter_words
filter-spaceless f = by_kind (is_standard f) (is_one_extended_id f)
  where
    by_kind : (a b : Bool) → Lacks 32 (if a then digits 16 3 f.id else if b then digits 16 8 (f.id - 2147483648) else digits 16 8 f.id ++ 58 ∷ digits 16 8 f.mask)
    by_kind true b = spaceless-digits 16 3 f.id
    by_kind false true = spaceless-digits 16 8 (f.id - 2147483648)
    by_kind false false = lacks-append 32 (digits 16 8 f.id) (58 ∷ digits 16 8 f.mask) (spaceless-digits 16 8 f.id) (refl, spaceless-digits 16 8 f.mask)

pub record IdText (names : List (List ℕ)) (f : CanFilter) (rest : List ℕ) : Type 0 where
  pub text : List ℕ
  pub written : id_words f ++ 32 ∷ rest ≡ 32 ∷ text
  pub from : bytes_eq (word text) (codes "from") ≡ false
  pub read : (known : Rule) → known.filter ≡ everything → with_id names known text ≡ skipping names (record known { filter = f }) rest

id-read : (names : List (List ℕ)) (known : Rule) (f : CanFilter) (spelled rest : List ℕ) → Lacks 32 spelled → id_spelling spelled ≡ Some f
    → with_id names known (codes "id " ++ (spelled ++ 32 ∷ rest)) ≡ skipping names (record known { filter = f }) rest
unfolding with_id
id-read names known f spelled rest lacks read =
    let on : Option CanFilter → List ℕ → Result Rule WrongWord = λ o t. ok_or o wrong.Identifier >>= λ filter. skipping names (record known { filter = filter }) t in
    ap (λ (w : List ℕ). on (id_spelling w) (after (spelled ++ 32 ∷ rest))) (word-cut spelled rest lacks)
    ∙ ap (λ (o : Option CanFilter). on o (after (spelled ++ 32 ∷ rest))) read
    ∙ ap (λ (t : List ℕ). skipping names (record known { filter = f }) t) (after-cut spelled rest lacks)

none-named : (names : List (List ℕ)) (known : Rule) (text : List ℕ) → bytes_eq (word text) (codes "id") ≡ false → with_id names known text ≡ skipping names known text
unfolding with_id
none-named names known text other = ap (λ (b : Bool). if b then (ok_or (id_spelling (second text)) wrong.Identifier >>= λ filter. skipping names (record known { filter = filter }) (beyond text)) else skipping names known text) other

open-filter : (f : CanFilter) → is_open_filter f ≡ true → f ≡ everything
open-filter f is =
    let parts = and_parts (f.id == 0) (f.mask == 0) is in
    ap (λ (i : ℕ). masked_of i f.mask) ((Decides-eqb f.id 0).0 parts.0) ∙ ap (λ (m : ℕ). masked_of 0 m) ((Decides-eqb f.mask 0).0 parts.1)

id-again : (names : List (List ℕ)) (f : CanFilter) (rest : List ℕ) → IsFilter f → bytes_eq (word rest) (codes "from") ≡ false → bytes_eq (word rest) (codes "id") ≡ false → IdText names f rest
unfolding id_words
id-again names f rest g no_from no_id = by_test (is_open_filter f) refl
  where
    by_test : (b : Bool) → is_open_filter f ≡ b → IdText names f rest
    by_test true is = record {
      text = rest;
      written = ap (λ (b : Bool). (if b then [] else codes " id " ++ filter_words f) ++ 32 ∷ rest) is;
      from = no_from;
      read = λ known plain. none-named names known rest no_id ∙ ap (λ (k : CanFilter). skipping names (record known { filter = k }) rest) (plain ∙ sym (open-filter f is));
    }
    by_test false is = record {
      text = codes "id " ++ (filter_words f ++ 32 ∷ rest);
      written = ap (λ (b : Bool). (if b then [] else codes " id " ++ filter_words f) ++ 32 ∷ rest) is ∙ append_assoc (codes " id ") (filter_words f) (32 ∷ rest);
      from = refl;
      read = λ known plain. id-read names known f (filter_words f) rest (filter-spaceless f) (filter-read f g);
    }

-- ---- senders

pub record SendersText (names : List (List ℕ)) (senders : Option IfaceSet) (rest : List ℕ) : Type 0 where
  pub text : List ℕ
  pub written : senders_words names senders ++ 32 ∷ rest ≡ 32 ∷ text
  pub read : (known : Rule) → known.senders ≡ None → with_senders names known text ≡ with_id names (record known { senders = senders }) rest

senders-read : (names : List (List ℕ)) (known : Rule) (set : IfaceSet) (list rest : List ℕ) → Lacks 32 list → set_spelling names list ≡ Ok set
    → with_senders names known (codes "from " ++ (list ++ 32 ∷ rest)) ≡ with_id names (record known { senders = Some set }) rest
unfolding with_senders
senders-read names known set list rest lacks read =
    let on : Result IfaceSet LineFault → List ℕ → Result Rule WrongWord = λ r t. as_word wrong.Senders r >>= λ senders. with_id names (record known { senders = Some senders }) t in
    ap (λ (w : List ℕ). on (set_spelling names w) (after (list ++ 32 ∷ rest))) (word-cut list rest lacks)
    ∙ ap (λ (r : Result IfaceSet LineFault). on r (after (list ++ 32 ∷ rest))) read
    ∙ ap (λ (t : List ℕ). with_id names (record known { senders = Some set }) t) (after-cut list rest lacks)

none-sent : (names : List (List ℕ)) (known : Rule) (text : List ℕ) → bytes_eq (word text) (codes "from") ≡ false → with_senders names known text ≡ with_id names known text
unfolding with_senders
none-sent names known text other = ap (λ (b : Bool). if b then (as_word wrong.Senders (set_spelling names (second text)) >>= λ senders. with_id names (record known { senders = Some senders }) (beyond text)) else with_id names known text) other

senders-again : (names : List (List ℕ)) (senders : Option IfaceSet) (rest : List ℕ) → AreNames names → AreSenders names senders → bytes_eq (word rest) (codes "from") ≡ false → SendersText names senders rest
unfolding senders_words
senders-again names None rest are known no_from = record {
  text = rest;
  written = refl;
  read = λ known none. none-sent names known rest no_from ∙ ap (λ (s : Option IfaceSet). with_id names (record known { senders = s }) rest) none;
}
senders-again names (Some set) rest are known no_from =
    let (list, written, lacks, read) = set-again names set are known in
    record {
      text = codes "from " ++ (list ++ 32 ∷ rest);
      written = ap (λ (t : List ℕ). (codes " from" ++ t) ++ 32 ∷ rest) written;
      read = λ known none. senders-read names known set list rest lacks read;
    }

-- ---- how many verdicts a rule gives

start-read : (names : List (List ℕ)) (left : Option ℕ) (rest : List ℕ) → IsCount left → rule_spelling names (count_words left ++ 32 ∷ rest) ≡ with_senders names (rule_of left) rest
unfolding rule_spelling count_words
start-read names None rest count = refl
start-read names (Some n) rest count =
    let on : Option ℕ → List ℕ → Result Rule WrongWord = λ o t. ok_or o wrong.Count >>= λ count. with_senders names (rule_of (Some count)) t in
    let lacks = lacks-decimal 32 n (omega arith) (omega (arith, count.1)) in
    let read : count_spelling (decimal n) ≡ Some n = ap (option_and_then some_of) (number-again 8 n (omega arith) count.1 (omega (arith, count.1))) ∙ ap (λ (b : Bool). if b then None else Some n) (some-count n count.0) in
    ap (rule_spelling names) (append_assoc (codes "next ") (decimal n) (32 ∷ rest))
    ∙ ap (λ (w : List ℕ). on (count_spelling w) (after (decimal n ++ 32 ∷ rest))) (word-cut (decimal n) rest lacks)
    ∙ ap (λ (o : Option ℕ). on o (after (decimal n ++ 32 ∷ rest))) read
    ∙ ap (λ (t : List ℕ). with_senders names (rule_of (Some n)) t) (after-cut (decimal n) rest lacks)
  where
    some-count : (n : ℕ) → 0 < n → (n == 0) ≡ false
    some-count n some = grind (arith, nat_tests)

-- ---- a rule

-- A text of five parts, in which each part after the first begins with a space.
rest-joined : (a b c d e t1 t2 t3 t4 : List ℕ) → e ≡ 32 ∷ t1 → d ++ 32 ∷ t1 ≡ 32 ∷ t2 → c ++ 32 ∷ t2 ≡ 32 ∷ t3 → b ++ 32 ∷ t3 ≡ 32 ∷ t4 → a ++ b ++ c ++ d ++ e ≡ a ++ 32 ∷ t4
rest-joined a b c d e t1 t2 t3 t4 e1 e2 e3 e4 =
    ap (λ (x : List ℕ). a ++ b ++ c ++ d ++ x) e1
    ∙ append_assoc (a ++ b ++ c) d (32 ∷ t1) ∙ ap (λ (x : List ℕ). (a ++ b ++ c) ++ x) e2
    ∙ append_assoc (a ++ b) c (32 ∷ t2) ∙ ap (λ (x : List ℕ). (a ++ b) ++ x) e3
    ∙ append_assoc a b (32 ∷ t3) ∙ ap (λ (x : List ℕ). a ++ x) e4

good-again : (names : List (List ℕ)) (rule : Rule) → AreNames names → IsGood names rule → rule_spelling names (rule_words names rule) ≡ Ok rule
unfolding rule_words
good-again names rule are g =
    let verdict = verdict-again names rule.verdict are g.verdict in
    let skip = skip-again names rule.skip verdict.text g.skip verdict.last in
    let id = id-again names rule.filter skip.text g.filter skip.from skip.id in
    let senders = senders-again names rule.senders id.text are g.senders id.from in
    let start : Rule = rule_of rule.left in
    let sent : Rule = record start { senders = rule.senders } in
    let filtered : Rule = record sent { filter = rule.filter } in
    let skipped : Rule = record filtered { skip = rule.skip } in
    ap (rule_spelling names) (rest-joined (count_words rule.left) (senders_words names rule.senders) (id_words rule.filter) (skip_words rule.skip) (verdict_words names rule.verdict) verdict.text skip.text id.text senders.text verdict.written skip.written id.written senders.written)
    ∙ start-read names rule.left senders.text g.left
    ∙ senders.read start refl
    ∙ id.read sent refl
    ∙ skip.read filtered refl
    ∙ ended-again names skipped rule.verdict verdict.text verdict.read
    ∙ ap (λ (n : ℕ). Ok (record rule { number = n })) (sym g.number)

pub rule-again : (names : List (List ℕ)) (given : List ℕ) (rule : Rule) (number : ℕ) → AreNames names → rule_spelling names given ≡ Ok rule → rule_spelling names (rule_words names (numbered number rule)) ≡ Ok rule
unfolding rule_words
rule-again names given rule number are read = good-again names rule are (rule-good names given rule read)
