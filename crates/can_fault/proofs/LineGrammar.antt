use Rattle.std.proofs.Common.{◌≡◌, ◌⊎◌, ◌<◌, ◌≤◌, ℕ, ◌+◌, Bool, true, false, cond, not, ◌==◌, List, [], ◌∷◌, ◌++◌, take, drop, length, get_or, Option}
use Rattle.std.proofs.Common.{Some, None, Result, Ok, Err, refl, sym, ap, ◌∙◌, subst, inl, inr, ⊎_elim, arith, rules, tests, if◌then◌else◌}
use Rattle.std.proofs.Common.{append_assoc, is_some, codes}
use Rattle.std.specs.Char.{is_ascii_digit}
use Rattle.std.specs.List.{list_all, position_or_len}
use Rattle.std.specs.Option.{ok_or}
use Rattle.std.specs.Str.{bytes_eq}
use Rattle.std.specs.Str.Parse.{digits_value}
use Rattle.std.proofs.lemmas.Bool.{cases_lt}
use Rattle.std.proofs.lemmas.Bool.Decides.{nat_tests}
use Rattle.std.proofs.lemmas.List.{at_drop_all, take_at, drop_at, length-append}
use Rattle.std.proofs.lemmas.List.Sums.{split_at_first, passes_at_first}
use Rattle.std.proofs.lemmas.Slice.Eq.{bytes_eq-Decides}
use Rattle.can_frame.specs.Names.{names_in, is_name, place_of}
use Rattle.can_frame.specs.declared.iface.IfaceSet.{IfaceSet}
use Rattle.can_fault.specs.Grammar.{kind_word, SpellsSet, SpellsVerdict, SpellsEntry, LacksInterface}
use Rattle.can_fault.specs.Scripts.{◌>>=◌, word, after, is_number, number_spelling, set_named, set_spelling, kind_spelling, local_spelling, verdict_spelling, Saying, entry_spelling, line_spelling}
use Rattle.can_fault.specs.declared.script_lines.LineFault.{LineFault}
use Rattle.can_fault.specs.declared.script_lines.LineFault.TheVariants as line
use Rattle.can_fault.specs.declared.verdict.GlobalKind.TheVariants as global
use Rattle.can_fault.specs.declared.verdict.LocalKind.{LocalKind}
use Rattle.can_fault.specs.declared.verdict.LocalKind.TheVariants as local
use Rattle.can_fault.specs.declared.verdict.Verdict.{Verdict}
use Rattle.can_fault.specs.declared.verdict.Verdict.TheVariants.{Good, Global, Local, LastBit}

-- Reading a line gives exactly what the grammar says.

abbrev is_space : ℕ → Bool
is_space b = b == 32

-- a text is its first word, a space and the rest, or nothing follows its first word
spaced : (text : List ℕ) → (text ≡ word text ++ 32 ∷ after text) ⊎ (after text ≡ [])
spaced text = ⊎_elim (λ h. inl (parts h)) (λ h. inr (at_drop_all (λ l. l) text (position_or_len is_space text + 1) (omega (arith, h)))) (cases_lt (position_or_len is_space text) (length text))
  where
    parts : position_or_len is_space text < length text → text ≡ word text ++ 32 ∷ after text
    parts h =
        let at : get_or text (position_or_len is_space text) 0 ≡ 32 = search (rules, tests, passes_at_first is_space text 0 h) in
        split_at_first is_space text 0 h ∙ ap (λ (b : ℕ). word text ++ b ∷ after text) at

-- ---- from what is read to the grammar

both : (a b : Bool) (s set : IfaceSet) → (if a then (if b then Ok s else Err line.UnknownInterface) else Err line.BadLine) ≡ Ok set → (a ≡ true) × (b ≡ true) × (set ≡ s)
both true true s set e = (refl, refl, cc)
both true false s set e = cc
both false b s set e = cc

set-spelled : (names : List (List ℕ)) (text : List ℕ) (set : IfaceSet) → set_spelling names text ≡ Ok set → SpellsSet names text set
set-spelled names text set e = both _ _ (set_named names (names_in text)) set e

kind-spelled : (text : List ℕ) (kind : LocalKind) → kind_spelling text ≡ Some kind → text ≡ kind_word kind
kind-spelled text kind e = choice _ _ _ e (bytes_eq-Decides text (codes "stuff")).0 (bytes_eq-Decides text (codes "crc")).0 (bytes_eq-Decides text (codes "form")).0
  where
    choice : (a b c : Bool) → (if a then Some local.Stuff else if b then Some local.Crc else if c then Some local.Form else None) ≡ Some kind
        → (a ≡ true → text ≡ codes "stuff") → (b ≡ true → text ≡ codes "crc") → (c ≡ true → text ≡ codes "form") → text ≡ kind_word kind
    choice true b c e f g h = let same : local.Stuff ≡ kind = cc in f refl ∙ ap kind_word same
    choice false true c e f g h = let same : local.Crc ≡ kind = cc in g refl ∙ ap kind_word same
    choice false false true e f g h = let same : local.Form ≡ kind = cc in h refl ∙ ap kind_word same
    choice false false false e f g h = cc

bound_local : (o : Option LocalKind) (r : Result IfaceSet LineFault) (v : Verdict) → (ok_or o line.BadLine >>= λ kind. r >>= λ set. Ok (Local set kind)) ≡ Ok v → (kind : LocalKind) × (set : IfaceSet) × (o ≡ Some kind) × (r ≡ Ok set) × (Local set kind ≡ v)
bound_local None r v e = cc
bound_local (Some kind) (Err fault) v e = cc
bound_local (Some kind) (Ok set) v e = (kind, set, refl, refl, cc)

local-spelled : (names : List (List ℕ)) (text : List ℕ) (v : Verdict) → local_spelling names text ≡ Ok v → (kind : LocalKind) × (set : IfaceSet) × (list : List ℕ) × (text ≡ kind_word kind ++ 32 ∷ list) × SpellsSet names list set × (Local set kind ≡ v)
unfolding local_spelling
local-spelled names text v e =
    let (kind, set, k, s, same) = bound_local (kind_spelling (word text)) (set_spelling names (after text)) v e in
    let whole : text ≡ word text ++ 32 ∷ after text = ⊎_elim (λ h. h) (λ none. let bad = ap (set_spelling names) none in cc) (spaced text) in
    (kind, set, after text, whole ∙ ap (λ (w : List ℕ). w ++ 32 ∷ after text) (kind-spelled (word text) kind k), set-spelled names (after text) set s, same)

verdict-spelled : (names : List (List ℕ)) (text : List ℕ) (v : Verdict) → verdict_spelling names text ≡ Ok v → SpellsVerdict names text v
unfolding verdict_spelling local_spelling
verdict-spelled names text v e =
    choice _ _ _ _ _ (local_spelling names (after text)) e (bytes_eq-Decides text (codes "good")).0 (bytes_eq-Decides text (codes "lastbit")).0 (bytes_eq-Decides text (codes "global bit")).0 (bytes_eq-Decides text (codes "global form")).0 behind
  where
    choice : (a b c d f : Bool) (r : Result Verdict LineFault)
        → (if a then Ok Good else if b then Ok LastBit else if c then Ok (Global global.Bit) else if d then Ok (Global global.Form) else if f then r else Err line.BadLine) ≡ Ok v
        → (a ≡ true → text ≡ codes "good") → (b ≡ true → text ≡ codes "lastbit") → (c ≡ true → text ≡ codes "global bit") → (d ≡ true → text ≡ codes "global form")
        → (f ≡ true → r ≡ Ok v → SpellsVerdict names text v) → SpellsVerdict names text v
    choice true b c d f r e g h i j k = subst (SpellsVerdict names text) (let same : Good ≡ v = cc in same) (g refl)
    choice false true c d f r e g h i j k = subst (SpellsVerdict names text) (let same : LastBit ≡ v = cc in same) (h refl)
    choice false false true d f r e g h i j k = subst (SpellsVerdict names text) (let same : Global global.Bit ≡ v = cc in same) (i refl)
    choice false false false true f r e g h i j k = subst (SpellsVerdict names text) (let same : Global global.Form ≡ v = cc in same) (j refl)
    choice false false false false true r e g h i j k = k refl e
    choice false false false false false r e g h i j k = cc

    behind : bytes_eq (word text) (codes "local") ≡ true → local_spelling names (after text) ≡ Ok v → SpellsVerdict names text v
    behind is r =
        let (kind, set, list, spelled, of_set, same) = local-spelled names (after text) v r in
        let first : word text ≡ codes "local" = (bytes_eq-Decides (word text) (codes "local")).0 is in
        let whole : text ≡ word text ++ 32 ∷ after text = ⊎_elim (λ h. h) (λ none. let bad = ap (local_spelling names) none in cc) (spaced text) in
        subst (SpellsVerdict names text) same (list, whole ∙ ap (λ (w : List ℕ). w ++ 32 ∷ after text) first ∙ ap (λ (r : List ℕ). codes "local" ++ 32 ∷ r) spelled, of_set)

-- a number and its verdict, if both are valid
abbrev entry_from : Option ℕ → Result Verdict LineFault → Saying
entry_from number verdict = do
  n ← ok_or number line.BadLine
  v ← verdict
  Ok (Some (n, v))

bound_entry : (o : Option ℕ) (r : Result Verdict LineFault) (n : ℕ) (v : Verdict) → entry_from o r ≡ Ok (Some (n, v)) → (o ≡ Some n) × (r ≡ Ok v)
bound_entry None r n v e = cc
bound_entry (Some m) (Err fault) n v e = cc
bound_entry (Some m) (Ok w) n v e =
    let same : ◌≡◌ {A = ℕ × Verdict} (m, w) (n, v) = cc in
    (ap (λ (p : ℕ × Verdict). Some p.0) same, ap (λ (p : ℕ × Verdict). Ok p.1) same)

number-spelled : (text : List ℕ) (n : ℕ) → number_spelling text ≡ Some n → (is_number text ≡ true) × (n ≡ digits_value 10 text)
number-spelled text n e = choice _ e
  where
    choice : (a : Bool) → (if a then Some (digits_value 10 text) else None) ≡ Some n → (a ≡ true) × (n ≡ digits_value 10 text)
    choice true e = (refl, let same : digits_value 10 text ≡ n = cc in sym same)
    choice false e = cc

entry-spelled : (names : List (List ℕ)) (text : List ℕ) (n : ℕ) (v : Verdict) → entry_spelling names text ≡ Ok (Some (n, v)) → SpellsEntry names text n v
unfolding entry_spelling verdict_spelling
entry-spelled names text n v e =
    let (number, verdict) = bound_entry (number_spelling (word text)) (verdict_spelling names (after text)) n v e in
    let digits = number-spelled (word text) n number in
    let whole : text ≡ word text ++ 32 ∷ after text = ⊎_elim (λ h. h) (λ none. let bad = ap (verdict_spelling names) none in cc) (spaced text) in
    (word text, after text, whole, digits.0, digits.1, verdict-spelled names (after text) v verdict)

pub line-spelled : (names : List (List ℕ)) (text : List ℕ) (n : ℕ) (v : Verdict) → line_spelling names text ≡ Ok (Some (n, v)) → SpellsEntry names text n v
line-spelled names [] n v e = cc
line-spelled names (b ∷ bs) n v e = choice (b == 35) e
  where
    choice : (a : Bool) → (if a then Ok None else entry_spelling names (b ∷ bs)) ≡ Ok (Some (n, v)) → SpellsEntry names (b ∷ bs) n v
    choice true e = cc
    choice false e = entry-spelled names (b ∷ bs) n v e

-- ---- from the grammar to what is read

set-read : (names : List (List ℕ)) (text : List ℕ) (set : IfaceSet) → SpellsSet names text set → set_spelling names text ≡ Ok set
set-read names text set (good, known, same) =
    ap (λ b. if b then (if list_all (λ piece. is_some (place_of names piece)) (names_in text) then Ok (set_named names (names_in text)) else Err line.UnknownInterface) else Err line.BadLine) good
    ∙ ap (λ b. if b then Ok (set_named names (names_in text)) else Err line.UnknownInterface) known
    ∙ ap (λ (s : IfaceSet). Ok s) (sym same)

local-gives : (names : List (List ℕ)) (list : List ℕ) (kind : LocalKind) → verdict_spelling names (codes "local " ++ (kind_word kind ++ 32 ∷ list)) ≡ (set_spelling names list >>= λ set. Ok (Local set kind))
unfolding verdict_spelling local_spelling
local-gives names list local.Stuff = refl
local-gives names list local.Crc = refl
local-gives names list local.Form = refl

verdict-read : (names : List (List ℕ)) (text : List ℕ) (v : Verdict) → SpellsVerdict names text v → verdict_spelling names text ≡ Ok v
unfolding verdict_spelling
verdict-read names text Good e = ap (verdict_spelling names) e
verdict-read names text LastBit e = ap (verdict_spelling names) e
verdict-read names text (Global global.Bit) e = ap (verdict_spelling names) e
verdict-read names text (Global global.Form) e = ap (verdict_spelling names) e
verdict-read names text (Local set kind) (list, e, of_set) = ap (verdict_spelling names) e ∙ local-gives names list kind ∙ ap (λ (r : Result IfaceSet LineFault). r >>= λ s. Ok (Local s kind)) (set-read names list set of_set)

digit_apart : (d : ℕ) → is_ascii_digit d ≡ true → (is_space d ≡ false) × ((d == 35) ≡ false)
digit_apart d h =
    let low : 48 ≤ d = search (rules, tests) in
    (grind (arith, nat_tests), grind (arith, nat_tests))

first_space : (digits rest : List ℕ) → list_all is_ascii_digit digits ≡ true → position_or_len is_space (digits ++ 32 ∷ rest) ≡ length digits
first_space [] rest h = refl
first_space (d ∷ ds) rest h =
    let head : is_ascii_digit d ≡ true = search (rules, tests) in
    let tail : list_all is_ascii_digit ds ≡ true = search (rules, tests) in
    let more = first_space ds rest tail in
    ap (λ b. cond (not b) (1 + position_or_len is_space (ds ++ 32 ∷ rest)) 0) (digit_apart d head).0 ∙ omega (arith, more)

word-digits : (digits rest : List ℕ) → list_all is_ascii_digit digits ≡ true → word (digits ++ 32 ∷ rest) ≡ digits
word-digits digits rest h = ap (λ (n : ℕ). take n (digits ++ 32 ∷ rest)) (first_space digits rest h) ∙ take_at digits (32 ∷ rest) (length digits) refl

after-digits : (digits rest : List ℕ) → list_all is_ascii_digit digits ≡ true → after (digits ++ 32 ∷ rest) ≡ rest
after-digits digits rest h =
    ap (λ (n : ℕ). drop (n + 1) (digits ++ 32 ∷ rest)) (first_space digits rest h)
    ∙ ap (drop (length digits + 1)) (sym (append_assoc digits (32 ∷ []) rest))
    ∙ drop_at (digits ++ 32 ∷ []) rest (length digits + 1) (length-append digits (32 ∷ []))

entry-gives : (names : List (List ℕ)) (digits rest : List ℕ) → is_number digits ≡ true → entry_spelling names (digits ++ 32 ∷ rest) ≡ entry_from (Some (digits_value 10 digits)) (verdict_spelling names rest)
unfolding entry_spelling
entry-gives names digits rest is =
    let all : list_all is_ascii_digit digits ≡ true = search (rules, tests) in
    let text : List ℕ = digits ++ 32 ∷ rest in
    let number : number_spelling (word text) ≡ Some (digits_value 10 digits) = ap number_spelling (word-digits digits rest all) ∙ ap (λ b. if b then Some (digits_value 10 digits) else None) is in
    ap (λ o. entry_from o (verdict_spelling names (after text))) number ∙ ap (λ (r : List ℕ). entry_from (Some (digits_value 10 digits)) (verdict_spelling names r)) (after-digits digits rest all)

line-gives : (names : List (List ℕ)) (digits rest : List ℕ) → is_number digits ≡ true → line_spelling names (digits ++ 32 ∷ rest) ≡ entry_from (Some (digits_value 10 digits)) (verdict_spelling names rest)
line-gives names [] rest is = cc
line-gives names (d ∷ ds) rest is =
    let all : list_all is_ascii_digit (d ∷ ds) ≡ true = search (rules, tests) in
    let head : is_ascii_digit d ≡ true = search (rules, tests) in
    ap (λ b. if b then Ok None else entry_spelling names (d ∷ (ds ++ 32 ∷ rest))) (digit_apart d head).1 ∙ entry-gives names (d ∷ ds) rest is

-- ---- the other fault

one_missing : (a b : Bool) (s : IfaceSet) → (if a then (if b then Ok s else Err line.UnknownInterface) else Err line.BadLine) ≡ Err line.UnknownInterface → (a ≡ true) × (b ≡ false)
one_missing true true s e = cc
one_missing true false s e = (refl, refl)
one_missing false b s e = cc

local_missing : (o : Option LocalKind) (r : Result IfaceSet LineFault) → (ok_or o line.BadLine >>= λ kind. r >>= λ set. Ok (Local set kind)) ≡ Err line.UnknownInterface → (kind : LocalKind) × (o ≡ Some kind) × (r ≡ Err line.UnknownInterface)
local_missing None r e = cc
local_missing (Some kind) (Err line.BadLine) e = cc
local_missing (Some kind) (Err line.UnknownInterface) e = (kind, refl, refl)
local_missing (Some kind) (Ok set) e = cc

-- a text in which only an interface is missing
abbrev LacksAfter : List (List ℕ) → List ℕ → Type 0
LacksAfter names text = (kind : LocalKind) × (list : List ℕ) × (text ≡ kind_word kind ++ 32 ∷ list) × (list_all is_name (names_in list) ≡ true) × (list_all (λ piece. is_some (place_of names piece)) (names_in list) ≡ false)

local-lacks : (names : List (List ℕ)) (text : List ℕ) → local_spelling names text ≡ Err line.UnknownInterface → LacksAfter names text
unfolding local_spelling
local-lacks names text e =
    let (kind, k, missing) = local_missing (kind_spelling (word text)) (set_spelling names (after text)) e in
    let whole : text ≡ word text ++ 32 ∷ after text = ⊎_elim (λ h. h) (λ none. let bad = ap (set_spelling names) none in cc) (spaced text) in
    let (good, lacks) = one_missing _ _ (set_named names (names_in (after text))) missing in
    (kind, after text, whole ∙ ap (λ (w : List ℕ). w ++ 32 ∷ after text) (kind-spelled (word text) kind k), good, lacks)

verdict-lacks : (names : List (List ℕ)) (text : List ℕ) → verdict_spelling names text ≡ Err line.UnknownInterface → (rest : List ℕ) × (text ≡ codes "local " ++ rest) × LacksAfter names rest
unfolding verdict_spelling local_spelling
verdict-lacks names text e = choice _ _ _ _ _ (local_spelling names (after text)) e behind
  where
    choice : (a b c d f : Bool) (r : Result Verdict LineFault)
        → (if a then Ok Good else if b then Ok LastBit else if c then Ok (Global global.Bit) else if d then Ok (Global global.Form) else if f then r else Err line.BadLine) ≡ Err line.UnknownInterface
        → (f ≡ true → r ≡ Err line.UnknownInterface → (rest : List ℕ) × (text ≡ codes "local " ++ rest) × LacksAfter names rest)
        → (rest : List ℕ) × (text ≡ codes "local " ++ rest) × LacksAfter names rest
    choice true b c d f r e k = cc
    choice false true c d f r e k = cc
    choice false false true d f r e k = cc
    choice false false false true f r e k = cc
    choice false false false false true r e k = k refl e
    choice false false false false false r e k = cc

    behind : bytes_eq (word text) (codes "local") ≡ true → local_spelling names (after text) ≡ Err line.UnknownInterface → (rest : List ℕ) × (text ≡ codes "local " ++ rest) × LacksAfter names rest
    behind is r =
        let first : word text ≡ codes "local" = (bytes_eq-Decides (word text) (codes "local")).0 is in
        let whole : text ≡ word text ++ 32 ∷ after text = ⊎_elim (λ h. h) (λ none. let bad = ap (local_spelling names) none in cc) (spaced text) in
        (after text, whole ∙ ap (λ (w : List ℕ). w ++ 32 ∷ after text) first, local-lacks names (after text) r)

entry_missing : (o : Option ℕ) (r : Result Verdict LineFault) → entry_from o r ≡ Err line.UnknownInterface → (n : ℕ) × (o ≡ Some n) × (r ≡ Err line.UnknownInterface)
entry_missing None r e = cc
entry_missing (Some n) (Err line.BadLine) e = cc
entry_missing (Some n) (Err line.UnknownInterface) e = (n, refl, refl)
entry_missing (Some n) (Ok v) e = cc

entry-lacks : (names : List (List ℕ)) (text : List ℕ) → entry_spelling names text ≡ Err line.UnknownInterface → LacksInterface names text
unfolding entry_spelling verdict_spelling
entry-lacks names text e =
    let (n, number, missing) = entry_missing (number_spelling (word text)) (verdict_spelling names (after text)) e in
    let digits = number-spelled (word text) n number in
    let whole : text ≡ word text ++ 32 ∷ after text = ⊎_elim (λ h. h) (λ none. let bad = ap (verdict_spelling names) none in cc) (spaced text) in
    let (rest, local, (kind, list, spelled, good, lacks)) = verdict-lacks names (after text) missing in
    (word text, kind, list, whole ∙ ap (λ (r : List ℕ). word text ++ 32 ∷ r) (local ∙ ap (λ (r : List ℕ). codes "local " ++ r) spelled), digits.0, good, lacks)

pub line-lacks : (names : List (List ℕ)) (text : List ℕ) → line_spelling names text ≡ Err line.UnknownInterface → LacksInterface names text
line-lacks names [] e = cc
line-lacks names (b ∷ bs) e = choice (b == 35) e
  where
    choice : (a : Bool) → (if a then Ok None else entry_spelling names (b ∷ bs)) ≡ Err line.UnknownInterface → LacksInterface names (b ∷ bs)
    choice true e = cc
    choice false e = entry-lacks names (b ∷ bs) e

pub lacks-read : (names : List (List ℕ)) (text : List ℕ) → LacksInterface names text → line_spelling names text ≡ Err line.UnknownInterface
lacks-read names text (digits, kind, list, whole, is, good, lacks) =
    let missing : set_spelling names list ≡ Err line.UnknownInterface =
    ap (λ b. if b then (if list_all (λ piece. is_some (place_of names piece)) (names_in list) then Ok (set_named names (names_in list)) else Err line.UnknownInterface) else Err line.BadLine) good
    ∙ ap (λ b. if b then Ok (set_named names (names_in list)) else Err line.UnknownInterface) lacks in
    ap (line_spelling names) whole ∙ line-gives names digits (codes "local " ++ (kind_word kind ++ 32 ∷ list)) is ∙ ap (entry_from (Some (digits_value 10 digits))) (local-gives names list kind ∙ ap (λ (r : Result IfaceSet LineFault). r >>= λ s. Ok (Local s kind)) missing)

pub grammar-read : (names : List (List ℕ)) (text : List ℕ) (n : ℕ) (v : Verdict) → SpellsEntry names text n v → line_spelling names text ≡ Ok (Some (n, v))
grammar-read names text n v (digits, rest, whole, is, value, spelled) =
    ap (line_spelling names) whole
    ∙ line-gives names digits rest is
    ∙ ap (entry_from (Some (digits_value 10 digits))) (verdict-read names rest v spelled)
    ∙ ap (λ (m : ℕ). Ok (Some (m, v))) (sym value)
