use Rattle.std.proofs.Common.{◌≡◌, ℕ, ◌<◌, ◌==◌, Bool, true, false, ◌&&◌, List, [], ◌∷◌, ◌++◌, length, get_or, Option, Some, None, Result, Ok, Err, if◌then◌else◌, refl, ap, sym, ◌∙◌, ⊎_elim, codes}
use Rattle.std.specs.Prelude.{◌||◌, nat_le}
use Rattle.std.specs.List.{list_any, list_all, before_first, after_first, join_with_byte, position_or_len}
use Rattle.std.specs.Option.{ok_or, option_and_then}
use Rattle.std.proofs.lemmas.Bool.{and_parts, cases_lt}
use Rattle.std.proofs.lemmas.Bool.Decides.{Decides-eqb}
use Rattle.std.proofs.lemmas.List.{take_all}
use Rattle.std.proofs.lemmas.List.Folds.{list_any-append}
use Rattle.std.proofs.lemmas.List.Splits.{join_with_byte-slice_split}
use Rattle.std.proofs.lemmas.List.Sums.{split_at_first, passes_at_first}
use Rattle.std.proofs.lemmas.Slice.Eq.{bytes_eq-Decides}
use Rattle.can_frame.specs.Names.{names_in, is_name, is_name_byte}
use Rattle.can_frame.specs.Numbers.{digit_in, one_more, number_after, number_in}
use Rattle.can_frame.specs.declared.iface.IfaceSet.{IfaceSet}
use Rattle.can_fault.specs.Scripts.{◌>>=◌, word, after, are_known, set_named, set_spelling, kind_spelling, local_spelling, verdict_spelling}
use Rattle.can_fault.specs.declared.script_lines.LineFault.{LineFault}
use Rattle.can_fault.specs.declared.script_lines.LineFault.TheVariants as line
use Rattle.can_fault.specs.declared.verdict.GlobalKind.TheVariants as global
use Rattle.can_fault.specs.declared.verdict.LocalKind.{LocalKind}
use Rattle.can_fault.specs.declared.verdict.LocalKind.TheVariants as local
use Rattle.can_fault.specs.declared.verdict.Verdict.{Verdict}
use Rattle.can_fault.specs.declared.verdict.Verdict.TheVariants.{Good, Global, Local, LastBit}

-- The text of each part of a rule has no line feed.

-- The text contains a line feed.
abbrev pub has_feed : List ℕ → Bool
has_feed text = list_any (λ b. b == 10) text

pub neither : (a b : Bool) → (a || b) ≡ false → (a ≡ false) × (b ≡ false)
neither false b h = (refl, h)
neither true b h = absurd (cc h)

pub feed-append : (xs ys : List ℕ) → has_feed xs ≡ false → has_feed ys ≡ false → has_feed (xs ++ ys) ≡ false
feed-append xs ys h k = list_any-append (λ (b : ℕ). b == 10) xs ys ∙ ap (λ (b : Bool). b || has_feed ys) h ∙ k

feed-cons : (b : ℕ) (bs : List ℕ) → (b == 10) ≡ false → has_feed bs ≡ false → has_feed (b ∷ bs) ≡ false
feed-cons b bs h k = ap (λ (t : Bool). t || has_feed bs) h ∙ k

-- A byte is not a line feed if a test is true for the byte and false for a line feed.
unlike : (test : ℕ → Bool) (b : ℕ) → test 10 ≡ false → test b ≡ true → (b == 10) ≡ false
unlike test b none some = by_test (b == 10) (Decides-eqb b 10).0
  where
    by_test : (t : Bool) → (t ≡ true → b ≡ 10) → t ≡ false
    by_test false is = refl
    by_test true is = let bad : true ≡ false = sym some ∙ ap test (is refl) ∙ none in absurd (cc bad)

-- A text contains no line feed if neither the part before a byte c nor the part after that byte contains one.
pub feed-cut : (c : ℕ) (text : List ℕ) → (c == 10) ≡ false → has_feed (before_first (λ b. b == c) text) ≡ false → has_feed (after_first (λ b. b == c) text) ≡ false → has_feed text ≡ false
feed-cut c text other front rest = ⊎_elim inside (λ h. ap has_feed (sym (take_all (position_or_len (λ b. b == c) text) text h)) ∙ front) (cases_lt (position_or_len (λ b. b == c) text) (length text))
  where
    inside : position_or_len (λ b. b == c) text < length text → has_feed text ≡ false
    inside h =
        let at : get_or text (position_or_len (λ b. b == c) text) 0 ≡ c = (Decides-eqb _ c).0 (passes_at_first (λ (b : ℕ). b == c) text 0 h) in
        ap has_feed (split_at_first (λ (b : ℕ). b == c) text 0 h)
        ∙ feed-append (before_first (λ b. b == c) text) _ front (feed-cons _ (after_first (λ b. b == c) text) (ap (λ (b : ℕ). b == 10) at ∙ other) rest)

pub feed-words : (text : List ℕ) → has_feed (word text) ≡ false → has_feed (after text) ≡ false → has_feed text ≡ false
feed-words text front rest = feed-cut 32 text refl front rest

-- The value that a successful choice has read.
chosen-some : {A : Type 0} (b : Bool) (o : Option A) (a : A) → (if b then o else None) ≡ Some a → o ≡ Some a
chosen-some true o a h = h
chosen-some false o a h = absurd (cc h)

pub then-some : {A B : Type 0} (f : A → Option B) (o : Option A) (x : B) → option_and_then f o ≡ Some x → (a : A) × (o ≡ Some a)
then-some f (Some a) x h = (a, refl)
then-some f None x h = absurd (cc h)

-- The text of a number contains no line feed.
digit-feed : (base d : ℕ) → (d == 10) ≡ true → digit_in base d ≡ None
digit-feed base d is = ap (digit_in base) ((Decides-eqb d 10).0 is)

after-one-line : (base : ℕ) (o : Option ℕ) (ds : List ℕ) (n : ℕ) → number_after base o ds ≡ Some n → has_feed ds ≡ false
after-one-line base None [] n h = refl
after-one-line base None (d ∷ ds) n h = absurd (cc h)
after-one-line base (Some m) [] n h = refl
after-one-line base (Some m) (d ∷ ds) n h =
    (elim (d == 10) as (λ b. (d == 10) ≡ b → (b || has_feed ds) ≡ false) [
      | true ↦ λ is. let bad : None ≡ Some n = sym (ap (λ (v : Option ℕ). number_after base (one_more base m v) ds) (digit-feed base d is)) ∙ h in absurd (cc bad)
      | false ↦ λ other. after-one-line base (one_more base m (digit_in base d)) ds n h
    ]) refl

pub number-one-line : (base most : ℕ) (text : List ℕ) (n : ℕ) → number_in base most text ≡ Some n → has_feed text ≡ false
number-one-line base most text n h = after-one-line base (Some 0) text n (chosen-some _ (number_after base (Some 0) text) n h)

-- The text of names contains no line feed.
bytes-one-line : (name : List ℕ) → list_all is_name_byte name ≡ true → has_feed name ≡ false
bytes-one-line [] h = refl
bytes-one-line (b ∷ bs) h =
    let parts = and_parts (is_name_byte b) (list_all is_name_byte bs) h in
    feed-cons b bs (unlike is_name_byte b refl parts.0) (bytes-one-line bs parts.1)

name-one-line : (name : List ℕ) → is_name name ≡ true → has_feed name ≡ false
name-one-line name h = bytes-one-line name (and_parts (nat_le 1 (length name) && nat_le (length name) 15) (list_all is_name_byte name) h).1

names-one-line : (pieces : List (List ℕ)) → list_all is_name pieces ≡ true → has_feed (join_with_byte 44 pieces) ≡ false
names-one-line [] h = refl
names-one-line (p ∷ []) h = name-one-line p (and_parts (is_name p) true h).0
names-one-line (p ∷ q ∷ ps) h =
    let parts = and_parts (is_name p) (list_all is_name (q ∷ ps)) h in
    feed-append p (44 ∷ join_with_byte 44 (q ∷ ps)) (name-one-line p parts.0) (names-one-line (q ∷ ps) parts.1)

pub set-one-line : (names : List (List ℕ)) (text : List ℕ) (set : IfaceSet) → set_spelling names text ≡ Ok set → has_feed text ≡ false
set-one-line names text set h =
    ap has_feed (sym (join_with_byte-slice_split 44 text)) ∙ names-one-line (names_in text) (all _ (if are_known names (names_in text) then Ok (set_named names (names_in text)) else Err line.UnknownInterface) h)
  where
    all : (a : Bool) (r : Result IfaceSet LineFault) → (if a then r else Err line.BadLine) ≡ Ok set → a ≡ true
    all true r e = refl
    all false r e = absurd (cc e)

-- The text of a verdict contains no line feed.
kind-one-line : (text : List ℕ) (kind : LocalKind) → kind_spelling text ≡ Some kind → has_feed text ≡ false
kind-one-line text kind h = choice _ _ _ h (bytes_eq-Decides text (codes "stuff")).0 (bytes_eq-Decides text (codes "crc")).0 (bytes_eq-Decides text (codes "form")).0
  where
    choice : (a b c : Bool) → (if a then Some local.Stuff else if b then Some local.Crc else if c then Some local.Form else None) ≡ Some kind
        → (a ≡ true → text ≡ codes "stuff") → (b ≡ true → text ≡ codes "crc") → (c ≡ true → text ≡ codes "form") → has_feed text ≡ false
    choice true b c e f g h = ap has_feed (f refl)
    choice false true c e f g h = ap has_feed (g refl)
    choice false false true e f g h = ap has_feed (h refl)
    choice false false false e f g h = absurd (cc e)

local-parts : (o : Option LocalKind) (r : Result IfaceSet LineFault) (v : Verdict) → ((ok_or o line.BadLine) >>= λ kind. r >>= λ set. Ok (Local set kind)) ≡ Ok v → (kind : LocalKind) × (set : IfaceSet) × (o ≡ Some kind) × (r ≡ Ok set)
local-parts None r v e = absurd (cc e)
local-parts (Some kind) (Err fault) v e = absurd (cc e)
local-parts (Some kind) (Ok set) v e = (kind, set, refl, refl)

local-one-line : (names : List (List ℕ)) (text : List ℕ) (v : Verdict) → local_spelling names text ≡ Ok v → has_feed text ≡ false
unfolding local_spelling
local-one-line names text v h =
    let (kind, set, k, s) = local-parts (kind_spelling (word text)) (set_spelling names (after text)) v h in
    feed-words text (kind-one-line (word text) kind k) (set-one-line names (after text) set s)

pub verdict-one-line : (names : List (List ℕ)) (text : List ℕ) (v : Verdict) → verdict_spelling names text ≡ Ok v → has_feed text ≡ false
unfolding verdict_spelling
verdict-one-line names text v e =
    choice _ _ _ _ _ (local_spelling names (after text)) e (bytes_eq-Decides text (codes "good")).0 (bytes_eq-Decides text (codes "lastbit")).0 (bytes_eq-Decides text (codes "global bit")).0 (bytes_eq-Decides text (codes "global form")).0 (bytes_eq-Decides (word text) (codes "local")).0 refl
  where
    choice : (a b c d f : Bool) (r : Result Verdict LineFault)
        → (if a then Ok Good else if b then Ok LastBit else if c then Ok (Global global.Bit) else if d then Ok (Global global.Form) else if f then r else Err line.BadLine) ≡ Ok v
        → (a ≡ true → text ≡ codes "good") → (b ≡ true → text ≡ codes "lastbit") → (c ≡ true → text ≡ codes "global bit") → (d ≡ true → text ≡ codes "global form")
        → (f ≡ true → word text ≡ codes "local") → r ≡ local_spelling names (after text) → has_feed text ≡ false
    choice true b c d f r e g h i j k same = ap has_feed (g refl)
    choice false true c d f r e g h i j k same = ap has_feed (h refl)
    choice false false true d f r e g h i j k same = ap has_feed (i refl)
    choice false false false true f r e g h i j k same = ap has_feed (j refl)
    choice false false false false true r e g h i j k same = feed-words text (ap has_feed (k refl)) (local-one-line names (after text) v (sym same ∙ e))
    choice false false false false false r e g h i j k same = absurd (cc e)
