-- The entries of a text after one more line was read.
use Rattle.std.proofs.Common.{◌≡◌, ◌==◌, ℕ, Bool, true, false, cond, All, List, [], ◌∷◌, ◌++◌, get_or, length, refl, sym, ap, subst, ◌∙◌}
use Rattle.std.proofs.lemmas.List.{append-nil, append_cancel_left}
use Rattle.std.proofs.lemmas.List.Elements.{All-head, All-tail}
use Rattle.std.proofs.lemmas.Option.{same_Some}
use Rattle.can_event.specs.declared.bus_config.BusConfig.{BusConfig}
use Rattle.can_event.specs.declared.entry.Entry.{Entry}
use Rattle.can_record_text.specs.declared.version.Version.{Version}
use Rattle.can_record_text.specs.declared.version.Version.TheVariants as version
use Rattle.can_record_text.specs.RecordFaults.{LacksEntry}
use Rattle.can_record_text.specs.Spelling.{bus_words, end_words, entry_line, entry_lines, entry_words, first_line, front_lines, spell}
use Rattle.can_record_text.specs.Values.{HasBusLine, HasLine, HasLines}
use Rattle.can_record_text.specs.inner.Reading.{config_at, entry_at}
use Rattle.can_record_text.proofs.Again.{config_again, entry_again, line_some, spell-rest}
use Rattle.can_record_text.proofs.Whole.{end_lacks, front-then, lines-then}
use Rattle.can_replay.specs.declared.entry_audit.EntryAudit.{EntryAudit}
use Rattle.can_replay.specs.TextAudits.{IsLine}
use Rattle.can_replay.specs.inner.EntryAudits.{IsGoing, so_far}
use Rattle.can_replay.proofs.Ending.{nothing_lacks}
use Rattle.can_replay.proofs.LineEnds.{cut_entry}

-- ---- the first two lines

abbrev version_of_digit : ℕ → Version
version_of_digit n =
    cond (n == 49) version.One (cond (n == 50) version.Two (cond (n == 51) version.Three (cond (n == 52) version.Four (cond (n == 53) version.Five version.Six))))

digit_again : (v : Version) (rest : List ℕ) → version_of_digit (get_or (first_line v ++ rest) 14 0) ≡ v
digit_again version.One rest = refl
digit_again version.Two rest = refl
digit_again version.Three rest = refl
digit_again version.Four rest = refl
digit_again version.Five rest = refl
digit_again version.Six rest = refl

pub one_version : (v w : Version) (a b : List ℕ) → first_line v ++ a ≡ first_line w ++ b → v ≡ w
one_version v w a b e = sym (digit_again v a) ∙ ap (λ (x : List ℕ). version_of_digit (get_or x 14 0)) e ∙ digit_again w b

spelled_rest : (ws : List (List ℕ)) (a b : List ℕ) → spell ws a ≡ spell ws b → a ≡ b
spelled_rest ws a b e = append_cancel_left (spell ws []) a b (spell-rest ws a ∙ e ∙ sym (spell-rest ws b))

-- If two texts have the same first lines, their versions, their buses and the bytes that follow are equal.
record Fronts (v w : Version) (c d : BusConfig) (a b : List ℕ) : Type 0 where
  version : v ≡ w
  config : c ≡ d
  rest : a ≡ b

one_front : (v w : Version) (c d : BusConfig) (a b : List ℕ) → HasBusLine v c → HasBusLine w d → front_lines v c a ≡ front_lines w d b → Fronts v w c d a b
one_front v w c d a b hc hd e =
    let same = one_version v w (spell (bus_words v c) a) (spell (bus_words w d) b) e in
    let other : HasBusLine v d = subst (λ (u : Version). HasBusLine u d) (sym same) hd in
    let lines : spell (bus_words v c) a ≡ spell (bus_words v d) b =
    append_cancel_left (first_line v) _ _ (e ∙ ap (λ (u : Version). front_lines u d b) (sym same)) in
    let bus : c ≡ d = same_Some c d (sym (config_again v c a hc) ∙ ap (config_at v) lines ∙ config_again v d b other) in
    record {
      version = same;
      config = bus;
      rest = spelled_rest (bus_words v c) a b (lines ∙ ap (λ (x : BusConfig). spell (bus_words v x) b) (sym bus));
    }

pub one_bus : (v w : Version) (c d : BusConfig) (a b : List ℕ) → HasBusLine v c → HasBusLine w d → front_lines v c a ≡ front_lines w d b → c ≡ d
one_bus v w c d a b hc hd e = (one_front v w c d a b hc hd e).config

-- ---- the lines of entries

pub one_line : (v : Version) (c : BusConfig) (x d : Entry) (a b : List ℕ) → HasLine v c x → HasLine v c d → entry_line x a ≡ entry_line d b → x ≡ d
one_line v c x d a b hx hd e = same_Some x d (sym (entry_again v c x a hx) ∙ ap entry_at e ∙ entry_again v c d b hd)

-- If the first text continues with a line that is not an entry's line, the second text has at least as many entries.
record More (es ds : List Entry) (a b : List ℕ) : Type 0 where
  more : List Entry
  are : ds ≡ es ++ more
  rest : a ≡ entry_lines more b

longer : (v : Version) (c : BusConfig) (es ds : List Entry) (a b : List ℕ) → All (HasLine v c) es → All (HasLine v c) ds → LacksEntry v c b → entry_lines es a ≡ entry_lines ds b → More es ds a b
unfolding entry_lines
longer v c [] ds a b hes hds none e = record { more = ds; are = refl; rest = e }
longer v c (x ∷ es) [] a b hes hds none e = absurd (none x (entry_lines es a) (All-head (HasLine v c) x es hes) (sym e))
longer v c (x ∷ es) (d ∷ ds) a b hes hds none e =
    let one = one_line v c x d (entry_lines es a) (entry_lines ds b) (All-head (HasLine v c) x es hes) (All-head (HasLine v c) d ds hds) e in
    let next = spelled_rest (entry_words x) (entry_lines es a) (entry_lines ds b) (e ∙ ap (λ (y : Entry). entry_line y (entry_lines ds b)) (sym one)) in
    let m = longer v c es ds a b (All-tail (HasLine v c) x es hes) (All-tail (HasLine v c) d ds hds) none next in
    record { more = m.more; are = ap (λ (y : Entry). y ∷ ds) (sym one) ∙ ap (λ (ys : List Entry). x ∷ ys) m.are; rest = m.rest }

All-after : {A : Type 0} (P : A → Type 0) (xs ys : List A) → All P (xs ++ ys) → All P ys
All-after P [] ys h = h
All-after P (x ∷ xs) ys h = All-after P xs ys (All-tail P x (xs ++ ys) h)

none_more : (v : Version) (c : BusConfig) (es more : List Entry) (a b : List ℕ) → All (HasLine v c) (es ++ more) → LacksEntry v c a → a ≡ entry_lines more b → es ≡ es ++ more
unfolding entry_lines
none_more v c es [] a b lines none is = sym (append-nil es)
none_more v c es (x ∷ more) a b lines none is = absurd (none x (entry_lines more b) (All-head (HasLine v c) x more (All-after (HasLine v c) es (x ∷ more) lines)) is)

-- If two equal texts continue with lines that are not entries' lines, they have the same entries.
pub one_list : (v w : Version) (c d : BusConfig) (es ds : List Entry) (a b : List ℕ) → HasLines v c es → HasLines w d ds → LacksEntry v c a → LacksEntry w d b
    → front_lines v c (entry_lines es a) ≡ front_lines w d (entry_lines ds b) → es ≡ ds
one_list v w c d es ds a b hc hd na nb e =
    let front = one_front v w c d (entry_lines es a) (entry_lines ds b) hc.bus hd.bus e in
    let lines : All (HasLine v c) ds = subst (λ (u : Version). All (HasLine u c) ds) (sym front.version) (subst (λ (x : BusConfig). All (HasLine w x) ds) (sym front.config) hd.lines) in
    let lacks : LacksEntry v c b = subst (λ (u : Version). LacksEntry u c b) (sym front.version) (subst (λ (x : BusConfig). LacksEntry w x b) (sym front.config) nb) in
    let m = longer v c es ds a b hc.lines lines lacks front.rest in
    none_more v c es m.more a b (subst (All (HasLine v c)) m.are lines) na m.rest ∙ sym m.are

no_front : (xs ys : List ℕ) → xs ++ ys ≡ [] → xs ≡ []
no_front [] ys e = refl
no_front (x ∷ xs) ys e = absurd cc

no_lines : (v : Version) (c : BusConfig) (es : List Entry) (b : List ℕ) → All (HasLine v c) es → entry_lines es b ≡ [] → (es ≡ []) × (b ≡ [])
unfolding entry_lines
no_lines v c [] b hes e = (refl, e)
no_lines v c (x ∷ es) b hes e =
    absurd (line_some v c x (All-head (HasLine v c) x es hes) (no_front (entry_line x []) (entry_lines es b) (spell-rest (entry_words x) (entry_lines es b) ∙ e)))

-- ---- the bytes after the entries of a text

abbrev pub last_of : Bool → List Entry → List ℕ
last_of false es = []
last_of true es = spell (end_words (length es)) []

so_far_lines : (b : Bool) (v : Version) (c : BusConfig) (es : List Entry) → so_far b v c es ≡ front_lines v c (entry_lines es (last_of b es))
so_far_lines false v c es = refl
so_far_lines true v c es = refl

last_lacks : (b : Bool) (v : Version) (c : BusConfig) (es : List Entry) → LacksEntry v c (last_of b es)
last_lacks false v c es = nothing_lacks v c
last_lacks true v c es = end_lacks v c (length es) []

-- The longer text begins with the entries that were already read, and may contain more entries after them.
pub record GoesOn (old new : EntryAudit) (es ds : List Entry) (line : List ℕ) : Type 0 where
  pub version : new.version ≡ old.version
  pub config : new.config ≡ old.config
  pub more : List Entry
  pub are : ds ≡ es ++ more
  pub rest : last_of old.is_ended es ++ line ≡ entry_lines more (last_of new.is_ended ds)
  pub lines : All (HasLine old.version old.config) more

pub goes_on : (text line : List ℕ) (old new : EntryAudit) (g : IsGoing text old) (h : IsGoing (text ++ line) new) → GoesOn old new g.read.entries h.read.entries line
goes_on text line old new g h =
    let es = g.read.entries in
    let ds = h.read.entries in
    let a = last_of old.is_ended es in
    let b = last_of new.is_ended ds in
    let same : front_lines old.version old.config (entry_lines es (a ++ line)) ≡ front_lines new.version new.config (entry_lines ds b) =
    ap (front_lines old.version old.config) (sym (lines-then es a line)) ∙ sym (front-then old.version old.config (entry_lines es a) line)
    ∙ ap (λ (x : List ℕ). x ++ line) (sym (g.read.begins ∙ so_far_lines old.is_ended old.version old.config es))
    ∙ h.read.begins ∙ so_far_lines new.is_ended new.version new.config ds in
    let front = one_front old.version new.version old.config new.config _ _ g.read.good.bus h.read.good.bus same in
    let lines : All (HasLine old.version old.config) ds =
    subst (λ (u : Version). All (HasLine u old.config) ds) (sym front.version) (subst (λ (x : BusConfig). All (HasLine new.version x) ds) (sym front.config) h.read.good.lines) in
    let m = longer old.version old.config es ds (a ++ line) b g.read.good.lines lines (last_lacks new.is_ended old.version old.config ds) front.rest in
    record {
      version = sym front.version;
      config = sym front.config;
      more = m.more;
      are = m.are;
      rest = m.rest;
      lines = All-after (HasLine old.version old.config) es m.more (subst (All (HasLine old.version old.config)) m.are lines);
    }

-- ---- one more line

-- After the end line there are no more entries.
pub none_after_end : (b : Bool) (v : Version) (c : BusConfig) (es more : List Entry) (line rest : List ℕ) → b ≡ true → All (HasLine v c) more → last_of b es ++ line ≡ entry_lines more rest → more ≡ []
unfolding entry_lines
none_after_end false v c es more line rest is lines e = absurd cc
none_after_end true v c es [] line rest is lines e = refl
none_after_end true v c es (x ∷ more) line rest is lines e =
    absurd (end_lacks v c (length es) line x (entry_lines more rest) (All-head (HasLine v c) x more lines) (sym (spell-rest (end_words (length es)) line) ∙ e))

-- Before the end line, one line contains one entry or is the end line.
pub data OneLine (more : List Entry) (line rest : List ℕ) : Type 0 where
  No_entry : more ≡ [] → line ≡ rest → OneLine more line rest
  An_entry : (e : Entry) → more ≡ e ∷ [] → line ≡ entry_line e [] → rest ≡ [] → OneLine more line rest

pub one_line_more : (b : Bool) (v : Version) (c : BusConfig) (es more : List Entry) (line rest : List ℕ) → b ≡ false → IsLine line → All (HasLine v c) more → last_of b es ++ line ≡ entry_lines more rest → OneLine more line rest
unfolding entry_lines
one_line_more true v c es more line rest going is lines e = absurd cc
one_line_more false v c es [] line rest going is lines e = No_entry refl e
one_line_more false v c es (x ∷ more) line rest going is lines e =
    let here = All-head (HasLine v c) x more lines in
    let cut = cut_entry v c line (entry_lines more rest) x is here e in
    let none = spelled_rest (entry_words x) [] (entry_lines more rest) (sym cut ∙ e) in
    let no = no_lines v c more rest (All-tail (HasLine v c) x more lines) (sym none) in
    An_entry x (ap (λ (xs : List Entry). x ∷ xs) no.0) cut no.1

-- ---- the bytes that may follow

pub read_rest : (text rest : List ℕ) (b : EntryAudit) (g : IsGoing text b) → text ++ rest ≡ front_lines b.version b.config (entry_lines g.read.entries (last_of b.is_ended g.read.entries ++ rest))
read_rest text rest b g =
    let es = g.read.entries in
    let last = last_of b.is_ended es in
    ap (λ (x : List ℕ). x ++ rest) (g.read.begins ∙ so_far_lines b.is_ended b.version b.config es)
    ∙ front-then b.version b.config (entry_lines es last) rest ∙ ap (front_lines b.version b.config) (lines-then es last rest)
