-- The text of a record.
use Rattle.std.proofs.Common.{◌≡◌, ◌≢◌, ◌≤◌, inl, inr, ℕ, ◌+◌, ◌==◌, if◌then◌else◌, true, false, List, [], ◌∷◌, ◌++◌, length, drop, get_or, Result, Ok, Err, append_assoc, refl, sym, ap, subst, ◌∙◌, arith}
use Rattle.std.specs.Prelude.{All, reverse}
use Rattle.std.proofs.lemmas.List.{append_cancel_left, length-reverse, reverse-reverse}
use Rattle.std.proofs.lemmas.List.Elements.{All-head, All-tail}
use Rattle.std.proofs.lemmas.Option.{none-some, same_Some}
use Rattle.can_event.specs.declared.bus_config.BusConfig.{BusConfig}
use Rattle.can_event.specs.declared.entry.Entry.{Entry}
use Rattle.can_event.specs.Events.{IsConfig, max_limit}
use Rattle.can_record.specs.Journal.{Kept}
use Rattle.can_record_text.specs.declared.fault.ReadFault.{ReadFault}
use Rattle.can_record_text.specs.declared.fault.ReadFault.TheVariants as fault
use Rattle.can_record_text.specs.declared.version.Version.{Version}
use Rattle.can_record_text.specs.declared.version.Version.TheVariants as version
use Rattle.can_record_text.specs.Spelling.{gap_before, spell, all_needs, is_needless, version_of, first_line, bus_words, front_lines, end_words, entry_words, entry_line, entry_lines, text_in, record_spelling}
use Rattle.can_record_text.specs.Values.{HasLine, HasBusLine, HasLines}
use Rattle.can_record_text.specs.inner.Reading.{entry_at, config_at}
use Rattle.can_record_text.specs.RecordFaults.{IsNeedless, IsOfLongRun, IsOfNoVersion, IsTextOf, LacksBus, LacksEntry, BusIsWrong, LineIsWrong, GoesOn, IsFirstWrong, Ends, Reads, ReadsBack, ReadsRecord}
use Rattle.can_record_text.proofs.Again.{spell-rest, entry_again, config_again, end_is_none}
use Rattle.can_record_text.proofs.LineLists.{lines-rest}
use Rattle.can_record_text.proofs.Versioning.{not_needless, version_is}

-- ---- the text after some lines

spell-then : (ws : List (List ℕ)) (rest more : List ℕ) → spell ws rest ++ more ≡ spell ws (rest ++ more)
spell-then [] rest more = refl
spell-then (w ∷ ws) rest more = append_assoc w (gap_before ws ∷ spell ws rest) more ∙ ap (λ (x : List ℕ). w ++ gap_before ws ∷ x) (spell-then ws rest more)

pub lines-then : (es : List Entry) (rest more : List ℕ) → entry_lines es rest ++ more ≡ entry_lines es (rest ++ more)
unfolding entry_lines
lines-then [] rest more = refl
lines-then (e ∷ es) rest more = spell-then (entry_words e) (entry_lines es rest) more ∙ ap (λ (x : List ℕ). entry_line e x) (lines-then es rest more)

-- the first two lines, and the text after them
pub front-then : (v : Version) (c : BusConfig) (rest more : List ℕ) → front_lines v c rest ++ more ≡ front_lines v c (rest ++ more)
front-then v c rest more = append_assoc (first_line v) (spell (bus_words v c) rest) more
    ∙ ap (λ (x : List ℕ). first_line v ++ x) (spell-then (bus_words v c) rest more)

pub text-then : (v : Version) (c : BusConfig) (es : List Entry) (more : List ℕ) → text_in v c es ++ more ≡ front_lines v c (entry_lines es (spell (end_words (length es)) more))
text-then v c es more = front-then v c (entry_lines es (spell (end_words (length es)) [])) more
    ∙ ap (front_lines v c) (lines-then es (spell (end_words (length es)) []) more ∙ ap (entry_lines es) (spell-rest (end_words (length es)) more))

cons-cancel : (a : ℕ) (xs ys : List ℕ) → a ∷ xs ≡ a ∷ ys → xs ≡ ys
cons-cancel a xs ys e = ap (drop 1) e

spell-cancel : (ws : List (List ℕ)) (a b : List ℕ) → spell ws a ≡ spell ws b → a ≡ b
spell-cancel [] a b e = e
spell-cancel (w ∷ ws) a b e = spell-cancel ws a b (cons-cancel (gap_before ws) (spell ws a) (spell ws b) (append_cancel_left w _ _ e))

-- ---- the faults that reading a text finds

pub first_is_wrong : (v : Version) (text rest : List ℕ) → text ≡ first_line v ++ rest → LacksBus v rest → IsFirstWrong text 2
first_is_wrong v text rest begins wrong = inl (record { version = v; rest = rest; second = refl; begins = begins; wrong = wrong })

pub front_begins : (v : Version) (text r1 r2 b : List ℕ) (c : BusConfig) → text ≡ first_line v ++ r1 → b ≡ spell (bus_words v c) []
    → r1 ≡ spell (bus_words v c) [] ++ drop (length (spell (bus_words v c) [])) r1 → r2 ≡ drop (length b) r1 → text ≡ front_lines v c r2
front_begins v text r1 r2 b c first buffer bus behind =
    let back : drop (length (spell (bus_words v c) [])) r1 ≡ r2 = ap (λ (x : List ℕ). drop (length x) r1) (sym buffer) ∙ sym behind in
    first ∙ ap (λ (x : List ℕ). first_line v ++ x) (bus ∙ ap (λ (x : List ℕ). spell (bus_words v c) [] ++ x) back ∙ spell-rest (bus_words v c) r2)

pub whole_text : (v : Version) (text rest : List ℕ) (c : BusConfig) (es : List Entry) → text ≡ front_lines v c (entry_lines es rest) → rest ≡ spell (end_words (length es)) [] → text ≡ text_in v c es
whole_text v text rest c es begins ends = begins ∙ ap (λ (x : List ℕ). front_lines v c (entry_lines es x)) ends

pub end_is_wrong : (A : Type 0) (why : ReadFault) (v : Version) (text rest : List ℕ) (c : BusConfig) (es : List Entry) → HasLines v c es → text ≡ front_lines v c (entry_lines es rest)
    → LacksEntry v c rest → Ends {A = A} (length es) rest (Err why) → Reads text (Err why)
end_is_wrong A fault.BadVersion v text rest c es whole begins wrong h = absurd h
end_is_wrong A fault.NoMemory v text rest c es whole begins wrong h = h
end_is_wrong A (fault.BadLine n) v text rest c es whole begins wrong (inl h) = inr (inl (record { version = v; config = c; entries = es; rest = rest; whole = whole; begins = begins; next = h.0; wrong = wrong; open_end = h.1 }))
end_is_wrong A (fault.BadLine n) v text rest c es whole begins wrong (inr h) = inr (inr (record {
  version = v;
  config = c;
  entries = es;
  rest = h.1.0;
  whole = whole;
  begins = begins ∙ ap (λ (x : List ℕ). front_lines v c (entry_lines es x)) h.1.1 ∙ sym (text-then v c es h.1.0);
  behind = h.0;
  more = h.1.2;
}))

-- ---- no text is read in two ways

-- the digit in the first line of a version
abbrev version_digit : Version → ℕ
version_digit version.One = 49
version_digit version.Two = 50
version_digit version.Three = 51
version_digit version.Four = 52
version_digit version.Five = 53
version_digit version.Six = 54

digit_of : (v : Version) (a : List ℕ) → get_or (first_line v ++ a) 14 0 ≡ version_digit v
digit_of version.One a = refl
digit_of version.Two a = refl
digit_of version.Three a = refl
digit_of version.Four a = refl
digit_of version.Five a = refl
digit_of version.Six a = refl

-- the version whose first line has this digit
abbrev with_digit : ℕ → Version
with_digit n =
    if n == 49 then version.One
    else if n == 50 then version.Two
    else if n == 51 then version.Three
    else if n == 52 then version.Four
    else if n == 53 then version.Five
    else version.Six

digit_again : (v : Version) → with_digit (version_digit v) ≡ v
digit_again version.One = refl
digit_again version.Two = refl
digit_again version.Three = refl
digit_again version.Four = refl
digit_again version.Five = refl
digit_again version.Six = refl

same_digit : (v w : Version) → version_digit v ≡ version_digit w → v ≡ w
same_digit v w e = sym (digit_again v) ∙ ap with_digit e ∙ digit_again w

behind_first : (v : Version) (a : List ℕ) → drop 16 (first_line v ++ a) ≡ a
behind_first version.One a = refl
behind_first version.Two a = refl
behind_first version.Three a = refl
behind_first version.Four a = refl
behind_first version.Five a = refl
behind_first version.Six a = refl

-- a text is of at most one version
one_version : (v w : Version) (a b : List ℕ) → first_line v ++ a ≡ first_line w ++ b → (v ≡ w) × (a ≡ b)
one_version v w a b e = (
  same_digit v w (sym (digit_of v a) ∙ ap (λ (x : List ℕ). get_or x 14 0) e ∙ digit_of w b),
  sym (behind_first v a) ∙ ap (drop 16) e ∙ behind_first w b,
)

-- a text begins with the line of at most one bus
one_bus : (v : Version) (c d : BusConfig) (a b : List ℕ) → HasBusLine v c → HasBusLine v d → spell (bus_words v c) a ≡ spell (bus_words v d) b → (c ≡ d) × (a ≡ b)
one_bus v c d a b hc hd e =
    let same : c ≡ d = same_Some c d (sym (config_again v c a hc) ∙ ap (config_at v) e ∙ config_again v d b hd) in
    (same, spell-cancel (bus_words v c) a b (e ∙ ap (λ (x : BusConfig). spell (bus_words v x) b) (sym same)))

one_front : (v w : Version) (c d : BusConfig) (a b : List ℕ) → HasBusLine v c → HasBusLine w d → front_lines v c a ≡ front_lines w d b → (v ≡ w) × (c ≡ d) × (a ≡ b)
one_front v w c d a b hc hd e =
    let of_text = one_version v w _ _ e in
    let back = sym of_text.0 in
    let one = one_bus v c d a b hc (subst (λ (u : Version). HasBusLine u d) back hd) (of_text.1 ∙ ap (λ (u : Version). spell (bus_words u d) b) back) in
    (of_text.0, one.0, one.1)

one_line : (v : Version) (s : BusConfig) (c d : Entry) (a b : List ℕ) → HasLine v s c → HasLine v s d → entry_line c a ≡ entry_line d b → c ≡ d
one_line v s c d a b hc hd e = same_Some c d (sym (entry_again v s c a hc) ∙ ap entry_at e ∙ entry_again v s d b hd)

behind_line : (v : Version) (s : BusConfig) (c d : Entry) (a b : List ℕ) → HasLine v s c → HasLine v s d → entry_line c a ≡ entry_line d b → a ≡ b
behind_line v s c d a b hc hd e = spell-cancel (entry_words c) a b (e ∙ ap (λ (x : Entry). entry_line x b) (sym (one_line v s c d a b hc hd e)))

lines_meet : (v : Version) (s : BusConfig) (es ds : List Entry) (a b : List ℕ) → All (HasLine v s) es → All (HasLine v s) ds → LacksEntry v s a → LacksEntry v s b → entry_lines es a ≡ entry_lines ds b → (es ≡ ds) × (a ≡ b)
unfolding entry_lines
lines_meet v s [] [] a b hes hds na nb e = (refl, e)
lines_meet v s [] (d ∷ ds) a b hes hds na nb e = absurd (na d (entry_lines ds b) (All-head (HasLine v s) d ds hds) e)
lines_meet v s (d ∷ es) [] a b hes hds na nb e = absurd (nb d (entry_lines es a) (All-head (HasLine v s) d es hes) (sym e))
lines_meet v s (x ∷ es) (d ∷ ds) a b hes hds na nb e =
    let hx = All-head (HasLine v s) x es hes in
    let hd = All-head (HasLine v s) d ds hds in
    let one = one_line v s x d (entry_lines es a) (entry_lines ds b) hx hd e in
    let rest = lines_meet v s es ds a b (All-tail (HasLine v s) x es hes) (All-tail (HasLine v s) d ds hds) na nb (behind_line v s x d (entry_lines es a) (entry_lines ds b) hx hd e) in
    (ap (λ (y : Entry). y ∷ es) one ∙ ap (λ (ys : List Entry). d ∷ ys) rest.0, rest.1)

pub end_lacks : (v : Version) (c : BusConfig) (count : ℕ) (more : List ℕ) → LacksEntry v c (spell (end_words count) more)
end_lacks v c count more e rest h is = none-some e (sym (end_is_none count more) ∙ ap entry_at is ∙ entry_again v c e rest h)

-- two equal texts have the same lines, and the same text after the lines
texts_meet : (v w : Version) (c d : BusConfig) (es ds : List Entry) (a b : List ℕ) → HasLines v c es → HasLines w d ds → LacksEntry v c a → LacksEntry w d b
    → front_lines v c (entry_lines es a) ≡ front_lines w d (entry_lines ds b) → (v ≡ w) × (c ≡ d) × (es ≡ ds) × (a ≡ b)
texts_meet v w c d es ds a b hc hd na nb e =
    let front = one_front v w c d (entry_lines es a) (entry_lines ds b) hc.bus hd.bus e in
    let lines : All (HasLine v c) ds = subst (λ (u : Version). All (HasLine u c) ds) (sym front.0) (subst (λ (x : BusConfig). All (HasLine w x) ds) (sym front.1) hd.lines) in
    let lacks : LacksEntry v c b = subst (λ (u : Version). LacksEntry u c b) (sym front.0) (subst (λ (x : BusConfig). LacksEntry w x b) (sym front.1) nb) in
    let met = lines_meet v c es ds a b hc.lines lines na lacks front.2 in
    (front.0, front.1, met.0, met.1)

-- two equal whole texts have the same lines
whole_texts_meet : (v w : Version) (c d : BusConfig) (es ds : List Entry) → HasLines v c es → HasLines w d ds → text_in v c es ≡ text_in w d ds → (v ≡ w) × (c ≡ d) × (es ≡ ds)
whole_texts_meet v w c d es ds hc hd e =
    let met = texts_meet v w c d es ds (spell (end_words (length es)) []) (spell (end_words (length ds)) []) hc hd (end_lacks v c (length es) []) (end_lacks w d (length ds) []) e in
    (met.0, met.1, met.2)

-- no text is the text of two different records
pub one_record : (text : List ℕ) (c d : BusConfig) (es ds : List Entry) → IsTextOf text c es → IsTextOf text d ds → (c ≡ d) × (es ≡ ds)
one_record text c d es ds one other =
    let met = whole_texts_meet (version_of c es) (version_of d ds) c d es ds one.0 other.0 (sym one.1 ∙ other.1) in
    (met.1, met.2)

-- if the text begins with the right first two lines, the line of the bus is not wrong
bus_stands : (text : List ℕ) (n : ℕ) (v : Version) (c : BusConfig) (rest : List ℕ) → HasBusLine v c → text ≡ front_lines v c rest → BusIsWrong text n → ⊥
bus_stands text n v c rest good is h =
    let of_text = one_version h.version v _ _ (sym h.begins ∙ is) in
    let back = sym of_text.0 in
    h.wrong c rest (subst (λ (u : Version). HasBusLine u c) back good) (of_text.1 ∙ ap (λ (u : Version). spell (bus_words u c) rest) back)

-- a text with only right lines has no wrong line
bus_is_right : (text : List ℕ) (n : ℕ) (v : Version) (c : BusConfig) (es : List Entry) → HasLines v c es → text ≡ text_in v c es → BusIsWrong text n → ⊥
bus_is_right text n v c es whole is h = bus_stands text n v c (entry_lines es (spell (end_words (length es)) [])) whole.bus is h

line_is_right : (text : List ℕ) (n : ℕ) (v : Version) (c : BusConfig) (es : List Entry) → HasLines v c es → text ≡ text_in v c es → LineIsWrong text n → ⊥
line_is_right text n v c es whole is h =
    let met = texts_meet h.version v h.config c h.entries es h.rest (spell (end_words (length es)) []) h.whole whole h.wrong (end_lacks v c (length es) []) (sym h.begins ∙ is) in
    h.open_end [] (met.3 ∙ ap (λ (xs : List Entry). spell (end_words (length xs)) []) (sym met.2))

goes_not_on : (text : List ℕ) (n : ℕ) (v : Version) (c : BusConfig) (es : List Entry) → HasLines v c es → text ≡ text_in v c es → GoesOn text n → ⊥
goes_not_on text n v c es whole is h =
    let end = spell (end_words (length es)) [] in
    let met = texts_meet h.version v h.config c h.entries es (spell (end_words (length h.entries)) h.rest) end h.whole whole (end_lacks h.version h.config (length h.entries) h.rest) (end_lacks v c (length es) [])
    (sym (text-then h.version h.config h.entries h.rest) ∙ sym h.begins ∙ is) in
    h.more (spell-cancel (end_words (length h.entries)) h.rest [] (met.3 ∙ ap (λ (xs : List Entry). spell (end_words (length xs)) []) (sym met.2)))

right_text : (text : List ℕ) (n : ℕ) (v : Version) (c : BusConfig) (es : List Entry) → HasLines v c es → text ≡ text_in v c es → IsFirstWrong text n → ⊥
right_text text n v c es whole is (inl h) = bus_is_right text n v c es whole is h
right_text text n v c es whole is (inr (inl h)) = line_is_right text n v c es whole is h
right_text text n v c es whole is (inr (inr h)) = goes_not_on text n v c es whole is h

-- the text of a record has no wrong line
pub nothing_wrong : (text : List ℕ) (n : ℕ) (c : BusConfig) (es : List Entry) → IsTextOf text c es → IsFirstWrong text n → ⊥
nothing_wrong text n c es is h = right_text text n (version_of c es) c es is.0 is.1 h

-- the text of a record has a version
pub has_version : (text : List ℕ) (c : BusConfig) (es : List Entry) → IsTextOf text c es → IsOfNoVersion text → ⊥
has_version text c es is (inl lacks) = lacks (version_of c es) _ is.1
has_version text c es is (inr h) =
    let met = whole_texts_meet h.version (version_of c es) h.config c h.entries es h.whole is.0 (sym h.is_text ∙ is.1) in
    not_needless h.version c es h.entries met.0 met.2 h.none

-- ---- a record, which is that of no long run

-- a text of another version than 4 is not of a long run
pub not_long : (v : Version) (text rest : List ℕ) → v ≢ version.Four → text ≡ first_line v ++ rest → IsOfLongRun text → ⊥
not_long v text rest other is long = other ((one_version v version.Four rest long.0 (sym is ∙ long.1)).0)

pub short_fault : (v : Version) (text rest : List ℕ) (why : ReadFault) → v ≢ version.Four → text ≡ first_line v ++ rest → Reads text (Err why) → ReadsRecord text (Err why)
short_fault v text rest fault.BadVersion other is h = inl h
short_fault v text rest (fault.BadLine n) other is h = (h, not_long v text rest other is)
short_fault v text rest fault.NoMemory other is h = tt

-- right lines in another version than 4 make a record
short_config : (v : Version) (c : BusConfig) → v ≢ version.Four → HasBusLine v c → c.limit ≤ max_limit
short_config version.One c other h = h.limit
short_config version.Two c other h = h.limit
short_config version.Three c other h = h.limit
short_config version.Four c other h = absurd (other refl)
short_config version.Five c other h = h.limit
short_config version.Six c other h = h.limit

pub proper_config : (v : Version) (c : BusConfig) → v ≢ version.Four → HasBusLine v c → IsConfig c
proper_config v c other h = record {
  some_ifaces = h.proper.some_ifaces;
  few_ifaces = h.proper.few_ifaces;
  some_frames = h.proper.some_frames;
  few_frames = h.proper.few_frames;
  some_entries = h.proper.some_entries;
  few_entries = short_config v c other h;
  few_attempts = h.proper.few_attempts;
}

-- the text of a record is not of a long run
short_text : (text : List ℕ) (c : BusConfig) (es : List Entry) → IsConfig c → IsTextOf text c es → IsOfLongRun text → ⊥
short_text text c es proper is long =
    let four = (one_version (version_of c es) version.Four _ long.0 (sym is.1 ∙ long.1)).0 in
    let bus = subst (λ (v : Version). HasBusLine v c) four is.0.bus in
    absurd (omega (arith, bus.limit, proper.few_entries))

-- the record that was written is read again
pub reads_back : (text : List ℕ) (result : Result Kept ReadFault) → ReadsRecord text result → ReadsBack text result
reads_back text (Ok r) reads c es proper is = one_record text r.config c (reverse r.history) es reads is
reads_back text (Err fault.BadVersion) (inl none) c es proper is = absurd (has_version text c es is none)
reads_back text (Err fault.BadVersion) (inr long) c es proper is = absurd (short_text text c es proper is long)
reads_back text (Err (fault.BadLine n)) reads c es proper is = absurd (nothing_wrong text n c es is reads.0)
reads_back text (Err fault.NoMemory) reads c es proper is = refl

-- ---- the text that is written

pub text_written : (t0 t1 t2 new : List ℕ) (v : Version) (c d : BusConfig) (es hs : List Entry) (n : ℕ) → t0 ≡ [] → t1 ≡ t0 ++ front_lines v c []
    → t2 ≡ t1 ++ entry_lines es [] → new ≡ t2 ++ spell (end_words n) [] → v ≡ version_of c es → c ≡ d → es ≡ reverse hs → n ≡ length hs → new ≡ record_spelling d (reverse hs)
text_written t0 t1 t2 new v c d es hs n h0 h1 h2 h3 hv hc he hn =
    let L = entry_lines es [] in
    let E = spell (end_words n) [] in
    let count : n ≡ length es = hn ∙ sym (length-reverse hs) ∙ ap length (sym he) in
    h3 ∙ rw (h2, h1, h0)
    (append_assoc (front_lines v c []) L E
    ∙ ap (λ (x : List ℕ). front_lines v c [] ++ x) (lines-rest es E)
    ∙ front-then v c [] (entry_lines es E)
    ∙ ap (λ (m : ℕ). front_lines v c (entry_lines es (spell (end_words m) []))) count
    ∙ ap (λ (u : Version). text_in u c es) hv
    ∙ ap (λ (x : BusConfig). record_spelling x es) hc
    ∙ ap (λ (xs : List Entry). record_spelling d xs) he)

pub made_text : (text : List ℕ) (v : Version) (c d : BusConfig) (es hs : List Entry) → d ≡ c → hs ≡ reverse es → HasLines v c es → text ≡ text_in v c es
    → is_needless v (all_needs es) ≡ false → IsTextOf text d (reverse hs)
made_text text v c d es hs hd hh whole is needed =
    let right = version_is v c es whole needed in
    rw (hh, reverse-reverse es, hd) (subst (λ (u : Version). HasLines u c es) right whole, is ∙ ap (λ (u : Version). text_in u c es) right)

-- ---- one line is the first wrong one

both_wrong : (text : List ℕ) (n m : ℕ) → BusIsWrong text n → LineIsWrong text m → ⊥
both_wrong text n m h k = bus_stands text n k.version k.config (entry_lines k.entries k.rest) k.whole.bus k.begins h

-- a text with more bytes after its last line, split into its lines
goes : (text : List ℕ) (n : ℕ) (k : GoesOn text n) → text ≡ front_lines k.version k.config (entry_lines k.entries (spell (end_words (length k.entries)) k.rest))
goes text n k = k.begins ∙ text-then k.version k.config k.entries k.rest

bus_and_more : (text : List ℕ) (n m : ℕ) → BusIsWrong text n → GoesOn text m → ⊥
bus_and_more text n m h k = bus_stands text n k.version k.config (entry_lines k.entries (spell (end_words (length k.entries)) k.rest)) k.whole.bus (goes text m k) h

line_and_more : (text : List ℕ) (n m : ℕ) → LineIsWrong text n → GoesOn text m → ⊥
line_and_more text n m h k =
    let other = spell (end_words (length k.entries)) k.rest in
    let met = texts_meet h.version k.version h.config k.config h.entries k.entries h.rest other h.whole k.whole h.wrong (end_lacks k.version k.config (length k.entries) k.rest) (sym h.begins ∙ goes text m k) in
    h.open_end k.rest (met.3 ∙ ap (λ (xs : List Entry). spell (end_words (length xs)) k.rest) (sym met.2))

two_lines : (text : List ℕ) (n m : ℕ) → LineIsWrong text n → LineIsWrong text m → n ≡ m
two_lines text n m h k =
    let met = texts_meet h.version k.version h.config k.config h.entries k.entries h.rest k.rest h.whole k.whole h.wrong k.wrong (sym h.begins ∙ k.begins) in
    h.next ∙ ap (λ (xs : List Entry). length xs + 3) met.2 ∙ sym k.next

two_more : (text : List ℕ) (n m : ℕ) → GoesOn text n → GoesOn text m → n ≡ m
two_more text n m h k =
    let one = spell (end_words (length h.entries)) h.rest in
    let other = spell (end_words (length k.entries)) k.rest in
    let lacks = end_lacks h.version h.config (length h.entries) h.rest in
    let lacks_too = end_lacks k.version k.config (length k.entries) k.rest in
    let met = texts_meet h.version k.version h.config k.config h.entries k.entries one other h.whole k.whole lacks lacks_too (sym (goes text n h) ∙ goes text m k) in
    h.behind ∙ ap (λ (xs : List Entry). length xs + 4) met.2 ∙ sym k.behind

pub one_first : (text : List ℕ) (n m : ℕ) → IsFirstWrong text n → IsFirstWrong text m → n ≡ m
one_first text n m (inl h) (inl k) = h.second ∙ sym k.second
one_first text n m (inl h) (inr (inl k)) = absurd (both_wrong text n m h k)
one_first text n m (inl h) (inr (inr k)) = absurd (bus_and_more text n m h k)
one_first text n m (inr (inl h)) (inl k) = absurd (both_wrong text m n k h)
one_first text n m (inr (inr h)) (inl k) = absurd (bus_and_more text m n k h)
one_first text n m (inr (inl h)) (inr (inl k)) = two_lines text n m h k
one_first text n m (inr (inl h)) (inr (inr k)) = absurd (line_and_more text n m h k)
one_first text n m (inr (inr h)) (inr (inl k)) = absurd (line_and_more text m n k h)
one_first text n m (inr (inr h)) (inr (inr k)) = two_more text n m h k

-- a text with a wrong line has a valid version
pub not_both : (text : List ℕ) (n : ℕ) → IsOfNoVersion text → IsFirstWrong text n → ⊥
not_both text n (inl lacks) (inl h) = lacks h.version h.rest h.begins
not_both text n (inl lacks) (inr (inl h)) = lacks h.version _ h.begins
not_both text n (inl lacks) (inr (inr h)) = lacks h.version _ (goes text n h)
not_both text n (inr k) h = right_text text n k.version k.config k.entries k.whole k.is_text h

-- a text with only right lines, in a version that it does not need
pub needless_text : (text : List ℕ) (v : Version) (c : BusConfig) (es : List Entry) → HasLines v c es → text ≡ text_in v c es → is_needless v (all_needs es) ≡ true → IsNeedless text
needless_text text v c es whole is none = record { version = v; config = c; entries = es; whole = whole; none = none; is_text = is }
