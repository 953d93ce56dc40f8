-- The first lines, the last line, and the result of the audit at the end of a text.
use Rattle.std.proofs.Common.{◌≡◌, ◌≢◌, ◌==◌, ◌^◌, ◌<◌, ◌+◌, ℕ, Bool, true, false, List, [], ◌∷◌, ◌++◌, length, drop, Some, None, Result, Ok, Err, IfErr, OnOk, inl, inr, refl, sym, ap, subst, ◌∙◌}
use Rattle.std.proofs.lemmas.List.{append-nil}
use Rattle.std.proofs.lemmas.List.Elements.{All-nil}
use Rattle.std.proofs.lemmas.Option.{none-some}
use Rattle.can_event.specs.declared.bus_config.BusConfig.{BusConfig}
use Rattle.can_event.specs.declared.entry.Entry.{Entry}
use Rattle.can_bus.specs.Lean.{Lean, IsAfter}
use Rattle.can_record_text.specs.declared.fault.ReadFault.{ReadFault}
use Rattle.can_record_text.specs.declared.fault.ReadFault.TheVariants as fault
use Rattle.can_record_text.specs.declared.needs.Needs.{Needs}
use Rattle.can_record_text.specs.declared.version.Version.{Version}
use Rattle.can_record_text.specs.inner.Reading.{entry_at}
use Rattle.can_record_text.specs.Spelling.{bus_words, end_words, entry_lines, first_line, front_lines, is_needless, no_needs, spell, text_in}
use Rattle.can_record_text.specs.Values.{HasBusLine, HasLine, HasLines}
use Rattle.can_record_text.specs.RecordFaults.{IsFirstWrong, IsOfNoVersion, IsTextOf, LacksBus, LacksEnd, LacksEntry, Reads}
use Rattle.can_record_text.proofs.Again.{entry_again, nothing_is_none}
use Rattle.can_record_text.proofs.LineLists.{lines-rest}
use Rattle.can_record_text.proofs.Versioning.{version_is}
use Rattle.can_record_text.proofs.Whole.{first_is_wrong, front-then, needless_text}
use Rattle.can_replay.specs.declared.entry_audit.EntryAudit.{EntryAudit}
use Rattle.can_replay.specs.declared.text_fault.TextFault.{TextFault}
use Rattle.can_replay.specs.declared.text_fault.TextFault.TheVariants as found
use Rattle.can_replay.specs.declared.text_fault.WrongLine.{WrongLine}
use Rattle.can_replay.specs.TextAudits.{EndsNoLine, FaultsUncut, IsCutText, IsFrontOf, IsLegalText, IsLine, IsUncut, IsWrongCut, IsWrongText, MayFollow, Reports, ReportsCut}
use Rattle.can_replay.specs.EventTexts.{IsOff, IsWhole}
use Rattle.can_replay.specs.inner.EntryAudits.{IsBegun, IsGoing, IsSettled, so_far}
use Rattle.can_replay.specs.inner.Steps.{IsUnended, IsEndLine}
use Rattle.can_replay.proofs.LineEnds.{cut_bus, cut_end, lacks_bus, lacks_end, lacks_entry, torn_bus, torn_first}
use Rattle.can_replay.proofs.Uncut.{ended_uncut, second_uncut, version_uncut}

-- ---- the line of the bus

front_alone : (v : Version) (c : BusConfig) → front_lines v c (entry_lines [] []) ≡ first_line v ++ spell (bus_words v c) []
unfolding entry_lines
front_alone v c = refl

begun : (v : Version) (c : BusConfig) (line rest : List ℕ) (bus : Lean) (needs : Needs) → HasBusLine v c → line ≡ spell (bus_words v c) [] ++ rest → IsAfter bus [] → bus.config ≡ c → needs ≡ no_needs → IsLine line
    → IsGoing (first_line v ++ line) (record { version = v; config = c; bus = bus; count = 0; needs = needs; wrong = None; is_ended = false })
begun v c line rest bus needs good is_after new config nothing is = record {
  read = record {
    entries = [];
    good = record { bus = good; lines = All-nil (HasLine v c) };
    begins = ap (λ (x : List ℕ). first_line v ++ x) (cut_bus v c line rest is good is_after) ∙ sym (front_alone v c);
    counted = refl;
    needs = nothing;
    settled = tt;
  };
  config = λ going. config;
  is_after = λ going none. new;
}

pub begun_at : (v : Version) (c : BusConfig) (line rest : List ℕ) (bus : Lean) (needs : Needs) → HasBusLine v c → line ≡ spell (bus_words v c) [] ++ rest → IsAfter bus [] → bus.config ≡ c → needs ≡ no_needs → IsLine line
    → IsBegun v line (record { version = v; config = c; bus = bus; count = 0; needs = needs; wrong = None; is_ended = false })
unfolding begun
begun_at v c line rest bus needs good is_after new config nothing is = record {
  going = begun v c line rest bus needs good is_after new config nothing is;
  none = refl;
  legal = refl;
  is_line = cut_bus v c line rest is good is_after;
}

pub no_bus : (v : Version) (line after : List ℕ) → LacksBus v line → MayFollow line after → IsFirstWrong (first_line v ++ (line ++ after)) 2
no_bus v line after lacks may = first_is_wrong v (first_line v ++ (line ++ after)) (line ++ after) refl (lacks_bus v line after may lacks)

-- ---- the text continues after the lines that were already read

open_text : (b : Bool) (v : Version) (c : BusConfig) (es : List Entry) (more : List ℕ) → b ≡ false → so_far b v c es ++ more ≡ front_lines v c (entry_lines es more)
open_text true v c es more is = absurd cc
open_text false v c es more is = front-then v c (entry_lines es []) more ∙ ap (front_lines v c) (lines-rest es more)

ended_text : (b : Bool) (v : Version) (c : BusConfig) (es : List Entry) → b ≡ true → so_far b v c es ≡ text_in v c es
ended_text true v c es is = refl
ended_text false v c es is = absurd cc

some_more : (xs ys : List ℕ) → xs ≢ [] → xs ++ ys ≢ []
some_more [] ys some is = some refl
some_more (x ∷ xs) ys some is = absurd cc

-- If bytes follow the end line, the line after it is the first wrong line.
pub more_there : (text rest : List ℕ) (b : EntryAudit) → IsGoing text b → b.is_ended ≡ true → rest ≢ [] → IsFirstWrong (text ++ rest) (b.count + 4)
more_there text rest b g ended some = inr (inr (record {
  version = b.version;
  config = b.config;
  entries = g.read.entries;
  rest = rest;
  whole = g.read.good;
  begins = ap (λ (x : List ℕ). x ++ rest) (g.read.begins ∙ ended_text b.is_ended b.version b.config g.read.entries ended);
  behind = ap (λ (n : ℕ). n + 4) g.read.counted;
  more = some;
}))

pub goes_on : (text line after : List ℕ) (b : EntryAudit) → IsGoing text b → b.is_ended ≡ true → IsLine line → IsFirstWrong (text ++ (line ++ after)) (b.count + 4)
goes_on text line after b g ended is = more_there text (line ++ after) b g ended (some_more line after is.some)

-- The line is neither the line of an entry nor the end line.
unended : (text line after : List ℕ) (b : EntryAudit) (why : ReadFault) → IsGoing text b → b.is_ended ≡ false → b.count < 2 ^ 64 → MayFollow line after → LacksEntry b.version b.config line → IsUnended b.count line why → Reads (text ++ (line ++ after)) (Err why)
unended text line after b fault.NoMemory g going few may lacks h = tt
unended text line after b fault.BadVersion g going few may lacks h = absurd h
unended text line after b (fault.BadLine n) g going few may lacks h =
    let es = g.read.entries in
    inr (inl (record {
      version = b.version;
      config = b.config;
      entries = es;
      rest = line ++ after;
      whole = g.read.good;
      begins = ap (λ (x : List ℕ). x ++ (line ++ after)) g.read.begins ∙ open_text b.is_ended b.version b.config es (line ++ after) going;
      next = h.0 ∙ ap (λ (m : ℕ). m + 3) g.read.counted;
      wrong = lacks_entry b.version b.config line after may lacks;
      open_end = subst (λ (m : ℕ). LacksEnd m (line ++ after)) g.read.counted (lacks_end b.count line after few may h.1);
    }))

-- The end line.
ended : (text line : List ℕ) (b : EntryAudit) (bus : Lean) → IsGoing text b → b.is_ended ≡ false → b.count < 2 ^ 64 → IsLine line → IsEndLine b.count line → IsGoing (text ++ line) (record b { bus = bus; is_ended = true })
ended text line b bus g going few is is_after =
    let es = g.read.entries in
    let last : line ≡ spell (end_words (length es)) [] = cut_end b.count line (drop (length (spell (end_words b.count) [])) line) few is is_after ∙ ap (λ (m : ℕ). spell (end_words m) []) g.read.counted in
    record {
      read = record {
        entries = es;
        good = g.read.good;
        begins = ap (λ (x : List ℕ). x ++ line) g.read.begins ∙ open_text b.is_ended b.version b.config es line going ∙ ap (λ (x : List ℕ). front_lines b.version b.config (entry_lines es x)) last;
        counted = g.read.counted;
        needs = g.read.needs;
        settled = g.read.settled;
      };
      config = λ no. absurd cc;
      is_after = λ no none. absurd cc;
    }

-- The line could not be read as an entry, and was then read as the end line.
pub end_taken : (line : List ℕ) (old mid new : EntryAudit) (r : Result (Unit {0}) ReadFault) → mid ≡ record old { bus = mid.bus } → old.is_ended ≡ false → mid.count < 2 ^ 64 → OnOk r (new ≡ record mid { is_ended = true }) → OnOk r (IsEndLine mid.count line)
    → OnOk r ((text : List ℕ) → IsGoing text old → IsLine line → IsGoing (text ++ line) new)
end_taken line old mid new (Ok u) kept going few h end = λ text g is.
    let count : mid.count ≡ old.count = ap (λ (b : EntryAudit). b.count) kept in
    subst (IsGoing (text ++ line)) (sym (h ∙ ap (λ (b : EntryAudit). record b { is_ended = true }) kept))
    (ended text line old mid.bus g going (subst (λ (n : ℕ). n < 2 ^ 64) count few) is (subst (λ (n : ℕ). IsEndLine n line) count end))
end_taken line old mid new (Err why) kept going few h end = tt

pub end_lacks : (line : List ℕ) (old mid : EntryAudit) (r : Result (Unit {0}) ReadFault) → mid ≡ record old { bus = mid.bus } → old.is_ended ≡ false → mid.count < 2 ^ 64 → ((text : List ℕ) → IsGoing text old → old.is_ended ≡ false → LacksEntry old.version old.config line)
    → IfErr r (λ why. IsUnended mid.count line why) → IfErr r (λ why. (text after : List ℕ) → IsGoing text old → IsLine line → MayFollow line after → Reads (text ++ (line ++ after)) (Err why))
end_lacks line old mid (Ok u) kept going few lacks h = tt
end_lacks line old mid (Err why) kept going few lacks h = λ text after g is may.
    let count : mid.count ≡ old.count = ap (λ (b : EntryAudit). b.count) kept in
    unended text line after old why g going (subst (λ (n : ℕ). n < 2 ^ 64) count few) may (lacks text g going) (subst (λ (n : ℕ). IsUnended n line why) count h)

-- ---- the end of the text

pub nothing_lacks : (v : Version) (c : BusConfig) → LacksEntry v c []
nothing_lacks v c e more good is = none-some e (sym nothing_is_none ∙ ap entry_at is ∙ entry_again v c e more good)

nothing_ends : (n : ℕ) → LacksEnd n []
nothing_ends n more is = absurd cc

pub unfinished : (text : List ℕ) (b : EntryAudit) → IsGoing text b → b.is_ended ≡ false → IsFirstWrong text (b.count + 3)
unfinished text b g going =
    let es = g.read.entries in
    inr (inl (record {
      version = b.version;
      config = b.config;
      entries = es;
      rest = [];
      whole = g.read.good;
      begins = g.read.begins ∙ sym (append-nil (so_far b.is_ended b.version b.config es)) ∙ open_text b.is_ended b.version b.config es [] going;
      next = ap (λ (m : ℕ). m + 3) g.read.counted;
      wrong = nothing_lacks b.version b.config;
      open_end = nothing_ends (length es);
    }))

pub needless : (text : List ℕ) (b : EntryAudit) → IsGoing text b → b.is_ended ≡ true → is_needless b.version b.needs ≡ true → IsOfNoVersion text
needless text b g end none =
    let es = g.read.entries in
    inr (needless_text text b.version b.config es g.read.good (g.read.begins ∙ ended_text b.is_ended b.version b.config es end) (ap (is_needless b.version) (sym g.read.needs) ∙ none))

is_text : (text : List ℕ) (b : EntryAudit) (g : IsGoing text b) → b.is_ended ≡ true → is_needless b.version b.needs ≡ false → IsTextOf text b.config g.read.entries
is_text text b g end needed =
    let es = g.read.entries in
    let right = version_is b.version b.config es g.read.good (ap (is_needless b.version) (sym g.read.needs) ∙ needed) in
    (subst (λ (u : Version). HasLines u b.config es) right g.read.good, g.read.begins ∙ ended_text b.is_ended b.version b.config es end ∙ ap (λ (u : Version). text_in u b.config es) right)

pub all_legal : (text : List ℕ) (b : EntryAudit) (g : IsGoing text b) → b.is_ended ≡ true → is_needless b.version b.needs ≡ false → b.wrong ≡ None → IsLegalText text b.count
all_legal text b g end needed none = record {
  config = b.config;
  entries = g.read.entries;
  whole = is_text text b g end needed;
  legal = subst (IsSettled b.config g.read.entries) none g.read.settled;
  counted = g.read.counted;
}

pub whole_at : (text : List ℕ) (b : EntryAudit) (g : IsGoing text b) → b.is_ended ≡ true → is_needless b.version b.needs ≡ false → b.wrong ≡ None → IsWhole text b g b.count
whole_at text b g end needed none = record {
  whole = is_text text b g end needed;
  version = version_is b.version b.config g.read.entries g.read.good (ap (is_needless b.version) (sym g.read.needs) ∙ needed);
  legal = none;
  counted = g.read.counted;
}

pub one_wrong : (text : List ℕ) (b : EntryAudit) (w : WrongLine) (g : IsGoing text b) → b.is_ended ≡ true → is_needless b.version b.needs ≡ false → b.wrong ≡ Some w → IsWrongText text w
one_wrong text b w g end needed some = record {
  config = b.config;
  entries = g.read.entries;
  whole = is_text text b g end needed;
  wrong = subst (IsSettled b.config g.read.entries) some g.read.settled;
}

-- ---- the end of a text that may be cut off

front_is : (text torn : List ℕ) (b : EntryAudit) (g : IsGoing text b) → b.is_ended ≡ false → EndsNoLine torn → IsFrontOf (text ++ torn) b.config g.read.entries
front_is text torn b g going h = record {
  version = b.version;
  torn = torn;
  good = g.read.good;
  begins = ap (λ (x : List ℕ). x ++ torn) g.read.begins ∙ open_text b.is_ended b.version b.config g.read.entries torn going;
  unended = h;
}

pub cut_legal : (text torn : List ℕ) (b : EntryAudit) → IsGoing text b → b.is_ended ≡ false → EndsNoLine torn → b.wrong ≡ None → IsCutText (text ++ torn) b.count
cut_legal text torn b g going h none = record {
  config = b.config;
  entries = g.read.entries;
  front = front_is text torn b g going h;
  legal = subst (IsSettled b.config g.read.entries) none g.read.settled;
  counted = g.read.counted;
}

pub off_at : (text torn : List ℕ) (b : EntryAudit) (g : IsGoing text b) → b.is_ended ≡ false → EndsNoLine torn → b.wrong ≡ None → IsOff text torn b g b.count
unfolding front_is
off_at text torn b g going h none = record { front = front_is text torn b g going h; version = refl; legal = none; counted = g.read.counted }

pub cut_wrong : (text torn : List ℕ) (b : EntryAudit) (w : WrongLine) → IsGoing text b → b.is_ended ≡ false → EndsNoLine torn → b.wrong ≡ Some w → IsWrongCut (text ++ torn) w
cut_wrong text torn b w g going h some = record {
  config = b.config;
  entries = g.read.entries;
  front = front_is text torn b g going h;
  wrong = subst (IsSettled b.config g.read.entries) some g.read.settled;
}

-- No bytes follow the end line of the text.
pub whole_legal : (text torn : List ℕ) (count : ℕ) → torn ≡ [] → IsLegalText text count → IsLegalText (text ++ torn) count
whole_legal text torn count none h = subst (λ (x : List ℕ). IsLegalText x count) (sym (ap (λ (x : List ℕ). text ++ x) none ∙ append-nil text)) h

pub some_torn : (torn : List ℕ) → false ≡ (length torn == 0) → torn ≢ []
some_torn [] is none = absurd cc
some_torn (x ∷ xs) is none = absurd cc

-- A text that contains its end line is not cut off.
pub not_cut : (text torn : List ℕ) (b : EntryAudit) → IsGoing text b → b.is_ended ≡ true → IsUncut (text ++ torn)
not_cut text torn b g end = ended_uncut text torn b.version b.config g.read.entries g.read.good (g.read.begins ∙ ended_text b.is_ended b.version b.config g.read.entries end)

pub whole_fault : (text torn : List ℕ) (why : TextFault) → torn ≡ [] → IsUncut (text ++ torn) → Reports text (Err why) → ReportsCut (text ++ torn) (Err why)
whole_fault text torn why none uncut h = same why (subst (λ (x : List ℕ). Reports x (Err why)) (sym (ap (λ (x : List ℕ). text ++ x) none ∙ append-nil text)) h)
  where
    same : (why : TextFault) → Reports (text ++ torn) (Err why) → ReportsCut (text ++ torn) (Err why)
    same (found.Read fault.NoMemory) h = tt
    same (found.Read fault.BadVersion) h = (h, uncut)
    same (found.Read (fault.BadLine n)) h = (h, uncut)
    same (found.Wrong w) h = inl h

-- The text is cut off within its first two lines.
pub cut_first : (text torn : List ℕ) → text ≡ [] → EndsNoLine torn → FaultsUncut (text ++ torn) fault.BadVersion
cut_first text torn none h =
    let lacks : IsOfNoVersion (text ++ torn) = subst IsOfNoVersion (ap (λ (x : List ℕ). x ++ torn) (sym none)) (inl (torn_first torn h)) in
    (lacks, version_uncut (text ++ torn) lacks)

pub cut_second : (v : Version) (text torn : List ℕ) → text ≡ first_line v → EndsNoLine torn → FaultsUncut (text ++ torn) (fault.BadLine 2)
cut_second v text torn is h =
    let wrong = first_is_wrong v (text ++ torn) torn (ap (λ (x : List ℕ). x ++ torn) is) (torn_bus v torn h) in
    (wrong, second_uncut (text ++ torn) wrong)
