use Rattle.std.specs.Prelude.{◌≡◌, ◌≢◌, true, ℕ, ◌+◌, ◌⊎◌, List, [], ◌++◌, length, reverse, Result, Ok, Err}
use Rattle.can_event.specs.declared.bus_config.BusConfig.{BusConfig}
use Rattle.can_event.specs.declared.entry.Entry.{Entry}
use Rattle.can_event.specs.Events.{IsConfig}
use Rattle.can_record.specs.Journal.{Kept}
use Rattle.can_record_text.specs.declared.fault.ReadFault.{ReadFault}
use Rattle.can_record_text.specs.declared.fault.ReadFault.TheVariants as fault
use Rattle.can_record_text.specs.declared.version.Version.{Version}
use Rattle.can_record_text.specs.declared.version.Version.TheVariants as version
use Rattle.can_record_text.specs.Spelling.{spell, first_line, bus_words, end_words, entry_line, entry_lines}
use Rattle.can_record_text.specs.Spelling.{front_lines, text_in, all_needs, is_needless, record_spelling}
use Rattle.can_record_text.specs.Values.{HasLine, HasBusLine, HasLines, HasText}

-- The faults of a text that is not the text of a record (own choice).

-- The text is the text of the record with these parts.
abbrev pub IsTextOf : List ℕ → BusConfig → List Entry → Type 0
IsTextOf text c entries = HasText c entries × (text ≡ record_spelling c entries)

-- The text is the text of some record.
abbrev pub IsRecordText : List ℕ → Type 0
IsRecordText text = (c : BusConfig) × (entries : List Entry) × IsTextOf text c entries

-- The text does not begin with the first line of any version.
abbrev pub LacksFirst : List ℕ → Type 0
LacksFirst text = (v : Version) (rest : List ℕ) → text ≢ first_line v ++ rest

-- Each line of the text is right in version 3, 5 or 6, but no line needs that version.
pub record IsNeedless (text : List ℕ) : Type 0 where
  pub version : Version
  pub config : BusConfig
  pub entries : List Entry
  pub whole : HasLines version config entries
  pub none : is_needless version (all_needs entries) ≡ true
  pub is_text : text ≡ text_in version config entries

-- The text is of no version: its first line is wrong, or its version is not needed.
abbrev pub IsOfNoVersion : List ℕ → Type 0
IsOfNoVersion text = LacksFirst text ⊎ IsNeedless text

-- The text does not begin with the line of a bus configuration in this version.
abbrev pub LacksBus : Version → List ℕ → Type 0
LacksBus v rest = (c : BusConfig) (more : List ℕ) → HasBusLine v c → rest ≢ spell (bus_words v c) more

-- The text does not begin with the line of an entry of this bus in this version.
abbrev pub LacksEntry : Version → BusConfig → List ℕ → Type 0
LacksEntry v c rest = (e : Entry) (more : List ℕ) → HasLine v c e → rest ≢ entry_line e more

-- The text does not begin with the last line for this many entries.
abbrev pub LacksEnd : ℕ → List ℕ → Type 0
LacksEnd count rest = (more : List ℕ) → rest ≢ spell (end_words count) more

-- The second line, after the first line of a version, is not the line of a bus configuration.
pub record BusIsWrong (text : List ℕ) (n : ℕ) : Type 0 where
  pub version : Version
  pub rest : List ℕ
  pub second : n ≡ 2
  pub begins : text ≡ first_line version ++ rest
  pub wrong : LacksBus version rest

-- After the first two lines and the lines of some entries, the next line is neither the line of an entry nor the last
-- line.
pub record LineIsWrong (text : List ℕ) (n : ℕ) : Type 0 where
  pub version : Version
  pub config : BusConfig
  pub entries : List Entry
  pub rest : List ℕ
  pub whole : HasLines version config entries
  pub begins : text ≡ front_lines version config (entry_lines entries rest)
  pub next : n ≡ length entries + 3
  pub wrong : LacksEntry version config rest
  pub open_end : LacksEnd (length entries) rest

-- Each line of the text is right up to the last line, but the text goes on after it.
pub record GoesOn (text : List ℕ) (n : ℕ) : Type 0 where
  pub version : Version
  pub config : BusConfig
  pub entries : List Entry
  pub rest : List ℕ
  pub whole : HasLines version config entries
  pub begins : text ≡ text_in version config entries ++ rest
  pub behind : n ≡ length entries + 4
  pub more : rest ≢ []

-- The number of the first line that is wrong or missing, from 1.
abbrev pub IsFirstWrong : List ℕ → ℕ → Type 0
IsFirstWrong text n = BusIsWrong text n ⊎ LineIsWrong text n ⊎ GoesOn text n

-- The result of reading the end of a text, after this many entries.
abbrev pub Ends : {A : Type 0} → ℕ → List ℕ → Result A ReadFault → Type 0
Ends count rest (Ok u) = rest ≡ spell (end_words count) []
Ends count rest (Err (fault.BadLine n)) =
    ((n ≡ count + 3) × LacksEnd count rest)
    ⊎ ((n ≡ count + 4) × ((more : List ℕ) × (rest ≡ spell (end_words count) more) × (more ≢ [])))
Ends count rest (Err fault.NoMemory) = Unit {0}
Ends count rest (Err fault.BadVersion) = ⊥

-- The result of reading a text of any version.
abbrev pub Reads : List ℕ → Result Kept ReadFault → Type 0
Reads text (Ok r) = IsTextOf text r.config (reverse r.history)
Reads text (Err fault.BadVersion) = IsOfNoVersion text
Reads text (Err (fault.BadLine n)) = IsFirstWrong text n
Reads text (Err fault.NoMemory) = Unit {0}

-- The text begins with the first line of a long run's record.
abbrev pub IsOfLongRun : List ℕ → Type 0
IsOfLongRun text = (rest : List ℕ) × (text ≡ first_line version.Four ++ rest)

-- The result of reading the text of a record that is not of a long run.
abbrev pub ReadsRecord : List ℕ → Result Kept ReadFault → Type 0
ReadsRecord text (Err fault.BadVersion) = IsOfNoVersion text ⊎ IsOfLongRun text
ReadsRecord text (Err (fault.BadLine n)) = IsFirstWrong text n × ¬ IsOfLongRun text
ReadsRecord text result = Reads text result

-- The result is the record with this configuration and these entries, unless memory was refused.
abbrev pub IsRecordOf : BusConfig → List Entry → Result Kept ReadFault → Type 0
IsRecordOf c entries (Ok r) = (r.config ≡ c) × (reverse r.history ≡ entries)
IsRecordOf c entries (Err why) = why ≡ fault.NoMemory

-- Reading the text of a record returns that record, unless memory is refused.
abbrev pub ReadsBack : List ℕ → Result Kept ReadFault → Type 0
ReadsBack text result =
    (c : BusConfig) (entries : List Entry) → IsConfig c → IsTextOf text c entries → IsRecordOf c entries result
