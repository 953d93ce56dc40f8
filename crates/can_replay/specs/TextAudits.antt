use Rattle.std.specs.Prelude.{◌≡◌, ◌≢◌, ◌⊎◌, ℕ, Bool, false, All, List, [], ◌∷◌, ◌++◌, length, reverse, Result, Ok, Err}
use Rattle.std.specs.Prelude.{Option, Some, None}
use Rattle.std.specs.Io.{StopsAt}
use Rattle.std.specs.Io.BufRead.{take_through}
use Rattle.can_event.specs.declared.bus_config.BusConfig.{BusConfig}
use Rattle.can_event.specs.declared.entry.Entry.{Entry}
use Rattle.can_bus.specs.Legal.{IsLegal}
use Rattle.can_record_text.specs.declared.fault.ReadFault.{ReadFault}
use Rattle.can_record_text.specs.declared.fault.ReadFault.TheVariants as read
use Rattle.can_record_text.specs.declared.version.Version.{Version}
use Rattle.can_record_text.specs.RecordFaults.{IsTextOf, Reads}
use Rattle.can_record_text.specs.Spelling.{entry_lines, first_line, front_lines}
use Rattle.can_record_text.specs.Values.{HasBusLine, HasLines}
use Rattle.can_replay.specs.declared.text_fault.Cut.{Cut}
use Rattle.can_replay.specs.declared.text_fault.Cut.TheVariants as cut
use Rattle.can_replay.specs.declared.text_fault.TextFault.{TextFault}
use Rattle.can_replay.specs.declared.text_fault.TextFault.TheVariants as fault
use Rattle.can_replay.specs.declared.text_fault.WrongLine.{WrongLine}
use Rattle.can_replay.specs.declared.text_audit.Phase.{Phase}
use Rattle.can_replay.specs.declared.text_audit.Phase.TheVariants as phase
use Rattle.can_replay.specs.declared.text_audit.TextAudit.{TextAudit}
use Rattle.can_replay.specs.inner.EntryAudits.{IsGoing, IsWrongIn}

-- The results of an audit of a text (own choice).

-- The text is the text of a legal record with this many entries.
pub record IsLegalText (text : List ℕ) (count : ℕ) : Type 0 where
  pub config : BusConfig
  pub entries : List Entry
  pub whole : IsTextOf text config entries
  pub legal : IsLegal config (reverse entries)
  pub counted : count ≡ length entries

-- The text is the text of a record whose first wrong entry is `w`.
pub record IsWrongText (text : List ℕ) (w : WrongLine) : Type 0 where
  pub config : BusConfig
  pub entries : List Entry
  pub whole : IsTextOf text config entries
  pub wrong : IsWrongIn config entries w

-- What the audit's result at the end of the text says about the text.
abbrev pub Reports : List ℕ → Result ℕ TextFault → Type 0
Reports text (Ok count) = IsLegalText text count
Reports text (Err (fault.Read why)) = Reads text (Err why)
Reports text (Err (fault.Wrong w)) = IsWrongText text w

-- These bytes contain no LF, so no line ends in them.
abbrev pub EndsNoLine : List ℕ → Type 0
EndsNoLine bytes = All (λ b. b ≢ 10) bytes

-- The text is the beginning of a record's text: the first two lines, the lines of these entries, and bytes with no LF.
pub record IsFrontOf (text : List ℕ) (config : BusConfig) (entries : List Entry) : Type 0 where
  pub version : Version
  pub torn : List ℕ
  pub good : HasLines version config entries
  pub begins : text ≡ front_lines version config (entry_lines entries torn)
  pub unended : EndsNoLine torn

-- The text begins with the first two lines of a record with this bus.
abbrev pub HasBus : List ℕ → BusConfig → Type 0
HasBus text c = (v : Version) × (rest : List ℕ) × HasBusLine v c × (text ≡ front_lines v c rest)

-- The text does not begin with the first two lines of a record.
abbrev pub LacksFront : List ℕ → Type 0
LacksFront text = (v : Version) (c : BusConfig) (rest : List ℕ) → HasBusLine v c → text ≢ front_lines v c rest

-- The text is cut off: it is the beginning of a legal record's text and ends after the lines of this many entries, or
-- within the next line.
pub record IsCutText (text : List ℕ) (count : ℕ) : Type 0 where
  pub config : BusConfig
  pub entries : List Entry
  pub front : IsFrontOf text config entries
  pub legal : IsLegal config (reverse entries)
  pub counted : count ≡ length entries

-- The text is cut off, and `w` is the first wrong entry in it.
pub record IsWrongCut (text : List ℕ) (w : WrongLine) : Type 0 where
  pub config : BusConfig
  pub entries : List Entry
  pub front : IsFrontOf text config entries
  pub wrong : IsWrongIn config entries w

-- The text is not the beginning of a legal record's text.
abbrev pub IsUncut : List ℕ → Type 0
IsUncut text = (count : ℕ) → IsCutText text count → ⊥

-- What a faulty line says about a text that may be cut off: the text is neither the text of a record nor the beginning
-- of a legal record's text. Lack of memory says nothing about the text.
abbrev pub FaultsUncut : List ℕ → ReadFault → Type 0
FaultsUncut text read.NoMemory = Unit {0}
FaultsUncut text why = Reads text (Err why) × IsUncut text

-- What the audit's result at the end of the text says about a text that may be cut off.
abbrev pub ReportsCut : List ℕ → Result Cut TextFault → Type 0
ReportsCut text (Ok (cut.Whole count)) = IsLegalText text count
ReportsCut text (Ok (cut.Off count)) = IsCutText text count
ReportsCut text (Err (fault.Read why)) = FaultsUncut text why
ReportsCut text (Err (fault.Wrong w)) = IsWrongText text w ⊎ IsWrongCut text w

-- These bytes end with LF.
abbrev pub EndsLine : List ℕ → Type 0
EndsLine bytes = (front : List ℕ) × (bytes ≡ front ++ 10 ∷ [])

-- The bytes are one line: they are not empty, and they contain no LF except possibly as the last byte.
pub record IsLine (line : List ℕ) : Type 0 where
  pub some : line ≢ []
  pub stops : StopsAt line 10

-- These bytes may follow the line in a text. If the line has no LF, no bytes may follow it.
abbrev pub MayFollow : List ℕ → List ℕ → Type 0
MayFollow line after = take_through 10 (line ++ after) ≡ line

-- The audit took the next line after the text before it.
abbrev pub TakesOn : {A : Type 0} → (List ℕ → A → Type 0) → A → A → List ℕ → Type 0
TakesOn {A} are old new line = (text : List ℕ) → are text old → IsLine line → are (text ++ line) new

-- The audit took all text before a line. The line is faulty, whatever bytes follow it.
abbrev pub FailsNext : {A : Type 0} → (List ℕ → A → Type 0) → A → List ℕ → ReadFault → Type 0
FailsNext {A} are old line why =
    (text after : List ℕ) → are text old → IsLine line → MayFollow line after
    → Reads (text ++ (line ++ after)) (Err why)

-- A line after these bytes of a text is faulty, whatever bytes follow it.
abbrev pub FailsAfter : List ℕ → List ℕ → ReadFault → Type 0
FailsAfter front line why = (after : List ℕ) → MayFollow line after → Reads (front ++ (line ++ after)) (Err why)

-- The lines that were taken so far make up this text.
abbrev pub HasCome : List ℕ → Phase → Type 0
HasCome text phase.Start = text ≡ []
HasCome text (phase.Front v) = text ≡ first_line v
HasCome text (phase.Entries b) = IsGoing text b
HasCome text (phase.Failed why) = ⊥

-- The audit has taken this text.
abbrev pub AreTaken : List ℕ → TextAudit → Type 0
AreTaken text audit = HasCome text audit.phase

-- The audit reported this fault.
abbrev pub HasFailed : ReadFault → TextAudit → Type 0
HasFailed why audit = audit.phase ≡ phase.Failed why

-- The first line of the text, or no bytes if it was not taken or a line was faulty.
abbrev pub first_taken : Phase → List ℕ
first_taken (phase.Front v) = first_line v
first_taken (phase.Entries b) = first_line b.version
first_taken _ = []

-- The end line was taken.
abbrev pub has_end_line : Phase → Bool
has_end_line (phase.Entries b) = b.is_ended
has_end_line _ = false

-- The configuration in the bus's line, or None if that line was not taken or a line was faulty.
abbrev pub bus_taken : Phase → Option BusConfig
bus_taken (phase.Entries b) = Some b.config
bus_taken _ = None
