use Rattle.std.specs.Prelude.{◌≡◌, ℕ, Bool, true, false, List, [], ◌++◌, length, reverse, Option, Some, None}
use Rattle.can_event.specs.declared.bus_config.BusConfig.{BusConfig}
use Rattle.can_event.specs.declared.entry.Entry.{Entry}
use Rattle.can_bus.specs.Lean.{IsAfter}
use Rattle.can_bus.specs.Legal.{IsLegal}
use Rattle.can_record_text.specs.declared.version.Version.{Version}
use Rattle.can_record_text.specs.Spelling.{bus_words, entry_lines, first_line, front_lines, all_needs, spell, text_in}
use Rattle.can_record_text.specs.Values.{HasLines}
use Rattle.can_replay.specs.Audits.{IsToldWrong}
use Rattle.can_replay.specs.declared.entry_audit.EntryAudit.{EntryAudit}
use Rattle.can_replay.specs.declared.text_fault.WrongLine.{WrongLine}

-- What is known about the lines after the first line.

-- `w` contains the first wrong entry and the bus's limit of entries.
pub record IsWrongIn (c : BusConfig) (entries : List Entry) (w : WrongLine) : Type 0 where
  pub told : IsToldWrong c entries w.place w.legal
  pub entry : w.entry ≡ told.first.entry
  pub limit : w.limit ≡ c.limit

-- All entries are legal, or the first wrong entry is known.
abbrev pub IsSettled : BusConfig → List Entry → Option WrongLine → Type 0
IsSettled c entries None = IsLegal c (reverse entries)
IsSettled c entries (Some w) = IsWrongIn c entries w

-- The text of the first two lines and the lines of these entries. If the flag is true, the end line follows.
abbrev pub so_far : Bool → Version → BusConfig → List Entry → List ℕ
so_far false v c entries = front_lines v c (entry_lines entries [])
so_far true v c entries = text_in v c entries

-- The audit has read the lines of this text.
pub record IsRead (text : List ℕ) (b : EntryAudit) : Type 0 where
  pub entries : List Entry
  pub good : HasLines b.version b.config entries
  pub begins : text ≡ so_far b.is_ended b.version b.config entries
  pub counted : b.count ≡ length entries
  pub needs : b.needs ≡ all_needs entries
  pub settled : IsSettled b.config entries b.wrong

-- The audit has read the lines of this text. The bus carried out their entries for as long as they were legal.
pub record IsGoing (text : List ℕ) (b : EntryAudit) : Type 0 where
  pub read : IsRead text b
  pub config : b.is_ended ≡ false → b.bus.config ≡ b.config
  pub is_after : b.is_ended ≡ false → b.wrong ≡ None → IsAfter b.bus (reverse read.entries)

-- The first two lines were read, but no entry yet.
pub record IsBegun (v : Version) (line : List ℕ) (b : EntryAudit) : Type 0 where
  pub going : IsGoing (first_line v ++ line) b
  pub none : going.read.entries ≡ []
  pub legal : b.wrong ≡ None
  pub is_line : line ≡ spell (bus_words b.version b.config) []
