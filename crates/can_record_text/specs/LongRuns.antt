use Rattle.std.specs.Prelude.{◌≡◌, ◌<◌, ℕ, List, [], length, take, slice_get, Option, Some, Result, Ok, Err}
use Rattle.std.specs.List.{flat_map}
use Rattle.std.specs.Io.KnownBytes.{Appends}
use Rattle.can_event.specs.declared.entry.Entry.{Entry}
use Rattle.can_record_text.specs.declared.long_writing.Torn.{Torn}
use Rattle.can_record_text.specs.Spelling.{entry_line, entry_lines}

-- The text of the record of a long run, which is written in pieces.

-- The lines of this many entries were written, and a front part of the next line, but not the whole line.
pub record IsTornAfter (old new : Option (List ℕ)) (entries : List Entry) (whole : ℕ) : Type 0 where
  pub next : Entry
  pub there : slice_get entries whole ≡ Some next
  pub front : ℕ
  pub proper : front < length (entry_line next [])
  pub out : Appends old new (entry_lines (take whole entries) (take front (entry_line next [])))

-- The lines of all entries were written, or the fault counts the whole lines.
abbrev pub BlockGoesOut : {A : Type 0} → Option (List ℕ) → Option (List ℕ) → List Entry → Result A Torn → Type 0
BlockGoesOut old new entries (Ok u) = Appends old new (entry_lines entries [])
BlockGoesOut old new entries (Err torn) = IsTornAfter old new entries torn.whole_lines

-- The entries of the blocks, one block after another.
abbrev pub entries_in : List (List Entry) → List Entry
entries_in blocks = flat_map (λ (block : List Entry). block) blocks

-- The lines of the entries in the blocks, one block after another.
abbrev pub lines_of_blocks : List (List Entry) → List ℕ
lines_of_blocks blocks = flat_map (λ (block : List Entry). entry_lines block []) blocks
