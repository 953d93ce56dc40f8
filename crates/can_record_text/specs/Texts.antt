use Rattle.std.specs.Prelude.{◌≡◌, ◌↔◌, ℕ, Bool, IsTrue, List, [], ◌++◌, drop, length, reverse, Result, Ok, Err}
use Rattle.can_event.specs.declared.bus_config.BusConfig.{BusConfig}
use Rattle.can_event.specs.declared.entry.Entry.{Entry}
use Rattle.can_event.specs.declared.event.Event.{Event}
use Rattle.can_event.specs.declared.reply.Reply.{Reply}
use Rattle.can_record.specs.Journal.{Kept}
use Rattle.can_record_text.specs.declared.version.Version.{Version}
use Rattle.can_record_text.specs.Spelling.{answered_line, bus_words, entry_line, entry_lines, record_spelling, spell}
use Rattle.can_record_text.specs.Values.{HasBusLine, HasLine}

-- Texts, and the lines at their beginning.

-- The text begins with these bytes.
abbrev pub StartsWith : List ℕ → List ℕ → Type 0
StartsWith front text = text ≡ front ++ drop (length front) text

-- The text begins with the line of an event with this reply.
abbrev pub StartsWithLine : Event → Reply → List ℕ → Type 0
StartsWithLine event reply text = text ≡ answered_line event reply (drop (length (answered_line event reply [])) text)

-- The result says whether the text begins with the line of an event with this reply, unless memory was refused.
abbrev pub DecidesLine : {E : Type 0} → Event → Reply → List ℕ → Result Bool E → Type 0
DecidesLine event reply text (Ok same) = IsTrue same ↔ StartsWithLine event reply text
DecidesLine event reply text (Err why) = Unit {0}

-- The text begins with this line of an entry, in this version of the record of this bus.
pub record StartsWithEntry (v : Version) (c : BusConfig) (text line : List ℕ) (e : Entry) : Type 0 where
  pub good : HasLine v c e
  pub spelled : line ≡ entry_line e []
  pub begins : StartsWith (entry_line e []) text

-- The text begins with this line of a bus configuration, in this version.
pub record StartsWithBus (v : Version) (text line : List ℕ) (c : BusConfig) : Type 0 where
  pub good : HasBusLine v c
  pub spelled : line ≡ spell (bus_words v c) []
  pub begins : StartsWith (spell (bus_words v c) []) text

-- The lines of a record's entries, the oldest first.
abbrev pub lines_of : Kept → List ℕ
lines_of r = entry_lines (reverse r.history) []

-- The text of a record.
abbrev pub text_of : Kept → List ℕ
text_of r = record_spelling r.config (reverse r.history)
