use Rattle.std.specs.Prelude.{◌≡◌, ℕ, ◌+◌, false, List, [], ◌++◌, reverse, Option, Result, Ok, Err}
use Rattle.can_event.specs.declared.reply.Reply.{Reply}
use Rattle.can_record_text.specs.declared.fault.Unread.{Unread}
use Rattle.can_record_text.specs.declared.fault.Unread.TheVariants as unread
use Rattle.can_record_text.specs.RecordFaults.{LacksEnd, LacksEntry}
use Rattle.can_record_text.specs.declared.fault.ReadFault.{ReadFault}
use Rattle.can_record_text.specs.declared.fault.ReadFault.TheVariants as fault
use Rattle.can_record_text.specs.Spelling.{end_words, spell}
use Rattle.can_record_text.specs.Texts.{StartsWith}
use Rattle.can_replay.specs.declared.entry_audit.EntryAudit.{EntryAudit}
use Rattle.can_replay.specs.inner.EntryAudits.{IsGoing, IsRead}
use Rattle.can_replay.specs.inner.Carried.{IsOther}
use Rattle.can_replay.specs.TextAudits.{IsLine}

-- The effect of one more line on an audit.

-- The line of an entry was taken. If the line is not the line of an entry, only the audit's bus may have changed.
abbrev pub Takes : {A : Type 0} → EntryAudit → EntryAudit → List ℕ → Result A Unread → Type 0
Takes old new line (Ok u) =
    (text : List ℕ) → IsGoing text old → old.is_ended ≡ false → IsLine line → IsGoing (text ++ line) new
Takes old new line (Err unread.Bad) =
    (new ≡ record old { bus = new.bus })
    × ((text : List ℕ) → IsGoing text old → old.is_ended ≡ false → LacksEntry old.version old.config line)
Takes old new line (Err unread.NoMemory) = Unit {0}

-- A wrong entry's line was taken, and `legal` is the reply that would be legal there. If the line is not the line of an
-- entry, the audit did not change.
abbrev pub ReportsWrong : {A : Type 0} → EntryAudit → EntryAudit → List ℕ → Option Reply → Result A Unread → Type 0
ReportsWrong old new line legal (Ok u) =
    (text : List ℕ) (read : IsRead text old) → old.is_ended ≡ false → old.bus.config ≡ old.config → IsLine line
    → IsOther old.config (reverse read.entries) line legal → IsGoing (text ++ line) new
ReportsWrong old new line legal (Err unread.Bad) = (new ≡ old) × LacksEntry old.version old.config line
ReportsWrong old new line legal (Err unread.NoMemory) = Unit {0}

-- The line begins with the end line after this many entries.
abbrev pub IsEndLine : ℕ → List ℕ → Type 0
IsEndLine count line = StartsWith (spell (end_words count) []) line

-- The fault of a line that should be the end line: the line is invalid, or memory was refused.
abbrev pub IsUnended : ℕ → List ℕ → ReadFault → Type 0
IsUnended count line (fault.BadLine n) = (n ≡ count + 3) × LacksEnd count line
IsUnended count line fault.NoMemory = Unit {0}
IsUnended count line fault.BadVersion = ⊥
