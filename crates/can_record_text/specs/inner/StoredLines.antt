use Rattle.std.specs.Prelude.{◌≡◌, ℕ, List, []}
use Rattle.can_frame.specs.Frames.{CanFrame}
use Rattle.can_event.specs.declared.entry.Entry.{Entry}
use Rattle.can_event.specs.Spelled.{FitsReply}
use Rattle.can_record.specs.declared.packed_entry.PackedEntry.{PackedEntry}
use Rattle.can_record.specs.declared.stored_entry.StoredEntry.{StoredEntry}
use Rattle.can_record.specs.PackedEntry.{entry_in}
use Rattle.can_record.specs.StoredEntry.{entry_stored}
use Rattle.can_record_text.specs.Spelling.{entry_line}

-- The lines of entries in their stored form (own choice).

-- The line of a stored entry.
abbrev pub stored_line : StoredEntry → List ℕ
stored_line s = entry_line (entry_stored s) []

-- The line of a packed entry, for any list of FD frames.
abbrev pub IsPackedLine : List ℕ → PackedEntry → Type 0
IsPackedLine line kept = (frames : List CanFrame) → line ≡ entry_line (entry_in frames kept) []

-- The reply of the entry fits its event.
abbrev pub HasFittingReply : Entry → Type 0
HasFittingReply e = FitsReply e.event e.reply
