use Rattle.std.specs.Prelude.{◌≤◌, length}
use Rattle.can_event.specs.declared.entry.Entry.{Entry}
use Rattle.can_record.specs.declared.stored_entry.StoredEntry.{StoredEntry}
use Rattle.can_record.specs.declared.stored_entry.StoredEntry.TheVariants.{Packed, Whole}
use Rattle.can_record.specs.PackedEntry.{entry_in, frames_needed, IsSmall}

-- An entry in its stored form.

-- The entry that a stored entry stands for.
abbrev pub entry_stored : StoredEntry → Entry
entry_stored (Packed frames kept) = entry_in frames.now kept.now
entry_stored (Whole entry) = entry.now

-- A packed entry is not boxed, and its place is within the list of FD frames.
abbrev pub IsStored : StoredEntry → Type 0
IsStored (Packed frames kept) = IsSmall kept.now × frames_needed kept.now ≤ length frames.now
IsStored (Whole entry) = Unit {0}
