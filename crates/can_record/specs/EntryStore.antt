use Rattle.std.specs.Prelude.{ℕ, List}
use Rattle.can_event.specs.declared.entry.Entry.{Entry}
use Rattle.can_record.specs.declared.entry_store.EntryStore.{EntryStore}
use Rattle.can_record.specs.declared.entry_store.EntryStore.TheVariants.{Packed, Given}

-- The entries of a record, the oldest first.
abbrev pub entries_in : EntryStore → List Entry
entries_in (Packed entries) = entries.entries
entries_in (Given entries) = entries.items

-- The number of entries for which a bus has memory. It is 0 for a given list, because no bus adds entries to it.
abbrev pub room_in : EntryStore → ℕ
room_in (Packed entries) = entries.room
room_in (Given entries) = 0
