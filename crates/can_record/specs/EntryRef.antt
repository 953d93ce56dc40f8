use Rattle.can_event.specs.declared.entry.Entry.{Entry}
use Rattle.can_record.specs.declared.entry_ref.EntryCow.{EntryCow}
use Rattle.can_record.specs.declared.entry_ref.EntryCow.TheVariants.{Owned, Borrowed}

-- The entry that the reader sees.
abbrev pub entry_seen : EntryCow → Entry
entry_seen (Owned entry) = entry
entry_seen (Borrowed entry) = entry.now
