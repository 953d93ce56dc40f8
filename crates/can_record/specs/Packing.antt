use Rattle.std.specs.Prelude.{◌+◌, ◌-◌, min, map, length, vec_len, vec_capacity}
use Rattle.can_record.specs.PackedEntry.{entry_in, AreWithin}
use Rattle.can_record.specs.Records.{PackedEntries}
use Rattle.can_record.specs.declared.packed_record.PackedRecord.TheInside.{Inside}

-- A list of packed entries, with the list of their FD frames.

-- The entries, and the number of entries for which there is memory: one more entry may take a place in both lists.
abbrev pub packed_entries : Inside → PackedEntries
packed_entries r = record {
  entries = map (entry_in r.frames.items) r.entries.items;
  room =
      vec_len r.entries + min (vec_capacity r.entries - vec_len r.entries) (vec_capacity r.frames - vec_len r.frames);
}

-- The place of each FD frame is within the list of frames.
abbrev pub IsPacked : Inside → Type 0
IsPacked r = AreWithin (length r.frames.items) r.entries.items
