use Rattle.std.proofs.Common.{◌≡◌, ◌≤◌, length, take, vec_capacity}
use Rattle.can_record.specs.EntryStore.{entries_in}
use Rattle.can_record.proofs.entry_store.EntryStore.to_entries.Given as goal

abbrev pub invariant-loop-place : goal.invariant-loop-place
invariant-loop-place l = (l.copies.items ≡ take l.place (entries_in l.self)) × (length (entries_in l.self) ≤ vec_capacity l.copies)
