use Rattle.std.proofs.Common.{ℕ, ◌≡◌, ◌≤◌, length, slice_index}
use Rattle.can_frame.specs.Names.{names_in, start_of}
use Rattle.can_frame.proofs.names.starts_in.Given as goal

-- the starts of the names so far are stored
abbrev pub invariant-loop-name : goal.invariant-loop-name
invariant-loop-name l =
    (length l.starts ≡ 17) × (l.place ≡ length l.yielded) × ((k : ℕ) → k ≤ l.place → slice_index l.starts k ≡ start_of (names_in l.text) k)
