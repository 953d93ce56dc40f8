use Rattle.std.proofs.Common.{◌≡◌, ℕ, take}
use Rattle.can_filter.specs.Lookups.{is_found, is_matched}
use Rattle.can_filter.proofs.compiled.Compiled.of.Given as goal

abbrev pub invariant-loop-filter : goal.invariant-loop-filter
invariant-loop-filter l = (word : ℕ) → is_found l.parts.standard l.parts.extended.items l.parts.masked.items l.parts.inverted.items word ≡ is_matched (take l.filter-index l.filters) word
