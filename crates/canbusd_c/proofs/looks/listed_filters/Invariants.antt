use Rattle.std.proofs.Common.{◌≡◌, drop}
use Rattle.canbusd_c.specs.Calls.{filters_of_structs}
use Rattle.canbusd_c.proofs.FilterLists.{before}
use Rattle.canbusd_c.proofs.looks.listed_filters.Given as goal

abbrev pub invariant-loop-filter : goal.invariant-loop-filter
invariant-loop-filter l = before l.list.items (filters_of_structs (drop l.filter-index l.filters)) ≡ filters_of_structs l.filters
