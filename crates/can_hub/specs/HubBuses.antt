use Rattle.std.specs.Prelude.{ℕ, ◌<◌, List, []}
use Rattle.can_event.specs.declared.bus_config.BusConfig.{BusConfig}
use Rattle.can_event.specs.declared.entry.Entry.{Entry}
use Rattle.can_event.specs.Events.{IsConfig, IsLongConfig, max_limit}
use Rattle.can_record.specs.Journal.{Journal}
use Rattle.can_bus.specs.Long.{handed_entries, journal_of, places_left}
use Rattle.can_hub.specs.declared.hub_bus.AnyBus.{AnyBus}
use Rattle.can_hub.specs.declared.hub_bus.AnyBus.TheVariants as bus
use Rattle.can_hub.specs.declared.hub_bus.AnyEnd.{AnyEnd}
use Rattle.can_hub.specs.declared.hub_bus.AnyEnd.TheVariants as end

-- The buses of a hub, which either keep their whole records or are for long runs (own choice).

-- The configuration is valid for a hub's bus for long runs: its limit of entries is higher than the limit of any whole
-- record.
abbrev pub IsOfLongRuns : BusConfig → Type 0
IsOfLongRuns c = (max_limit < c.limit) × IsLongConfig c

-- The journal of a bus, as callers see it.
abbrev pub journal_in : AnyBus → Journal
journal_in (bus.Whole b) = b
journal_in (bus.Long b) = journal_of b

-- The number of entries that a bus has room for before some must be handed out. For a bus that keeps its whole record,
-- this is the largest usize.
abbrev pub places_in : AnyBus → ℕ
places_in (bus.Whole b) = 18446744073709551615
places_in (bus.Long b) = places_left b

-- The entries that a bus has handed out, oldest first. A bus that keeps its whole record hands out no entries.
abbrev pub handed_in : AnyBus → List Entry
handed_in (bus.Whole b) = []
handed_in (bus.Long b) = handed_entries b

-- The configuration of the bus is valid for its kind of bus.
abbrev pub HasItsLength : AnyBus → Type 0
HasItsLength (bus.Whole b) = IsConfig b.config
HasItsLength (bus.Long b) = IsOfLongRuns b.config

-- The journal that remains of a bus at its end, as callers see it.
abbrev pub left_in : AnyEnd → Journal
left_in (end.Whole r) = record { config = r.config; history = r.history }
left_in (end.Long e) = journal_of e

-- The entries that the bus had handed out before its end.
abbrev pub handed_by : AnyEnd → List Entry
handed_by (end.Whole r) = []
handed_by (end.Long e) = handed_entries e

-- The configuration that remains of a bus at its end is valid for its kind of bus.
abbrev pub EndsAtItsLength : AnyEnd → Type 0
EndsAtItsLength (end.Whole r) = IsConfig r.config
EndsAtItsLength (end.Long e) = IsOfLongRuns e.config
