use Rattle.std.specs.Prelude.{◌≡◌, ◌≤◌, ℕ, suc, List, [], ◌∷◌, length, map, All}
use Rattle.atomic_table.specs.Seated.{TableId}
use Rattle.can_frame.specs.Names.{AreNames}
use Rattle.can_event.specs.Events.{IsConfig, max_rx_capacity}
use Rattle.can_event.specs.declared.bus_config.BusConfig.{BusConfig}
use Rattle.can_roll.specs.Rule.{RollId}
use Rattle.can_hub.specs.Buses.{BusSeen, AllApart}
use Rattle.can_hub.specs.HubBuses.{IsOfLongRuns}
use Rattle.can_hub.specs.declared.bench.Bench.{Bench}

-- The benches: the parts from which the buses of a hub are made.

module _ {F G : Type 0} where
  -- A bus can be made from this bench. The configuration is within the limits `Limits`, the blanks and the names match
  -- its number of interfaces, the names are valid, and a socket holds 1 to 65,536 items.
  pub record IsWithin (Limits : BusConfig → Type 0) (b : Bench F G) : Type 0 where
    pub config : Limits b.config
    pub words : b.blanks.meter.words ≡ b.config.ifaces
    pub names : length b.names ≡ b.config.ifaces
    pub good : AreNames b.names
    pub some_items : 1 ≤ b.rx_capacity
    pub few_items : b.rx_capacity ≤ max_rx_capacity

  -- A bus that keeps its whole record can be made from this bench.
  abbrev pub IsProper : Bench F G → Type 0
  IsProper b = IsWithin IsConfig b

  -- The names of each bench's interfaces.
  abbrev pub bench_names : List (Bench F G) → List (List (List ℕ))
  bench_names benches = map (λ b. b.names) benches

  -- A hub can be made from these benches. There are 1 to 16 of them, a bus can be made from each, and no two of them
  -- share an interface name.
  pub record MakeHubWithin (Limits : BusConfig → Type 0) (benches : List (Bench F G)) : Type 0 where
    pub some : 1 ≤ length benches
    pub few : length benches ≤ 16
    pub proper : All (λ b. IsWithin Limits b) benches
    pub apart : AllApart (bench_names benches)

  -- A hub whose buses keep their whole records can be made from these benches.
  abbrev pub MakeHub : List (Bench F G) → Type 0
  MakeHub benches = MakeHubWithin IsConfig benches

  -- A hub whose buses are for long runs can be made from these benches.
  abbrev pub MakeLongHub : List (Bench F G) → Type 0
  MakeLongHub benches = MakeHubWithin IsOfLongRuns benches

  -- The blanks of each bench have the names that `roll` and `meter` return for the bench's bus number. The first bench
  -- has bus number n.
  abbrev pub NamedFrom : (ℕ → RollId) → (ℕ → TableId) → ℕ → List (Bench F G) → Type 0
  NamedFrom roll meter n [] = Unit {0}
  NamedFrom roll meter n (b ∷ more) =
      (b.blanks.roll ≡ roll n) × (b.blanks.meter ≡ meter n) × NamedFrom roll meter (suc n) more

  -- The bus made from this bench, with number n.
  abbrev pub bus_of : ℕ → Bench F G → BusSeen
  bus_of n b = record {
    number = n;
    config = b.config;
    names = b.names;
    timing = b.timing;
    pace_ms = b.pace_ms;
    rx_capacity = b.rx_capacity;
  }

  -- The buses made from these benches. The first bus has number n.
  abbrev pub buses_from : ℕ → List (Bench F G) → List BusSeen
  buses_from n [] = []
  buses_from n (b ∷ more) = bus_of n b ∷ buses_from (suc n) more
