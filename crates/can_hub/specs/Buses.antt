use Rattle.std.specs.Prelude.{◌≡◌, ◌<◌, ℕ, suc, List, [], ◌∷◌, length, map, Contains, slice_get}
use Rattle.std.specs.Prelude.{slice_index_or, flat_map, Option, Some, None, option_map}
use Rattle.can_event.specs.declared.bus_config.BusConfig.{BusConfig}
use Rattle.can_frame.specs.Names.{place_of}
use Rattle.can_station.specs.Held.{StationSeen}
use Rattle.can_wire.specs.Times.{BitRates, rates_of}
use Rattle.can_wire.specs.Timings.{BusTiming}

-- The buses of a hub and the names of their interfaces.

-- A bus: its number, its configuration, the names of its interfaces, its bit rates (if known), the pause of its driver
-- after each step in milliseconds, and the number of items that a socket holds.
pub record BusSeen : Type 0 where
  pub number : ℕ
  pub config : BusConfig
  pub names : List (List ℕ)
  pub timing : Option BusTiming
  pub pace_ms : ℕ
  pub rx_capacity : ℕ

-- The number of items that a socket holds on a bus, or 0 if the bus does not exist.
abbrev pub items_on : Option BusSeen → ℕ
items_on None = 0
items_on (Some bus) = bus.rx_capacity

-- The names of a bus's interfaces, if the bus exists.
abbrev pub names_on : Option BusSeen → Option (List (List ℕ))
names_on bus = option_map (λ b. b.names) bus

-- The bit rates of a bus, or 0 for both if the bus has no bit rates.
abbrev pub bit_rates : Option BusTiming → BitRates
bit_rates None = rates_of 0 0
bit_rates (Some t) = t.rates

-- The bit rates of a bus, or 0 for both if the bus does not exist or has no bit rates.
abbrev pub rates_on : Option BusSeen → BitRates
rates_on None = rates_of 0 0
rates_on (Some bus) = bit_rates bus.timing

-- The configuration of a bus, if the bus exists.
abbrev pub config_on : Option BusSeen → Option BusConfig
config_on bus = option_map (λ b. b.config) bus

-- The bus with the station's number exists and has the station's configuration.
abbrev pub IsStationOn : List BusSeen → StationSeen → Type 0
IsStationOn buses station = config_on (slice_get buses station.number) ≡ Some station.config

-- The buses are numbered in order, and the first has number n.
abbrev pub NumberedFrom : ℕ → List BusSeen → Type 0
NumberedFrom n [] = Unit {0}
NumberedFrom n (bus ∷ more) = (bus.number ≡ n) × NumberedFrom (suc n) more

-- The two lists have no name in common.
abbrev pub ShareNoName : List (List ℕ) → List (List ℕ) → Type 0
ShareNoName names others = (k : ℕ) → k < length names → ¬ Contains others (slice_index_or names k [])

-- The first list has no name in common with any of the other lists.
abbrev pub ApartFrom : List (List ℕ) → List (List (List ℕ)) → Type 0
ApartFrom names [] = Unit {0}
ApartFrom names (others ∷ more) = ShareNoName names others × ApartFrom names more

-- No two lists have a name in common.
abbrev pub AllApart : List (List (List ℕ)) → Type 0
AllApart [] = Unit {0}
AllApart (names ∷ more) = ApartFrom names more × AllApart more

-- The names of each bus's interfaces.
abbrev pub names_of : List BusSeen → List (List (List ℕ))
names_of buses = map (λ b. b.names) buses

-- The names of the interfaces of all buses, in order.
abbrev pub all_names : List BusSeen → List (List ℕ)
all_names buses = flat_map (λ b. b.names) buses

-- None of the first n buses has an interface with this name.
abbrev pub NoneNamed : ℕ → List BusSeen → List ℕ → Type 0
NoneNamed n buses name = (k : ℕ) (d : BusSeen) → k < n → place_of (slice_index_or buses k d).names name ≡ None

-- The first bus that has an interface with this name and the index of that interface, or `None` if no bus has one.
abbrev pub IsFirstNamed : List BusSeen → List ℕ → Option (ℕ × ℕ) → Type 0
IsFirstNamed buses name None = NoneNamed (length buses) buses name
IsFirstNamed buses name (Some at) =
    (at.0 < length buses)
    × ((d : BusSeen) → place_of (slice_index_or buses at.0 d).names name ≡ Some at.1)
    × NoneNamed at.0 buses name
