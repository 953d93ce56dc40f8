use Rattle.std.specs.Prelude.{ℕ, List}
use Rattle.can_meter.specs.declared.status.Status.{Status}
use Rattle.can_meter.specs.Publications.{with_list, with_newest}

-- A keeper or a gauge, as the contracts describe it. Here each of them is called a side.

-- the number of the side's meter, the number of interfaces, and the publications of each interface that the side knows
pub record Readings : Type 0 where
  pub number : ℕ
  pub ifaces : ℕ
  pub lists : List (List Status)

-- the side with this number, these interfaces and these lists
abbrev pub readings : ℕ → ℕ → List (List Status) → Readings
readings number ifaces lists = record { number = number; ifaces = ifaces; lists = lists }

-- the side after it learned these lists
abbrev pub knowing : Readings → List (List Status) → Readings
knowing side lists = readings side.number side.ifaces lists

-- the side after ps became its list of interface i
abbrev pub knowing_of : Readings → ℕ → List Status → Readings
knowing_of side i ps = knowing side (with_list side.lists i ps)

-- the side after interface i published p
abbrev pub after_publishing : Readings → ℕ → Status → Readings
after_publishing side i p = knowing side (with_newest side.lists i p)
