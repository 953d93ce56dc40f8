use Rattle.std.specs.Prelude.{◌≡◌, List, ◌∷◌, reverse, Vec, Result, IfOk}
use Rattle.can_event.specs.declared.bus_config.BusConfig.{BusConfig}
use Rattle.can_event.specs.declared.entry.Entry.{Entry}
use Rattle.can_record.specs.Journal.{Kept}
use Rattle.can_replay.specs.Histories.{IsHistory}

-- The results of the reference functions. can_bus defines them on histories, which begin with the newest entry. The
-- reference computes them from a list of entries, which begins with the oldest (own choice).

-- the call returned this value, or memory was refused
abbrev pub Yields : {A E : Type 0} → Result A E → A → Type 0
Yields result value = IfOk result (λ r. r ≡ value)

-- the call returned these values, or memory was refused
abbrev pub ReturnsList : {A G E : Type 0} → Result (Vec A G) E → List A → Type 0
ReturnsList result values = IfOk result (λ rs. rs.items ≡ values)

-- the statement holds for the history of these entries, if a bus can have this history
abbrev pub OnHistory : BusConfig → List Entry → (List Entry → Type 0) → Type 0
OnHistory c entries P = IsHistory c (reverse entries) → P (reverse entries)

-- the statement holds for the history of these entries, if a bus can have this history and then this entry
abbrev pub BeforeEntry : BusConfig → List Entry → Entry → (List Entry → Type 0) → Type 0
BeforeEntry c entries e P = IsHistory c (e ∷ reverse entries) → P (reverse entries)

-- the statement holds for the configuration and the history of this record, if a bus can have them
abbrev pub OnRecord : Kept → (BusConfig → List Entry → Type 0) → Type 0
OnRecord r P = IsHistory r.config r.history → P r.config r.history
