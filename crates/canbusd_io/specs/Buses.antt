use Rattle.std.specs.Prelude.{◌≡◌, ℕ, ◌-◌, ◌^◌, List, Option, Some, None, Ok, if◌then◌else◌}
use Rattle.can_frame.specs.declared.iface.IfaceSet.{IfaceSet}
use Rattle.can_frame.specs.Names.{AreNames, names_in}
use Rattle.can_frame.specs.Sets.{no_ifaces}
use Rattle.can_rules.specs.Plans.{PlanSeen, ReadsPlan, no_plan}
use Rattle.can_rules.specs.RunFaults.{ReadsRunFaults, RunSeen}
use Rattle.can_event.specs.declared.bus_config.BusConfig.{BusConfig}
use Rattle.canbusd_options.specs.declared.bus_options.BusSettings.{BusSettings}
use Rattle.canbusd_options.specs.declared.bus_word.FaultsWord.{FaultsWord}

-- A bus as its description on the command line defines it (own choice).

-- the set of the interfaces below n
abbrev pub first_ifaces : ℕ → IfaceSet
first_ifaces n = record { 0 = 2 ^ n - 1 }

-- the configuration that the settings define for a bus with n interfaces; all interfaces report faults, or none does
abbrev pub config_of : BusSettings → ℕ → BusConfig
config_of s n = record {
  ifaces = n;
  ack = s.ack;
  reporting = if s.is_reporting then first_ifaces n else no_ifaces;
  tx_capacity = s.tx_capacity;
  limit = s.limit;
  auto_restart = s.auto_restart;
}

-- the faults of a run: if a script is named, the faults that some text spells; otherwise there are none
abbrev pub IsPlan : {A : Type 0} → Option A → List (List ℕ) → PlanSeen → Type 0
IsPlan None names plan = plan ≡ no_plan
IsPlan (Some path) names plan = (text : List ℕ) × ReadsPlan names text (Ok plan)

-- the faults that a bus had in a run: some text spells them for the names in the argument, and a bus may have these
-- names
abbrev pub HadFaults : FaultsWord → RunSeen → Type 0
HadFaults word faults =
    AreNames (names_in word.names.now) × (text : List ℕ) × ReadsRunFaults (names_in word.names.now) text (Ok faults)
