use Rattle.std.specs.Prelude.{◌≡◌, ◌<◌, ◌≤◌, ◌⊎◌, ℕ, ◌^◌, ◌==◌, if◌then◌else◌, MatchBool, List, length}
use Rattle.std.specs.Prelude.{Option, Some, None, IsUtf8}
use Rattle.can_frame.specs.Names.{names_in, AreNames}
use Rattle.can_attempt.specs.declared.ack_mode.AckMode.{AckMode}
use Rattle.can_attempt.specs.declared.ack_mode.AckMode.TheVariants as ack
use Rattle.can_event.specs.Events.{IsConfig}
use Rattle.can_event.specs.declared.bus_config.BusConfig.{BusConfig}
use Rattle.can_wire.specs.Timings.{BusTiming, timing_of}
use Rattle.can_wire.specs.Times.{AreBitRates}
use Rattle.canbusd_c.specs.Locals.{Local, local_at_start}
use Rattle.canbusd_c.specs.declared.shapes.CConfig.{CConfig}

-- The parts from which a bus is created.

-- the acknowledge mode with this number: frames are always acknowledged, or only by receivers
abbrev pub ack_of_number : ℕ → Option AckMode
ack_of_number n = if n == 0 then Some ack.Always else if n == 1 then Some ack.Peers else None

-- the bit rates that two numbers define; 0 means no bit rate
abbrev pub timing_of_numbers : ℕ → ℕ → Option BusTiming
timing_of_numbers nominal fast =
    if nominal == 0 then None else Some (timing_of nominal (if fast == 0 then None else Some fast))

-- a bus may have these bit rates; without a nominal bit rate there is no data bit rate
abbrev pub AreRatesIn : Option BusTiming → ℕ → Type 0
AreRatesIn None fast = fast ≡ 0
AreRatesIn (Some timing) fast = AreBitRates timing.rates

-- a bus may have the bit rates of this struct
abbrev pub HasRates : CConfig → Type 0
HasRates c = AreRatesIn (timing_of_numbers c.bitrate c.data_bitrate) c.data_bitrate

-- the struct defines this configuration for a bus with n interfaces
pub record IsConfigIn (n : ℕ) (c : CConfig) (config : BusConfig) : Type 0 where
  pub ack : ack_of_number c.ack ≡ Some config.ack
  pub few_reporting : c.reporting < 2 ^ 16
  pub others : config ≡ record {
    ifaces = n;
    ack = config.ack;
    reporting = record { 0 = c.reporting };
    tx_capacity = c.tx_capacity;
    limit = c.limit;
    auto_restart = c.auto_restart;
  }

-- the bus is created from a string of names and a configuration struct; it has no events yet
pub record IsMadeOf (text : List ℕ) (c : CConfig) (b : Local) : Type 0 where
  pub config : BusConfig
  pub config_is : IsConfigIn (length (names_in text)) c config
  pub proper : IsConfig config
  pub named : AreNames (names_in text)
  pub rates : HasRates c
  pub made : b ≡ local_at_start (names_in text) config (timing_of_numbers c.bitrate c.data_bitrate)

-- the reason why a string has no valid names for a bus: it is not UTF-8, a bus may not have these names, or memory was
-- refused
abbrev pub IsNoNames : List ℕ → ℕ → Type 0
IsNoNames text code = (code ≡ 10) ⊎ ((code ≡ 20) × (IsUtf8 text → AreNames (names_in text) → ⊥))

-- a bus may not have the bit rates of this struct
abbrev pub IsNoTiming : CConfig → ℕ → Type 0
IsNoTiming c code = (code ≡ 22) × (HasRates c → ⊥)

-- the struct defines no configuration: the acknowledge mode is unknown, or an interface that cannot exist reports
-- faults
abbrev pub IsNoConfig : CConfig → ℕ → Type 0
IsNoConfig c code = (code ≡ 21) × ((ack_of_number c.ack ≡ None) ⊎ (2 ^ 16 ≤ c.reporting))

-- the reason why no bus can be created from a string of names and a struct
abbrev pub IsNoBus : List ℕ → CConfig → ℕ → Type 0
IsNoBus text c code =
    IsNoNames text code
    ⊎ IsNoTiming c code
    ⊎ IsNoConfig c code
    ⊎ ((code ≡ 21) × (config : BusConfig) × IsConfigIn (length (names_in text)) c config × (IsConfig config → ⊥))

-- a bus is created from a string of names and a struct, or the code gives the reason why not
abbrev pub IsNewCall : List ℕ → CConfig → ℕ → Type 0
IsNewCall text c code = MatchBool (code == 0) ((b : Local) × IsMadeOf text c b) (IsNoBus text c code)
