use Rattle.std.specs.Prelude.{◌≡◌, List, ℕ}
use Rattle.can_event.specs.declared.bus_config.BusConfig.{BusConfig}
use Rattle.can_record_text.specs.declared.version.Version.{Version}
use Rattle.can_record_text.specs.Spelling.{front_lines}
use Rattle.can_record_text.specs.Values.{HasBusLine}

-- The text begins with the first two lines for this bus and this version, and goes on with the rest.
pub record HasFront (text : List ℕ) (v : Version) (c : BusConfig) (rest : List ℕ) : Type 0 where
  pub good : HasBusLine v c
  pub begins : text ≡ front_lines v c rest
