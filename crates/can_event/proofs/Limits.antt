-- The limits of a bus are within those of a long run.
use Rattle.std.proofs.Common.{arith}
use Rattle.can_event.specs.declared.bus_config.BusConfig.{BusConfig}
use Rattle.can_event.specs.Events.{IsConfig, IsLongConfig}

pub long-config : (c : BusConfig) → IsConfig c → IsLongConfig c
long-config c proper = record {
  some_ifaces = proper.some_ifaces;
  few_ifaces = proper.few_ifaces;
  some_frames = proper.some_frames;
  few_frames = proper.few_frames;
  some_entries = proper.some_entries;
  few_entries = omega (arith, proper.few_entries);
  few_attempts = proper.few_attempts;
}
