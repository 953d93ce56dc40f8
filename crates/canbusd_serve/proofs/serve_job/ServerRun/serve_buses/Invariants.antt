use Rattle.can_hub.proofs.Naming.{roll_at, meter_at}
use Rattle.canbusd_serve.proofs.serve_job.ServerRun.serve_buses.Given as goal

abbrev pub ghosts-run_whole-N-RollName : goal.ghosts-run_whole-N-RollName
ghosts-run_whole-N-RollName g a = record { roll = roll_at a.benches.items }

abbrev pub ghosts-run_whole-N-MeterName : goal.ghosts-run_whole-N-MeterName
ghosts-run_whole-N-MeterName g a = record { meter = meter_at a.benches.items }

abbrev pub ghosts-run_live-N-RollName : goal.ghosts-run_live-N-RollName
ghosts-run_live-N-RollName g a = record { roll = roll_at a.benches.items }

abbrev pub ghosts-run_live-N-MeterName : goal.ghosts-run_live-N-MeterName
ghosts-run_live-N-MeterName g a = record { meter = meter_at a.benches.items }
