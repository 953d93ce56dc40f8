use base.Fml.{Fml}
use denote.Ref.{MutBor}
use denote.Follow.{follows}
use Rattle.canbusd_c.specs.Locals.{Local}
use Rattle.canbusd_c.specs.Benching.{KeptBench}
use Rattle.canbusd_c.specs.declared.handle.Handle.{Handle}
use Rattle.canbusd_c.specs.contracts.handle.Handle.{the_row as handle_row}
use Rattle.canbusd_c.specs.contracts.local_bus.LocalBus.{the_row as bus_row}
use Rattle.canbusd_c.specs.declared.bench_handle.BenchHandle.{BenchHandle}
use Rattle.canbusd_c.specs.contracts.bench_handle.BenchHandle.{the_row as bench_handle_row}
use Rattle.canbusd_c.specs.contracts.local_bench.LocalBench.{the_row as bench_row}

-- A handle and its bus.

-- the handle with this bus
abbrev pub with_value : Handle → Local → Handle
with_value h b = record { at = h.at; value = b }

-- when the borrow r ends, the handle of the borrow h has the bus that was last written through r
abbrev pub handle_follows : MutBor Handle → MutBor Local → Fml
handle_follows h r = follows handle_row bus_row h.ghost_name r.ghost_name (with_value h.now)

-- the handle with this bench
abbrev pub with_bench : BenchHandle → KeptBench → BenchHandle
with_bench h b = record { at = h.at; value = b }

abbrev pub bench_handle_follows : MutBor BenchHandle → MutBor KeptBench → Fml
bench_handle_follows h r = follows bench_handle_row bench_row h.ghost_name r.ghost_name (with_bench h.now)
