use Rattle.std.proofs.Common.{◌≡◌, take}
use Rattle.canbusd_bench.specs.inner.Watched.{seen_in}
use Rattle.canbusd_bench.proofs.watch.seen_in.Given as goal

abbrev pub invariant-loop-byte : goal.invariant-loop-byte
invariant-loop-byte l = l.last ≡ seen_in l.seen (take l.byte-index l.piece)
