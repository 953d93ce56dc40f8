use Rattle.std.proofs.Common.{◌≡◌, ◌+◌, length}
use Rattle.std.specs.Vec.Iter.{into_iter_items, into_iter_len}
use Rattle.can_hub.specs.Settling.{AreNewScrolls}
use Rattle.canbusd_serve.specs.LongRuns.{AreBegun}
use Rattle.canbusd_serve.proofs.serve_job.keepers_of.Given as goal

abbrev pub invariant-loop-scroll : goal.invariant-loop-scroll
invariant-loop-scroll g l = record {
  begun : AreBegun g.F.Write.contents (into_iter_items l.files);
  new : AreNewScrolls (length l.kept.items) (into_iter_items l.scroll-iterator);
  files : into_iter_len l.files ≡ length (into_iter_items l.files);
  scrolls : into_iter_len l.scroll-iterator ≡ length (into_iter_items l.scroll-iterator);
  same : into_iter_len l.scroll-iterator ≡ into_iter_len l.files;
  each : length l.kept.items + into_iter_len l.scroll-iterator ≡ length l.fn.scrolls.items;
}
