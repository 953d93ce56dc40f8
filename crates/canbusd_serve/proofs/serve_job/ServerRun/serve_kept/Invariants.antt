use Rattle.std.proofs.Common.{◌≡◌, ◌+◌, ◌≤◌, length, vec_capacity}
use Rattle.std.specs.Vec.Iter.{into_iter_items, into_iter_len}
use Rattle.std.specs.declared.fs.File.{File}
use Rattle.std.specs.declared.io.traits.Write.{contents-default}
use Rattle.canbusd_serve.specs.LongRuns.{AllGiven}
use Rattle.canbusd_serve.proofs.serve_job.ServerRun.serve_kept.Given as goal

abbrev pub invariant-loop-kept : goal.invariant-loop-kept
invariant-loop-kept g l = record {
  given : AllGiven (contents-default File) l.run.files.items l.run.scrolls.items;
  passes : length l.run.passes.items ≡ length l.fn.scrolls.items;
  counted : into_iter_len l.kept-iterator ≡ length (into_iter_items l.kept-iterator);
  each : length l.run.scrolls.items + into_iter_len l.kept-iterator ≡ length l.fn.scrolls.items;
  same : length l.run.files.items ≡ length l.run.scrolls.items;
  files : length l.run.files.items + into_iter_len l.kept-iterator ≤ vec_capacity l.run.files;
  scrolls : length l.run.scrolls.items + into_iter_len l.kept-iterator ≤ vec_capacity l.run.scrolls;
}
