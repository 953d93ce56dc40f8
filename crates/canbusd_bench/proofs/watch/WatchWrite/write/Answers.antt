use Rattle.std.proofs.Common.{sym, subst, ap, take}
use Rattle.std.specs.Io.KnownBytes.{Appends}
use Rattle.canbusd_bench.proofs.Watching.{looked}
use Rattle.canbusd_bench.proofs.watch.WatchWrite.write.Goals as goal

pub returns-clause-bytes : goal.returns-clause-bytes
returns-clause-bytes g c =
    let contents = g.W.Write.contents in
    let e = c.look.ensures in
    looked _ _ _ _ _ _ _ _ _ _ _ (ap (λ w. w.ghost_name) e.writer) e.on e.written e.seen
    (subst (λ w. Appends (contents c.args.self.now.writer.now) (contents w.now) (take c.in_ok-count.count c.args.piece.now)) (sym e.writer) c.in_ok-count.ensures.bytes)
