use Rattle.std.proofs.Common.{arith, length, ◌-◌, drop}
use Rattle.std.proofs.lemmas.List.{length-take}
use Rattle.can_record_text.proofs.Parts.{part_more}
use Rattle.can_record_text.proofs.line_writing.write_line.Goals as goal

pub loop-done-preserved : goal.loop-done-preserved
loop-done-preserved g c = record {
  within = omega (arith, c.loop-done.invariant.within, c.in-Ok.ensures.bound, length-take (length c.args.line.now - c.loop-done.done) (drop c.loop-done.done c.args.line.now));
  out = part_more (g.W.Write.contents c.args.writer.now) (g.W.Write.contents c.loop-done.writer) (g.W.Write.contents c.write.new.self) c.args.line.now c.loop-done.done c.in-Ok.taken c.loop-done.invariant.out c.in-Ok.ensures.bytes;
}
