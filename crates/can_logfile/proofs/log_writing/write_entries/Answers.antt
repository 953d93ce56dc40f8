use Rattle.std.proofs.Common.{◌<◌, ◌+◌, ℕ, List, length, sym, ap, subst, ◌∙◌, arith}
use Rattle.std.specs.Prelude.{map, reverse}
use Rattle.std.specs.Io.KnownBytes.{Appends}
use Rattle.std.proofs.lemmas.List.{length-reverse}
use Rattle.can_event.specs.declared.attempt.Tried.{Tried}
use Rattle.can_logfile.specs.Log.{log_line, log_lines, joined, TornAfter}
use Rattle.can_logfile.proofs.Fronts.{seen_in, torn, count-more, line-more, same-tape}
use Rattle.can_logfile.proofs.log_writing.write_entries.Goals.{in-Some+in-Ok, in_default}
use Rattle.can_logfile.proofs.log_writing.write_entries.Goals as goal

pub returns-in-Err : goal.returns-in-Err
returns-in-Err g c =
    let past = reverse c.args.entries.now.entries in
    let lt : c.loop-place.place < length past = omega (arith, c.loop-place-test.true, c.len-place-end.ensures, length-reverse c.args.entries.now.entries) in
    let s = seen_in c.loop-place.place c.args.entries.now.entries c.tried_among.result (omega (arith, c.loop-place-test.true, c.len-place-end.ensures)) c.tried_among.ensures in
    subst (TornAfter (g.W.Write.contents c.args.writer.now) (g.W.Write.contents c.write_tried.new.writer) (log_lines c.args.names.now past)) (sym c.in-Err.ensures.torn)
    (torn (g.W.Write.contents c.args.writer.now) (g.W.Write.contents c.loop-place.writer) (g.W.Write.contents c.write_tried.new.writer) c.args.names.now
    c.loop-place.place c.loop-place.whole_lines past s.entry c.in-Some.tried lt s.read (s.tried _ c.in-Some.is) c.loop-place.invariant.count c.loop-place.invariant.out c.in-Err.ensures.line)

pub loop-place-preserved : goal.loop-place-preserved
loop-place-preserved g c =
    let past = reverse c.args.entries.now.entries in
    let lt : c.loop-place.place < length past = omega (arith, c.loop-place-test.true, c.len-place-end.ensures, length-reverse c.args.entries.now.entries) in
    let s = seen_in c.loop-place.place c.args.entries.now.entries c.tried_among.result (omega (arith, c.loop-place-test.true, c.len-place-end.ensures)) c.tried_among.ensures in
    elim c.match-tried_among.branch [
      | in-Some+in-Ok w ↦
          let more = w.whole_lines-is ∙ w.in-Ok.ensures.more in
          record {
            few = omega (arith, more, c.loop-place.invariant.few);
            count = more ∙ ap (λ (n : ℕ). n + 1) c.loop-place.invariant.count ∙ sym (count-more c.loop-place.place past s.entry w.in-Some.tried lt s.read (s.tried _ w.in-Some.is));
            out =
                rw w.writer-is (line-more (g.W.Write.contents c.args.writer.now) (g.W.Write.contents c.loop-place.writer) (g.W.Write.contents w.write_tried.new.writer) c.args.names.now
                c.loop-place.place past s.entry w.in-Some.tried lt s.read (s.tried _ w.in-Some.is) c.loop-place.invariant.out w.in-Ok.ensures.line);
          }
      | in_default w ↦
          let same = same-tape c.loop-place.place past s.entry lt s.read (s.never w.in_default.not-Some) in
          record {
            few = omega (arith, w.whole_lines-is, c.loop-place.invariant.few);
            count = w.whole_lines-is ∙ c.loop-place.invariant.count ∙ ap length (sym same);
            out = rw w.writer-is (subst (λ (ts : List Tried). Appends (g.W.Write.contents c.args.writer.now) (g.W.Write.contents c.loop-place.writer) (joined (map (log_line c.args.names.now) ts))) (sym same) c.loop-place.invariant.out);
          }
    ]
