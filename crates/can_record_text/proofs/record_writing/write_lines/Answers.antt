use Rattle.std.proofs.Common.{reverse, subst, sym, ap, ◌∙◌}
use Rattle.std.specs.Io.KnownBytes.{Appends}
use Rattle.std.specs.Option.{option_map}
use Rattle.std.proofs.lemmas.Option.{slice_get_within, get_or_from_slice_get}
use Rattle.can_record.specs.StoredEntry.{entry_stored}
use Rattle.can_record_text.proofs.Growing.{no_lines_yet, line_more}
use Rattle.can_record_text.proofs.record_writing.write_lines.Goals as goal

pub loop-place-init : goal.loop-place-init
loop-place-init g c = no_lines_yet (g.W.Write.contents c.args.writer.now)

pub loop-place-preserved : goal.loop-place-preserved
loop-place-preserved g c =
    let es = reverse c.args.record.now.history in
    let e = entry_stored c.unwrap-stored.result in
    let there = sym c.stored.ensures.entry ∙ ap (option_map entry_stored) c.unwrap-stored.ensures in
    let written = subst (Appends (g.W.Write.contents c.loop-place.writer) (g.W.Write.contents c.write_all.new.self)) c.in_ok-spell_stored.ensures c.in_ok-write_all.ensures.bytes in
    line_more (g.W.Write.contents c.args.writer.now) (g.W.Write.contents c.loop-place.writer) (g.W.Write.contents c.write_all.new.self) es c.loop-place.place e
    c.loop-place.invariant written (slice_get_within es c.loop-place.place e there) (sym (get_or_from_slice_get es c.loop-place.place e e there))
