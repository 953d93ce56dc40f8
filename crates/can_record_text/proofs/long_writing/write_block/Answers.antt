use Rattle.std.proofs.Common.{sym, ap, ◌∙◌}
use Rattle.std.specs.Option.{option_map}
use Rattle.std.proofs.lemmas.Option.{slice_get_within, get_or_from_slice_get}
use Rattle.can_record.specs.StoredEntry.{entry_stored}
use Rattle.can_record_text.proofs.Growing.{no_lines_yet, line_more, torn}
use Rattle.can_record_text.proofs.long_writing.write_block.Goals as goal

pub loop-place-init : goal.loop-place-init
loop-place-init g c = no_lines_yet (g.W.Write.contents c.args.writer.now)

pub returns-in-Err : goal.returns-in-Err
returns-in-Err g c =
    let e = entry_stored c.unwrap-stored.result in
    torn (g.W.Write.contents c.args.writer.now) (g.W.Write.contents c.loop-place.writer) (g.W.Write.contents c.write_stored.new.writer) c.args.block.now.entries c.loop-place.place e
    c.loop-place.invariant c.in-Err.ensures (sym c.stored.ensures.entry ∙ ap (option_map entry_stored) c.unwrap-stored.ensures)

pub loop-place-preserved : goal.loop-place-preserved
loop-place-preserved g c =
    let es = c.args.block.now.entries in
    let e = entry_stored c.unwrap-stored.result in
    let there = sym c.stored.ensures.entry ∙ ap (option_map entry_stored) c.unwrap-stored.ensures in
    line_more (g.W.Write.contents c.args.writer.now) (g.W.Write.contents c.loop-place.writer) (g.W.Write.contents c.write_stored.new.writer) es c.loop-place.place e
    c.loop-place.invariant c.in-Ok.ensures (slice_get_within es c.loop-place.place e there) (sym (get_or_from_slice_get es c.loop-place.place e e there))
