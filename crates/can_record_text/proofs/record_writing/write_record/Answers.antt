use Rattle.std.proofs.Common.{◌≡◌, ◌++◌, ◌∙◌, [], refl, ap, reverse, subst}
use Rattle.std.specs.Io.KnownBytes.{Appends}
use Rattle.can_record_text.specs.Spelling.{spell, end_words, entry_lines, version_for}
use Rattle.can_record_text.proofs.Again.{kept}
use Rattle.std.proofs.KnownBytes.{Appends-trans}
use Rattle.can_record_text.proofs.Whole.{text_written}
use Rattle.can_record_text.proofs.record_writing.write_record.Goals as goal

pub returns : goal.returns
returns g c =
    let w0 = g.W.Write.contents c.args.writer.now in
    let w1 = g.W.Write.contents c.write_all.new.self in
    let w2 = g.W.Write.contents c.write_lines.new.writer in
    let w3 = g.W.Write.contents c.write_all-2.new.self in
    let front = c.deref.result.now in
    let lines = entry_lines (reverse c.args.record.now.history) [] in
    let last = c.deref-2.result.now in
    let end : last ≡ spell (end_words c.len.result) [] = c.deref-2.ensures.value ∙ kept c.clear.new.self.items c.put_end.new.out.items (spell (end_words c.len.result) []) c.clear.ensures.items c.in_ok-put_end.ensures in
    subst (Appends w0 w3)
    (text_written c.new-rooms.result.long.items front (front ++ lines) ((front ++ lines) ++ last) c.of-version.result c.config-config.result c.args.record.now.config (reverse c.args.record.now.history) c.args.record.now.history c.len.result c.new-rooms.ensures
    (c.deref.ensures.value ∙ c.in_ok-put_front.ensures) refl (ap (λ x. (front ++ lines) ++ x) end) (c.of-version.ensures ∙ ap (version_for c.config-config.result) c.of_record.ensures) c.config-config.ensures.config refl c.len.ensures)
    (Appends-trans w0 w2 w3 (front ++ lines) last (Appends-trans w0 w1 w2 front lines c.in_ok-write_all.ensures.bytes c.in_ok-write_lines.ensures) c.in_ok-write_all-2.ensures.bytes)
