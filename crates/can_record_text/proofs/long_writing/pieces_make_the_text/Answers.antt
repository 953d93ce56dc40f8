use Rattle.std.proofs.Common.{[], ◌++◌, ◌∙◌, ap, sym, length}
use Rattle.can_record_text.specs.declared.version.Version.{Version}
use Rattle.can_record_text.specs.declared.version.Version.TheVariants as version
use Rattle.can_record_text.specs.LongRuns.{entries_in, lines_of_blocks}
use Rattle.can_record_text.specs.Spelling.{end_words, front_lines, all_needs, spell, text_in}
use Rattle.can_record_text.proofs.LineLists.{blocks-rest}
use Rattle.can_record_text.proofs.Versioning.{of_long}
use Rattle.can_record_text.proofs.Whole.{front-then}
use Rattle.can_record_text.proofs.long_writing.pieces_make_the_text.Goals as goal

pub returns : goal.returns
returns c = λ config blocks long.
    let es = entries_in blocks in
    let end = spell (end_words (length es)) [] in
    front-then version.Four config [] (lines_of_blocks blocks ++ end)
    ∙ ap (front_lines version.Four config) (blocks-rest blocks end)
    ∙ ap (λ (v : Version). text_in v config es) (sym (of_long config (all_needs es) long))
