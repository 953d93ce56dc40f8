use Rattle.can_record_text.specs.Spelling.{mask_word}
use Rattle.can_record_text.proofs.Written.{two_words}
use Rattle.can_record_text.proofs.filter_lines.push_filter.Goals as goal

pub returns : goal.returns
returns c = two_words c.args.line.now c.push_mask.new.line c.push_mask-2.new.line (mask_word c.args.filter.id) (mask_word c.args.filter.mask) (rw c.id.ensures at c.push_mask.ensures.text) (rw c.mask.ensures.mask at c.push_mask-2.ensures.text)
