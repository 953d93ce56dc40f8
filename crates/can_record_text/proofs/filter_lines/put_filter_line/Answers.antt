use Rattle.std.proofs.Common.{◌++◌, ◌∙◌, ap, List, ℕ}
use Rattle.can_record_text.proofs.Written.{filter_line}
use Rattle.can_record_text.proofs.filter_lines.put_filter_line.Goals as goal

pub returns : goal.returns
returns c = filter_line c.args.event.now c.args.reply.now c.push_event-filters.result.now c.push_event-filters.new.line
    c.args.out.now.items c.extend_from_slice.new.self.items c.put_filters.new.out.items c.push_reply.new.line c.extend_from_slice-2.new.self.items
    c.push_event-filters.ensures.text
    (c.in_ok-extend_from_slice.ensures.items ∙ ap (λ (x : List ℕ). c.args.out.now.items ++ x) c.as_bytes.ensures)
    c.in_ok-put_filters.ensures
    (rw c.new-end.ensures at c.push_reply.ensures)
    (c.in_ok-extend_from_slice-2.ensures.items ∙ ap (λ (x : List ℕ). c.put_filters.new.out.items ++ x) c.as_bytes-2.ensures)
