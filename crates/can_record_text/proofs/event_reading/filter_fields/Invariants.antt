use Rattle.std.proofs.Common.{◌≡◌, ◌+◌, length}
use Rattle.can_record_text.specs.inner.Reading.{filters_at}
use Rattle.can_record_text.proofs.event_reading.filter_fields.Given as goal

abbrev pub invariant-loop-left : goal.invariant-loop-left
invariant-loop-left l = record {
  read : filters_at l.initial.filters.items l.count l.text ≡ filters_at l.filters.items l.left l.rest;
  count : length l.filters.items + l.left ≡ length l.initial.filters.items + l.count;
}

abbrev pub decreases-loop-left : goal.decreases-loop-left
decreases-loop-left l = l.left
