use Rattle.std.proofs.Common.{ap, length, Err, arith}
use Rattle.can_record_text.proofs.event_reading.guess_filters.Goals as goal

pub returns-in-Err-TooManyFilters : goal.returns-in-Err-TooManyFilters
returns-in-Err-TooManyFilters c =
    let many = c.in-Err-TooManyFilters.ensures.too_many.0 (ap Err c.in-Err-TooManyFilters.field-0-is) in
    absurd (omega (arith, many, ap length c.deref.ensures.value, ap length c.new-filters.ensures.items, c.in-Ok.ensures.count, c.in-Some-count_field.ensures.few))
