use Rattle.std.proofs.Common.{◌∙◌, arith}
use Rattle.can_record_text.proofs.FilterLists.{filters_more, filters_fail, filters_done}
use Rattle.can_record_text.proofs.event_reading.filter_fields.Goals as goal

pub returns-in-Err-clause-read : goal.returns-in-Err-clause-read
returns-in-Err-clause-read c = filters_fail c.in-Err.why c.args.filters.now.items c.loop-left.filters.items c.filter_field.new.filters.items c.args.count c.loop-left.left c.args.text.now c.loop-left.rest.now c.loop-left.invariant.read c.loop-left-test.true c.in-Err.ensures.read

pub loop-left-preserved : goal.loop-left-preserved
loop-left-preserved c = record {
  read = c.loop-left.invariant.read ∙ filters_more c.loop-left.filters.items c.loop-left.left c.loop-left.rest.now c.filter_field.new.filters.items c.in-Ok.more.now c.loop-left-test.true c.in-Ok.ensures.read;
  count = omega (arith, c.loop-left.invariant.count, c.loop-left-test.true, c.in-Ok.ensures.count);
}

pub returns-clause-read : goal.returns-clause-read
returns-clause-read c = c.loop-left.invariant.read ∙ filters_done c.loop-left.filters.items c.loop-left.left c.loop-left.rest.now c.loop-left-test.false
