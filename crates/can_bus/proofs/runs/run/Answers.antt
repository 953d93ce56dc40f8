use Rattle.std.proofs.Common.{length, List, ap, sym, subst, arith}
use Rattle.can_bus.proofs.Running.{ran_more, ran_none, counted_more, RanSoFar}
use Rattle.can_event.specs.declared.reply.Reply.{Reply}
use Rattle.can_bus.proofs.runs.run.Goals as goal

pub loop-event-preserved : goal.loop-event-preserved
loop-event-preserved g c =
    let so_far = c.loop-event.invariant in
    record {
      count = counted_more c.loop-event.replies.items c.note.new.replies.items c.answer-reply.result c.loop-event.event-index c.note.ensures.items so_far.count;
      room = omega (arith, so_far.room, c.note.ensures.room);
      ran = ran_more c.args.bus.now c.loop-event.bus c.answer-reply.new.self c.args.events.now c.loop-event.event-index c.loop-event.replies.items c.note.new.replies.items c.event-item.result c.answer-reply.result so_far.ran c.loop-event-test.true c.event-item.is c.answer-reply.ensures.answer c.answer-reply.ensures.after c.note.ensures.items;
    }

pub loop-event-init : goal.loop-event-init
loop-event-init g c = record {
  count = ap length c.in-Ok.ensures.items;
  room = c.in-Ok.ensures.capacity;
  ran = subst (λ (rs : List Reply). RanSoFar c.args.bus.now c.args.events.now 0 rs c.args.bus.now) (sym c.in-Ok.ensures.items) (ran_none c.args.bus.now c.args.events.now);
}
