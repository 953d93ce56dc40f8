use Rattle.std.proofs.Common.{◌≡◌, length, ap, ◌∙◌, arith}
use Rattle.can_record.specs.Journal.{Journal}
use Rattle.can_roll.specs.Seen.{RollSeen}
use Rattle.can_station.proofs.Marking.{booked_after}
use Rattle.can_station.proofs.PublishedFacts.{later, kept_before, published_after_call, published_still, short}
use Rattle.can_station.proofs.station_state.answer_and_book.Goals as goal

pub overflow_cast-at : goal.overflow_cast-at
overflow_cast-at g c =
    let j : Journal = g.B.Journaled.journal c.answer-reply.new.self in
    omega (arith, short j.config j.history c.len-at.result c.len-at.ensures.proper c.len-at.ensures.legal c.len-at.ensures.len)

pub publish_changes-requires-clause-later : goal.publish_changes-requires-clause-later
publish_changes-requires-clause-later g c =
    later c.args.keeper.now c.args.roll.now.number (g.B.Journaled.journal c.args.bus.now) c.args.event.now c.answer-reply.result c.len-at.result c.requires.published
    (c.len-at.ensures.len ∙ ap (λ (j : Journal). length j.history) c.answer-reply.ensures.answered.after)

pub returns-in_default-clause-booked : goal.returns-in_default-clause-booked
returns-in_default-clause-booked g c =
    booked_after c.args.roll.now c.book.new.roll (g.B.Journaled.journal c.args.bus.now) (g.B.Journaled.journal c.answer-reply.new.self) c.args.slip.now.pass c.args.event.now c.answer-reply.result
    c.requires.booked c.answer-reply.ensures.answered.answer c.book.ensures.below c.book.ensures.roll c.answer-reply.ensures.answered.after

pub returns-in_default-clause-published : goal.returns-in_default-clause-published
returns-in_default-clause-published g c =
    let number : c.book.new.roll.number ≡ c.args.roll.now.number = ap (λ (r : RollSeen). r.number) c.book.ensures.roll in
    published_still c.args.keeper.now c.args.roll.now.number c.book.new.roll.number (g.B.Journaled.journal c.args.bus.now) (g.B.Journaled.journal c.answer-reply.new.self) c.args.event.now c.answer-reply.result
    c.counters_before-before.result c.counters_before-before.ensures c.in_default.is c.requires.published number c.answer-reply.ensures.answered.after

pub returns-clause-booked : goal.returns-clause-booked
returns-clause-booked g c =
    booked_after c.args.roll.now c.book.new.roll (g.B.Journaled.journal c.args.bus.now) (g.B.Journaled.journal c.answer-reply.new.self) c.args.slip.now.pass c.args.event.now c.answer-reply.result
    c.requires.booked c.answer-reply.ensures.answered.answer c.book.ensures.below c.book.ensures.roll c.answer-reply.ensures.answered.after

pub returns-clause-published : goal.returns-clause-published
returns-clause-published g c =
    let old : Journal = g.B.Journaled.journal c.args.bus.now in
    let number : c.book.new.roll.number ≡ c.args.roll.now.number = ap (λ (r : RollSeen). r.number) c.book.ensures.roll in
    published_after_call c.args.keeper.now c.publish_changes.new.keeper c.args.roll.now.number c.book.new.roll.number old (g.B.Journaled.journal c.answer-reply.new.self) c.args.event.now c.answer-reply.result c.in-Some.before
    c.counters-after.result c.len-at.result c.requires.booked.proper c.requires.published number c.answer-reply.ensures.answered.after c.publish_changes.ensures.number c.publish_changes.ensures.ifaces c.len-at.ensures.len
    (kept_before old c.args.event.now c.counters_before-before.result c.in-Some.before c.counters_before-before.ensures c.in-Some.is) c.counters-after.ensures c.publish_changes.ensures.entered c.publish_changes.ensures.still
