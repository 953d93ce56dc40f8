use Rattle.std.proofs.Common.{◌++◌, List, reverse, ap, sym, ◌∙◌, subst}
use Rattle.can_event.specs.declared.entry.Entry.{Entry}
use Rattle.can_event.specs.declared.reply.Reply.{Reply}
use Rattle.can_replay.specs.Histories.{IsHistory}
use Rattle.can_replay.specs.Replies.{replies_after}
use Rattle.can_audit.proofs.Replying.{entries-legal, replies_more, replies_all}
use Rattle.can_audit.proofs.replies.replies.Goals as goal

pub loop-event-init : goal.loop-event-init
loop-event-init c = record {
  lawful = subst (λ (es : List Entry). IsHistory c.args.config (reverse es)) (sym c.new-past.ensures.items) (record { proper = c.requires; legal = tt });
  so_far = ap (λ (rs : List Reply). rs ++ replies_after c.args.config (reverse c.new-past.result.items) c.args.events.now) c.new-replies.ensures.items ∙ ap (λ (es : List Entry). replies_after c.args.config (reverse es) c.args.events.now) c.new-past.ensures.items;
}

pub loop-event-preserved : goal.loop-event-preserved
loop-event-preserved c =
    let old = reverse c.loop-event.past.items in
    record {
      lawful = subst (IsHistory c.args.config) (sym c.in_ok-reply.ensures.entries) (entries-legal c.args.config old c.event-item.result c.loop-event.invariant.lawful);
      so_far = replies_more c.args.config old (reverse c.answer.new.past.items) c.args.events.now c.loop-event.event-index c.event-item.result c.in_ok-reply.reply
          c.loop-event.replies.items c.push.new.self.items _ c.loop-event-test.true c.event-item.is c.in_ok-reply.ensures.reply c.in_ok-reply.ensures.entries c.in_ok-push.ensures.items c.loop-event.invariant.so_far;
    }

pub returns : goal.returns
returns c = replies_all c.args.config (reverse c.loop-event.past.items) c.args.events.now c.loop-event.event-index c.loop-event.replies.items _ c.loop-event-test.false c.loop-event.invariant.so_far
