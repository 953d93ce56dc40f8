use Rattle.std.proofs.Common.{◌≡◌, ◌<◌, ◌≤◌, List, length, reverse, rules, arith, subst}
use Rattle.std.proofs.lemmas.List.{length-reverse}
use Rattle.can_event.specs.declared.entry.Entry.{Entry}
use Rattle.can_bus.specs.Legal.{legal_reply}
use Rattle.can_replay.specs.Histories.{IsHistory}
use Rattle.can_audit.proofs.Replying.{full-reply, full-entries, room-reply, room-entries}
use Rattle.can_audit.proofs.replies.answer.Goals as goal

pub returns-then-len-config : goal.returns-then-len-config
returns-then-len-config c =
    let long : c.len.result ≡ length c.args.past.now.items = search rules in
    let full : c.args.config.limit ≤ length (reverse c.args.past.now.items) = omega (arith, long, c.if-len-config.true, length-reverse c.args.past.now.items) in
    record {
      reply = full-reply c.args.config (reverse c.args.past.now.items) c.args.event.now full;
      entries = full-entries c.args.config (reverse c.args.past.now.items) c.args.event.now full;
    }

pub returns : goal.returns
returns c =
    let long : c.len.result ≡ length c.args.past.now.items = search rules in
    let room : length c.args.past.now.items < c.args.config.limit = omega (arith, long, c.if-len-config.false) in
    let legal = subst (λ (es : List Entry). IsHistory c.args.config (reverse es) → c.in_ok-reply.reply ≡ legal_reply c.args.config (reverse es) c.args.event.now) c.deref.ensures.value c.in_ok-reply.ensures c.requires in
    record {
      reply = room-reply c.args.config (reverse c.args.past.now.items) c.args.event.now c.in_ok-reply.reply (omega (arith, room, length-reverse c.args.past.now.items)) legal;
      entries = room-entries c.args.config c.args.past.now.items c.note.new.past.items c.args.event.now c.in_ok-try_copy.field-0 c.in_ok-reply.reply room legal c.in_ok-try_copy.ensures c.in_ok-note.ensures;
    }
