use Rattle.std.proofs.Common.{◌≡◌, ◌≤◌, ◌+◌, ◌∷◌, ◌++◌, [], length, length-append, ap, arith}
use Rattle.std.proofs.lemmas.Grind.{common_steps}
use Rattle.can_event.specs.Replies.{told}
use Rattle.can_event.specs.declared.event.Event.TheVariants.{Send}
use Rattle.can_event.specs.declared.reply.Reply.TheVariants.{Sent}
use Rattle.can_record.specs.PackedEntry.{entry_in, frames_needed, fd_frames_of, send_entry}
use Rattle.can_record.specs.Records.{PackedEntries}
use Rattle.can_record.proofs.Growing.{entries_pushed, few_frames, within_pushed}
use Rattle.can_record.proofs.packed_record.PackedRecord.push_send.Goals as goal

pub invariant_of-self : goal.invariant_of-self
invariant_of-self c =
    let kept : c.push.new.self.items ≡ c.self.inside.entries.items ++ c.pack_send-kept.result ∷ [] = grind (arith, common_steps) in
    let fs = c.self.inside.frames.items in
    let more = fd_frames_of c.args.frame.now in
    let within : frames_needed c.pack_send-kept.result ≤ length (fs ++ more) = rw c.pack_send-kept.ensures.frames at c.pack_send-kept.ensures.within in
    rw (c.pack_send-kept.ensures.frames, kept) (within_pushed fs more _ _ c.self.invariant within)

pub returns-clause-more : goal.returns-clause-more
returns-clause-more c =
    let kept : c.push.new.self.items ≡ c.self.inside.entries.items ++ c.pack_send-kept.result ∷ [] = grind (arith, common_steps) in
    let fs = c.self.inside.frames.items in
    let more = fd_frames_of c.args.frame.now in
    let entry : entry_in (fs ++ more) c.pack_send-kept.result ≡ send_entry c.args.id c.args.frame.now c.args.outcome = rw c.pack_send-kept.ensures.frames at c.pack_send-kept.ensures.entry in
    let all = entries_pushed fs more c.self.inside.entries.items c.pack_send-kept.result c.self.invariant in
    rw (c.pack_send-kept.ensures.frames, kept, ← c.self.view_is, all, entry)

pub returns-clause-room : goal.returns-clause-room
returns-clause-room c =
    let fs = c.self.inside.frames.items in
    let more = fd_frames_of c.args.frame.now in
    let few : length (fs ++ more) ≤ length fs + 1 = omega (arith, length-append fs more, few_frames (Send c.args.id c.args.frame.now) (told Sent c.args.outcome)) in
    let frames : length c.pack_send-kept.new.frames.items ≤ length fs + 1 = rw c.pack_send-kept.ensures.frames few in
    let room = ap (λ (p : PackedEntries). p.room) c.self.view_is in
    grind (arith, common_steps, c.requires.room, room, frames)
