use Rattle.std.proofs.Common.{◌≡◌, ◌≤◌, ◌+◌, ◌∷◌, ◌++◌, [], length, length-append, ap, arith}
use Rattle.std.proofs.lemmas.Grind.{common_steps}
use Rattle.can_record.specs.PackedEntry.{entry_in, frames_needed, fd_frames}
use Rattle.can_record.specs.Records.{PackedEntries}
use Rattle.can_record.proofs.Growing.{entries_pushed, few_frames, within_pushed}
use Rattle.can_record.proofs.packed_record.PackedRecord.push.Goals as goal

-- src/records.rt:55:5
pub invariant_of-self : goal.invariant_of-self
invariant_of-self c =
    let kept : c.push.new.self.items ≡ c.self.inside.entries.items ++ c.pack-kept.result ∷ [] = grind (arith, common_steps) in
    let fs = c.self.inside.frames.items in
    let more = fd_frames c.args.event.now c.args.reply.now in
    let within : frames_needed c.pack-kept.result ≤ length (fs ++ more) = rw c.pack-kept.ensures.frames at c.pack-kept.ensures.within in
    rw (c.pack-kept.ensures.frames, kept) (within_pushed fs more _ _ c.self.invariant within)

-- src/records.rt:55:5
pub returns-clause-more : goal.returns-clause-more
returns-clause-more c =
    let kept : c.push.new.self.items ≡ c.self.inside.entries.items ++ c.pack-kept.result ∷ [] = grind (arith, common_steps) in
    let fs = c.self.inside.frames.items in
    let more = fd_frames c.args.event.now c.args.reply.now in
    let entry : entry_in (fs ++ more) c.pack-kept.result ≡ record { event = c.args.event.now; reply = c.args.reply.now } = rw c.pack-kept.ensures.frames at c.pack-kept.ensures.entry in
    let all = entries_pushed fs more c.self.inside.entries.items c.pack-kept.result c.self.invariant in
    rw (c.pack-kept.ensures.frames, kept, ← c.self.view_is, all, entry)

pub returns-clause-room : goal.returns-clause-room
returns-clause-room c =
    let fs = c.self.inside.frames.items in
    let more = fd_frames c.args.event.now c.args.reply.now in
    let few : length (fs ++ more) ≤ length fs + 1 = omega (arith, length-append fs more, few_frames c.args.event.now c.args.reply.now) in
    let frames : length c.pack-kept.new.frames.items ≤ length fs + 1 = rw c.pack-kept.ensures.frames few in
    let room = ap (λ (p : PackedEntries). p.room) c.self.view_is in
    grind (arith, common_steps, c.requires.room, room, frames)
