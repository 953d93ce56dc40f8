use Rattle.std.proofs.Common.{◌+◌, rules}
use Rattle.can_server.proofs.Batching.{Waits, added, front_out}
use Rattle.can_server.proofs.batch.write_texts.Goals as goal
use Rattle.can_server.proofs.batch.write_texts.Goals.{else-len-most_bytes-via-then-len-most_bytes+else-not-write_front, else-len-most_bytes-via-else-len-most_bytes}

pub loop-room-preserved : goal.loop-room-preserved
loop-room-preserved g c =
    let contents = g.W.Write.contents in
    let old = c.args.out.now in
    let rooms = c.args.rooms.now in
    let i = c.loop-room.room-index in
    let text = c.write.new.out.items in
    let wrote = c.write.ensures.wrote (search (rules, c.if-not-write.false)) in
    let more : Waits contents old rooms (i + 1) c.loop-room.out text = added contents old rooms i c.loop-room.out c.loop-room.text.items text c.room-item.result c.loop-room-test.true c.room-item.is c.loop-room.invariant wrote.grows in
    elim c.else-len-most_bytes.branch [
      | else-len-most_bytes-via-then-len-most_bytes+else-not-write_front w ↦
          rw (w.text-is, w.out-is) (front_out contents old rooms (i + 1) c.len-before.result c.loop-room.out w.write_front.new.out text w.write_front.new.text.items more
          (w.write_front.ensures.wrote (search (rules, w.if-not-write_front.false))).grows (w.write_front.ensures.rest (search (rules, w.if-not-write_front.false))))
      | else-len-most_bytes-via-else-len-most_bytes w ↦ rw (w.text-is, w.out-is) more
    ]
