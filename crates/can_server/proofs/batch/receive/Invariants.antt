use Rattle.std.proofs.Common.{take}
use Rattle.can_dialog.specs.Deliveries.{AreGiven}
use Rattle.can_server.specs.Batches.{texts_of}
use Rattle.can_server.proofs.batch.receive.Given as goal

-- each buffer filled so far contains an item
abbrev pub invariant-loop-place : goal.invariant-loop-place
invariant-loop-place g l = AreGiven g.P.Port.step l.place l.session.dialog.stage l.fn.port (texts_of (take l.place l.rooms)) l.port
