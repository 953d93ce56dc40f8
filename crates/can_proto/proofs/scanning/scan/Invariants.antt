use Rattle.std.proofs.Common.{◌≡◌, ◌≤◌, ◌-◌, ◌++◌, length, take}
use Rattle.can_proto.specs.Messages.{messages_of, kept_of}
use Rattle.can_proto.specs.Scanning.{text_kept_at, text_kept, IsWithin}
use Rattle.can_proto.proofs.scanning.scan.Given as goal

abbrev pub invariant-loop-i : goal.invariant-loop-i
invariant-loop-i l = record {
  given : l.out.items ≡ messages_of (text_kept l.is_open l.held ++ take l.i l.piece);
  keeps : text_kept_at l.held l.piece l.i l.place ≡ kept_of (text_kept l.is_open l.held ++ take l.i l.piece);
  within : IsWithin l.place l.i;
  order : l.i ≤ length l.piece;
}

abbrev pub decreases-loop-i : goal.decreases-loop-i
decreases-loop-i l = length l.piece - l.i
