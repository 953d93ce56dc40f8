use Rattle.std.specs.Prelude.{ℕ, ◌+◌, ◌/◌, ◌%◌, ◌^◌, ◌==◌, ◌≤◌, Bool, List, []}
use Rattle.std.specs.Prelude.{◌∷◌, get_or, Some, None, Result, if◌then◌else◌}
use Rattle.std.specs.List.{All}
use Rattle.can_frame.specs.Frames.{CanFrame, is_fd}
use Rattle.can_frame.specs.Sets.{no_ifaces}
use Rattle.can_frame.specs.declared.iface.IfaceSet.{IfaceSet}
use Rattle.can_frame.specs.declared.item.Item.{Item}
use Rattle.can_frame.specs.declared.item.Item.TheVariants as item
use Rattle.can_fault.specs.declared.verdict.Verdict.{Verdict}
use Rattle.can_event.specs.declared.entry.Entry.{Entry}
use Rattle.can_event.specs.declared.event.Event.{Event}
use Rattle.can_event.specs.declared.event.Event.TheVariants.{Open, Close, SetOption, Send, Receive, Attempt}
use Rattle.can_event.specs.declared.event.Event.TheVariants.{Restart, Down}
use Rattle.can_event.specs.declared.received.Received.{Received}
use Rattle.can_event.specs.declared.refusal.Refusal.{Refusal}
use Rattle.can_event.specs.declared.reply.Reply.{Reply}
use Rattle.can_event.specs.declared.reply.Reply.TheVariants as reply
use Rattle.can_event.specs.declared.socket_id.SocketId.{SocketId}
use Rattle.can_event.specs.declared.attempt.Tried.{Tried}
use Rattle.can_event.specs.declared.attempt.Attempt.TheVariants as attempt
use Rattle.can_event.specs.Replies.{entry_of, receive_reply, told}
use Rattle.can_record.specs.declared.packed_entry.PackedEntry.{PackedEntry}
use Rattle.can_record.specs.declared.packed_entry.PackedEntry.TheVariants as kept
use Rattle.can_record.specs.declared.packed_entry.PackedFrame.{PackedFrame}
use Rattle.can_record.specs.declared.packed_entry.PackedFrame.TheVariants as place
use Rattle.can_record.specs.FrameWords.{frame_in, no_frame}
use Rattle.can_record.specs.Moments.{moment_in}
use Rattle.can_record.specs.Verdicts.{class_in, verdict_in}

-- Entries packed in 32 bytes, with a separate list of FD frames.

-- The FD frame at a place of the list. No entry of a record has a place past the end.
abbrev pub fd_frame_at : List CanFrame → ℕ → CanFrame
fd_frame_at frames place = get_or frames place no_frame

-- The moment in a stamp. A stamp is one number: the moment (54 bits), the winner (4), the length of the frame (4), and
-- whether the winner went bus off (1).
abbrev pub stamp_moment : ℕ → ℕ
stamp_moment stamp = moment_in (stamp / 512)

-- The winner in a stamp (own choice).
abbrev pub stamp_winner : ℕ → ℕ
stamp_winner stamp = stamp / 32 % 16

-- The length of the frame in a stamp (own choice).
abbrev pub stamp_len : ℕ → ℕ
stamp_len stamp = stamp / 2 % 16

-- The interfaces that went bus off, from a stamp: either only the winner, or none (own choice).
abbrev pub stamp_off : ℕ → IfaceSet
stamp_off stamp = if stamp % 2 == 0 then no_ifaces else record { 0 = 2 ^ stamp_winner stamp }

-- The tried frame of a packed entry. `end` is the number of its class plus 4 times the number of the attempt's verdict.
abbrev pub tried_in : ℕ → ℕ → ℕ → IfaceSet → IfaceSet → List ℕ → ℕ → Tried
tried_in end word number accepted restarted bytes stamp = record {
  moment = stamp_moment stamp;
  winner = stamp_winner stamp;
  number = number;
  frame = frame_in word (stamp_len stamp) bytes;
  class = class_in (end % 4);
  accepted = accepted;
  off = stamp_off stamp;
  restarted = restarted;
}

-- The entry that a packed entry stands for.
abbrev pub entry_in : List CanFrame → PackedEntry → Entry
entry_in frames (kept.Opened i capacity s) = entry_of (Open i capacity) (reply.Opened s)
entry_in frames (kept.OpenRefused i capacity why) = entry_of (Open i capacity) (reply.Refused why)
entry_in frames (kept.Closed s counts) = entry_of (Close s) (reply.Closed counts)
entry_in frames (kept.CloseRefused s why) = entry_of (Close s) (reply.Refused why)
entry_in frames (kept.OptionSet s option) = entry_of (SetOption s option) reply.Done
entry_in frames (kept.OptionRefused s option why) = entry_of (SetOption s option) (reply.Refused why)
entry_in frames (kept.Sent len s word number bytes) = entry_of (Send s (frame_in word len bytes)) (reply.Sent number)
entry_in frames (kept.FdSent s number place) = entry_of (Send s (fd_frame_at frames place)) (reply.Sent number)
entry_in frames (kept.SendRefused why len s word bytes) =
    entry_of (Send s (frame_in word len bytes)) (reply.Refused why)
entry_in frames (kept.FdSendRefused why s place) = entry_of (Send s (fd_frame_at frames place)) (reply.Refused why)
entry_in frames (kept.NothingReceived s) = entry_of (Receive s) (reply.Received None)
entry_in frames (kept.FrameReceived from len s word number bytes m) =
    entry_of (Receive s) (reply.Received
    (Some (record { item = item.Data (frame_in word len bytes); from = from; number = number; moment = m })))
entry_in frames (kept.FdReceived from s number place m) =
    entry_of (Receive s) (reply.Received
    (Some (record { item = item.Data (fd_frame_at frames place); from = from; number = number; moment = m })))
entry_in frames (kept.ErrorReceived from s number error m) =
    entry_of (Receive s) (reply.Received
    (Some (record { item = item.Error error; from = from; number = number; moment = m })))
entry_in frames (kept.ReceiveRefused s why) = entry_of (Receive s) (reply.Refused why)
entry_in frames (kept.Idle restarted v m) = entry_of (Attempt m v) (reply.Attempted (attempt.Idle restarted))
entry_in frames (kept.Tried end named word number accepted restarted bytes stamp) =
    entry_of (Attempt (stamp_moment stamp) (verdict_in (end / 4) named))
    (reply.Attempted (attempt.Tried (tried_in end word number accepted restarted bytes stamp)))
entry_in frames (kept.FdTried end winner number named accepted off restarted place m) =
    entry_of (Attempt m (verdict_in (end / 4) named)) (reply.Attempted (attempt.Tried (record {
      moment = m;
      winner = winner;
      number = number;
      frame = fd_frame_at frames place;
      class = class_in (end % 4);
      accepted = accepted;
      off = off;
      restarted = restarted;
    })))
entry_in frames (kept.AttemptRefused v m why) = entry_of (Attempt m v) (reply.Refused why)
entry_in frames (kept.Restarted i m) = entry_of (Restart i m) reply.Done
entry_in frames (kept.RestartRefused i m why) = entry_of (Restart i m) (reply.Refused why)
entry_in frames (kept.TakenDown i m) = entry_of (Down i m) reply.Done
entry_in frames (kept.DownRefused i m why) = entry_of (Down i m) (reply.Refused why)
entry_in frames (kept.Boxed entry) = entry.value

-- The packed entry is not boxed.
abbrev pub IsSmall : PackedEntry → Type 0
IsSmall (kept.Boxed entry) = ⊥
IsSmall _ = Unit {0}

-- The number of FD frames that the list needs, so that the place in this packed entry is within the list.
abbrev pub frames_needed : PackedEntry → ℕ
frames_needed (kept.FdSent s number place) = place + 1
frames_needed (kept.FdSendRefused why s place) = place + 1
frames_needed (kept.FdReceived from s number place m) = place + 1
frames_needed (kept.FdTried end winner number named accepted off restarted place m) = place + 1
frames_needed _ = 0

-- All packed entries have their places within a list of this many FD frames.
abbrev pub AreWithin : ℕ → List PackedEntry → Type 0
AreWithin count = All (λ k. frames_needed k ≤ count)

-- The frame that a packed frame stands for.
abbrev pub frame_kept : List CanFrame → PackedFrame → CanFrame
frame_kept frames (place.Words word len bytes) = frame_in word len bytes
frame_kept frames (place.Place at) = fd_frame_at frames at

-- The number of FD frames that the list needs, so that the place in this packed frame is within the list.
abbrev pub frames_needed_for : PackedFrame → ℕ
frames_needed_for (place.Words word len bytes) = 0
frames_needed_for (place.Place at) = at + 1

-- The length of a packed frame is at most 8, unless it is an FD frame.
abbrev pub IsShort : PackedFrame → Type 0
IsShort (place.Words word len bytes) = len ≤ 8
IsShort (place.Place at) = Unit {0}

-- The FD frames that a frame adds to the list.
abbrev pub fd_frames_of : CanFrame → List CanFrame
fd_frames_of frame = if is_fd frame.payload then frame ∷ [] else []

-- The FD frames that an item adds to the list (own choice).
abbrev pub fd_frames_of_item : Item → List CanFrame
fd_frames_of_item (item.Data frame) = fd_frames_of frame
fd_frames_of_item (item.Error error) = []

-- The FD frames that an entry adds to the list (own choice).
abbrev pub fd_frames : Event → Reply → List CanFrame
fd_frames (Send s frame) r = fd_frames_of frame
fd_frames (Receive s) (reply.Received (Some r)) = fd_frames_of_item r.item
fd_frames (Attempt m v) (reply.Attempted (attempt.Tried t)) = fd_frames_of t.frame
fd_frames _ _ = []

-- The entry of a receive call with this result, which used this room (own choice).
abbrev pub receive_entry : SocketId → Received → Result Bool Refusal → Entry
receive_entry s room outcome = entry_of (Receive s) (receive_reply room outcome)

-- The FD frames that the entry of a receive call adds to the list (own choice).
abbrev pub receive_frames : SocketId → Received → Result Bool Refusal → List CanFrame
receive_frames s room outcome = fd_frames (Receive s) (receive_reply room outcome)

-- The entry of a send call with this result (own choice).
abbrev pub send_entry : SocketId → CanFrame → Result ℕ Refusal → Entry
send_entry s frame outcome = entry_of (Send s frame) (told reply.Sent outcome)

-- The entry of an attempt that tried this frame (own choice).
abbrev pub tried_entry : ℕ → Verdict → Tried → Entry
tried_entry m v t = entry_of (Attempt m v) (reply.Attempted (attempt.Tried t))
