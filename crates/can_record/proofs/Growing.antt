use Rattle.std.proofs.Common.{◌≡◌, ℕ, ◌+◌, ◌≤◌, Bool, true, false, Some, if◌then◌else◌, List, [], ◌∷◌, ◌++◌, length, map, refl, arith, length-append}
use Rattle.std.proofs.Math.ListN.{get_or-append}
use Rattle.std.proofs.lemmas.List.{map-append}
use Rattle.std.proofs.lemmas.List.Elements.{All-head, All-tail, All-weaker, All-push}
use Rattle.can_frame.specs.Frames.{CanFrame, is_fd}
use Rattle.can_frame.specs.declared.item.Item.{Item}
use Rattle.can_frame.specs.declared.item.Item.TheVariants as item
use Rattle.can_event.specs.declared.event.Event.{Event}
use Rattle.can_event.specs.declared.event.Event.TheVariants.{Send, Receive, Attempt}
use Rattle.can_event.specs.declared.reply.Reply.{Reply}
use Rattle.can_event.specs.declared.attempt.Attempt.TheVariants as attempt
use Rattle.can_event.specs.declared.reply.Reply.TheVariants as reply
use Rattle.can_record.specs.declared.packed_entry.PackedEntry.{PackedEntry}
use Rattle.can_record.specs.declared.packed_entry.PackedEntry.TheVariants as kept
use Rattle.can_record.specs.FrameWords.{no_frame}
use Rattle.can_record.specs.PackedEntry.{entry_in, frames_needed, AreWithin, fd_frame_at, fd_frames, fd_frames_of, fd_frames_of_item}

-- A packed entry stands for the same entry after FD frames are added at the end of the list.

same_place : (fs more : List CanFrame) (place : ℕ) → place + 1 ≤ length fs → fd_frame_at (fs ++ more) place ≡ fd_frame_at fs place
same_place fs more place h = get_or-append fs more no_frame place (omega arith)

same_entry : (fs more : List CanFrame) (k : PackedEntry) → frames_needed k ≤ length fs → entry_in (fs ++ more) k ≡ entry_in fs k
same_entry fs more (kept.FdSent s number place) h = rw (same_place fs more place h)
same_entry fs more (kept.FdSendRefused why s place) h = rw (same_place fs more place h)
same_entry fs more (kept.FdReceived from s number place m) h = rw (same_place fs more place h)
same_entry fs more (kept.FdTried end winner number named accepted off restarted place m) h = rw (same_place fs more place h)
same_entry fs more (kept.Opened i capacity s) h = refl
same_entry fs more (kept.OpenRefused i capacity why) h = refl
same_entry fs more (kept.Closed s counts) h = refl
same_entry fs more (kept.CloseRefused s why) h = refl
same_entry fs more (kept.OptionSet s option) h = refl
same_entry fs more (kept.OptionRefused s option why) h = refl
same_entry fs more (kept.Sent len s word number bytes) h = refl
same_entry fs more (kept.SendRefused why len s word bytes) h = refl
same_entry fs more (kept.NothingReceived s) h = refl
same_entry fs more (kept.FrameReceived from len s word number bytes m) h = refl
same_entry fs more (kept.ErrorReceived from s number error m) h = refl
same_entry fs more (kept.ReceiveRefused s why) h = refl
same_entry fs more (kept.Idle restarted v m) h = refl
same_entry fs more (kept.Tried end named word number accepted restarted bytes stamp) h = refl
same_entry fs more (kept.AttemptRefused v m why) h = refl
same_entry fs more (kept.Restarted i m) h = refl
same_entry fs more (kept.RestartRefused i m why) h = refl
same_entry fs more (kept.TakenDown i m) h = refl
same_entry fs more (kept.DownRefused i m why) h = refl
same_entry fs more (kept.Boxed entry) h = refl

same_entries : (fs more : List CanFrame) (ks : List PackedEntry) → AreWithin (length fs) ks → map (entry_in (fs ++ more)) ks ≡ map (entry_in fs) ks
same_entries fs more [] h = refl
same_entries fs more (k ∷ ks) h = rw (same_entry fs more k (All-head (λ j. frames_needed j ≤ length fs) k ks h), same_entries fs more ks (All-tail (λ j. frames_needed j ≤ length fs) k ks h))

-- so after one more entry is added, the list has the same entries as before, and then that entry
pub entries_pushed : (fs more : List CanFrame) (ks : List PackedEntry) (k : PackedEntry) → AreWithin (length fs) ks → map (entry_in (fs ++ more)) (ks ++ k ∷ []) ≡ map (entry_in fs) ks ++ entry_in (fs ++ more) k ∷ []
entries_pushed fs more ks k h = rw (map-append (entry_in (fs ++ more)) ks (k ∷ []), same_entries fs more ks h)

-- and every place in the packed entries is within the list
pub within_pushed : (fs more : List CanFrame) (ks : List PackedEntry) (k : PackedEntry) → AreWithin (length fs) ks → frames_needed k ≤ length (fs ++ more) → AreWithin (length (fs ++ more)) (ks ++ k ∷ [])
within_pushed fs more ks k h n = All-push (λ j. frames_needed j ≤ length (fs ++ more)) ks k (All-weaker (λ j. frames_needed j ≤ length fs) (λ j. frames_needed j ≤ length (fs ++ more)) (λ j m. omega (arith, m, length-append fs more)) ks h) n

-- ---- an entry has at most one FD frame

few_of : (frame : CanFrame) → length (fd_frames_of frame) ≤ 1
few_of frame = by (is_fd frame.payload)
  where
    by : (fd : Bool) → length (if fd then frame ∷ [] else []) ≤ 1
    by true = omega arith
    by false = omega arith

few_of_item : (x : Item) → length (fd_frames_of_item x) ≤ 1
few_of_item (item.Data frame) = few_of frame
few_of_item (item.Error error) = omega arith

pub few_frames : (e : Event) (r : Reply) → length (fd_frames e r) ≤ 1
few_frames (Send s frame) r = few_of frame
few_frames (Receive s) (reply.Received (Some r)) = few_of_item r.item
few_frames (Attempt m v) (reply.Attempted (attempt.Tried t)) = few_of t.frame
few_frames _ _ = omega arith
