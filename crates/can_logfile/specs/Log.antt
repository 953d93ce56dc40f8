use Rattle.std.specs.Prelude.{◌≡◌, ◌<◌, ℕ, ◌/◌, ◌%◌, List, [], ◌∷◌, ◌++◌, length, take, map}
use Rattle.std.specs.Prelude.{reverse, slice_get, Option, Some, None, Result, Ok, Err, codes}
use Rattle.std.specs.Option.{unwrap_or}
use Rattle.std.specs.List.{flat_map}
use Rattle.std.specs.Io.KnownBytes.{Appends}
use Rattle.can_frame.specs.Frames.{CanFrame}
use Rattle.can_frame.specs.FrameText.{digits, frame_spelling}
use Rattle.can_frame.specs.declared.item.Item.TheVariants as item
use Rattle.can_attempt.specs.declared.class.Class.{Class}
use Rattle.can_attempt.specs.declared.class.Class.TheVariants as class
use Rattle.can_event.specs.declared.entry.Entry.{Entry}
use Rattle.can_event.specs.declared.reply.Reply.{Reply}
use Rattle.can_event.specs.declared.reply.Reply.TheVariants as reply
use Rattle.can_event.specs.declared.attempt.Tried.{Tried}
use Rattle.can_event.specs.declared.attempt.Attempt.TheVariants as attempt
use Rattle.can_record.specs.Tapes.{tape}
use Rattle.can_logfile.specs.declared.log_writing.LogFault.{LogFault}

-- The log of a bus, in the format of candump's log files (can-utils).

-- A moment in brackets: seconds in 10 digits, a point and 6 digits of microseconds.
abbrev pub stamp : ℕ → List ℕ
stamp micros = 40 ∷ digits 10 10 (micros / 1000000) ++ 46 ∷ digits 10 6 (micros % 1000000) ++ 41 ∷ []

-- The name of the interface that won, or `?` (63) if it has no name.
abbrev pub winner_name : List (List ℕ) → ℕ → List ℕ
winner_name names iface = unwrap_or (slice_get names iface) (63 ∷ [])

-- The text of a tried frame: the frame itself, or an error message frame of linux/can/error.h if it was destroyed (bus
-- error, 80 in hexadecimal) or not acknowledged (A0) (own choice).
abbrev pub tried_text : Class → CanFrame → List ℕ
tried_text class.Done frame = frame_spelling (item.Data frame)
tried_text class.LastBit frame = frame_spelling (item.Data frame)
tried_text class.Destroyed frame = codes "20000080#0000000000000000"
tried_text class.NoAck frame = codes "200000A0#0000000000000000"

-- The line of a tried frame: the moment, the name and the text, with a space (32) between them, and LF (10).
abbrev pub log_line : List (List ℕ) → Tried → List ℕ
log_line names t = stamp t.moment ++ 32 ∷ winner_name names t.winner ++ 32 ∷ tried_text t.class t.frame ++ 10 ∷ []

-- The frame that was tried, if the reply has one.
abbrev pub tried_of : Reply → Option Tried
tried_of (reply.Attempted (attempt.Tried t)) = Some t
tried_of _ = None

-- The frame that was tried in this entry, if there is one.
abbrev pub tried_in : Option Entry → Option Tried
tried_in None = None
tried_in (Some e) = tried_of e.reply

-- The lines of the tried frames of a history.
abbrev pub log_lines : List (List ℕ) → List Entry → List (List ℕ)
log_lines names past = map (log_line names) (tape past)

-- These lines, one after another.
abbrev pub joined : List (List ℕ) → List ℕ
joined lines = flat_map (λ line. line) lines

-- The lines of the frames tried in blocks of entries, one block after another.
abbrev pub lines_of_blocks : List (List ℕ) → List (List Entry) → List (List ℕ)
lines_of_blocks names blocks = flat_map (λ (block : List Entry). log_lines names (reverse block)) blocks

-- This many whole lines were written, and a front part of the next line, but not the whole line.
pub record TornAfter (old new : Option (List ℕ)) (lines : List (List ℕ)) (whole : ℕ) : Type 0 where
  pub next : List ℕ
  pub there : slice_get lines whole ≡ Some next
  pub front : ℕ
  pub proper : front < length next
  pub out : Appends old new (joined (take whole lines) ++ take front next)

-- All lines were written and the result is their number, or the fault counts the whole lines.
abbrev pub LinesGoOut : Option (List ℕ) → Option (List ℕ) → List (List ℕ) → Result ℕ LogFault → Type 0
LinesGoOut old new lines (Ok n) = (n ≡ length lines) × Appends old new (joined lines)
LinesGoOut old new lines (Err fault) = TornAfter old new lines fault.whole_lines
