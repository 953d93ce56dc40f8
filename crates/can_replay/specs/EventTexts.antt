use Rattle.std.specs.Prelude.{◌≡◌, ℕ, ◌&&◌, not, Bool, true, false, List, [], ◌∷◌, ◌++◌, length, take, reverse}
use Rattle.std.specs.Prelude.{Option, Some, None, Result, Ok, Err}
use Rattle.can_event.specs.declared.bus_config.BusConfig.{BusConfig}
use Rattle.can_event.specs.declared.entry.Entry.{Entry}
use Rattle.can_bus.specs.Legal.{IsLegal}
use Rattle.can_bus.specs.Lean.{IsAfter}
use Rattle.can_record_text.specs.declared.fault.Unread.{Unread}
use Rattle.can_record_text.specs.declared.fault.Unread.TheVariants as unread
use Rattle.can_record_text.specs.RecordFaults.{IsTextOf}
use Rattle.can_record_text.specs.Spelling.{end_words, entry_line, spell, version_of}
use Rattle.can_record_text.specs.Values.{HasLine}
use Rattle.can_replay.specs.Brought.{is_step}
use Rattle.can_replay.specs.declared.wanted.Wanted.{Wanted}
use Rattle.can_replay.specs.EventsText.{asked_of, wanted_after, with_parts}
use Rattle.can_replay.specs.EventsText.{cut_events_text, cut_words, events_front, events_text}
use Rattle.can_replay.specs.EventsText.{rules_at_end, rules_at_start}
use Rattle.can_replay.specs.inner.Seen.{HasSeen}
use Rattle.can_replay.specs.declared.entry_audit.EntryAudit.{EntryAudit}
use Rattle.can_replay.specs.declared.events_text.EventsText.{EventsText}
use Rattle.can_replay.specs.declared.text_audit.Phase.{Phase}
use Rattle.can_replay.specs.declared.text_audit.Phase.TheVariants as phase
use Rattle.can_replay.specs.declared.text_audit.TextAudit.{TextAudit}
use Rattle.can_replay.specs.declared.text_fault.Cut.{Cut}
use Rattle.can_replay.specs.declared.text_fault.Cut.TheVariants as cut
use Rattle.can_replay.specs.declared.text_fault.WrongLine.{WrongLine}
use Rattle.can_replay.specs.TextAudits.{HasCome, IsFrontOf, IsLine}
use Rattle.can_replay.specs.inner.EntryAudits.{IsGoing}

-- The output of an audit with events: the lines of the legal entries with their effects, and the other wanted lines.
-- `w` is the wanted value at the start. Each entry that is taken may query the fault rules in it (own choice).

-- ---- the text of a record's events

-- This is the text of the events of the legal record that has this text.
pub record IsEventsText (w : Wanted) (text events : List ℕ) : Type 0 where
  pub config : BusConfig
  pub entries : List Entry
  pub whole : IsTextOf text config entries
  pub legal : IsLegal config (reverse entries)
  pub are : events ≡ events_text w (version_of config entries) config (reverse entries)

-- This is the text of the events of a legal record whose text is cut off after `text`.
pub record IsCutEventsText (w : Wanted) (text events : List ℕ) : Type 0 where
  pub config : BusConfig
  pub entries : List Entry
  pub front : IsFrontOf text config entries
  pub legal : IsLegal config (reverse entries)
  pub are : events ≡ cut_events_text w front.version config (reverse entries)

-- The lines of the script's rules, if the audit writes events.
abbrev pub rules_first : Option EventsText → List ℕ
rules_first None = []
rules_first (Some e) = rules_at_start e.wanted.faults

-- The lines of the rules that come after the last entry, if the audit writes events.
abbrev pub rules_last : Option EventsText → List ℕ
rules_last None = []
rules_last (Some e) = rules_at_end e.wanted.faults

-- The last line, if the record is complete.
abbrev pub end_line : ℕ → List ℕ
end_line count = spell (end_words count) []

-- The last line, if the record is cut off.
abbrev pub cut_line : ℕ → List ℕ
cut_line count = spell (cut_words count) []

-- ---- the lines after the first

-- `is_none` holds if no entry is wrong so far. `is_legal_yet` holds if, in addition, the end line was not taken.
abbrev pub is_none : Option WrongLine → Bool
is_none None = true
is_none (Some w) = false

abbrev pub is_legal_yet : EntryAudit → Bool
is_legal_yet b = not b.is_ended && is_none b.wrong

-- The entries before the first wrong one, or all entries if no entry is known to be wrong.
abbrev pub legal_part : List Entry → Option WrongLine → List Entry
legal_part entries None = entries
legal_part entries (Some w) = take w.place entries

-- The history of the legal entries that were read.
abbrev pub legal_past : (text : List ℕ) (b : EntryAudit) → IsGoing text b → List Entry
legal_past text b g = reverse (legal_part g.read.entries b.wrong)

-- The text of the events of these legal entries, up to the last entry.
abbrev pub events_of : Wanted → (text : List ℕ) (b : EntryAudit) → IsGoing text b → List ℕ
events_of w text b g = events_front w b.version b.config (legal_past text b g)

-- A line was taken. Its events are written after the events of the lines before it. The fault rules are updated to
-- their state after its entry.
abbrev pub WritesOn : EventsText → EntryAudit → EventsText → EntryAudit → List ℕ → Type 0
WritesOn old before new after line =
    (w : Wanted) (text cleared : List ℕ) (g : IsGoing text before) (h : IsGoing (text ++ line) after) → IsLine line
    → cleared ++ old.text.items ≡ events_of w text before g → old.wanted ≡ wanted_after w (legal_past text before g)
    → (cleared ++ new.text.items ≡ events_of w (text ++ line) after h)
    × (new.wanted ≡ wanted_after w (legal_past (text ++ line) after h))

-- The result is this entry, or memory was refused.
abbrev pub IsReadAs : Entry → Result Entry Unread → Type 0
IsReadAs e (Ok read) = read ≡ e
IsReadAs e (Err why) = why ≡ unread.NoMemory

-- The line of an attempt, a restart or a down was written with its effects and the other wanted parts. The effects are
-- computed from the state of the bus before the entry. The fault rules are updated to their state after the entry.
abbrev pub WritesParts : EventsText → EntryAudit → List ℕ → EventsText → Type 0
WritesParts old audit line new =
    (past : List Entry) (e : Entry) → HasSeen audit.bus.config past old.before → IsAfter audit.bus (e ∷ past)
    → is_step e.event ≡ true → HasLine audit.version audit.config e → line ≡ entry_line e []
    → (new.text.items ≡ old.text.items ++ with_parts old.wanted audit.bus.config past e line)
    × (new.wanted ≡ record old.wanted { faults = asked_of old.wanted.faults e })

-- The text has ended, and it is a complete and legal record with this many entries.
pub record IsWhole (text : List ℕ) (b : EntryAudit) (g : IsGoing text b) (count : ℕ) : Type 0 where
  pub whole : IsTextOf text b.config g.read.entries
  pub version : b.version ≡ version_of b.config g.read.entries
  pub legal : b.wrong ≡ None
  pub counted : count ≡ length g.read.entries

-- The text, followed by the bytes `torn`, is cut off: it is the beginning of a legal record's text and contains the
-- lines of this many entries.
pub record IsOff (text torn : List ℕ) (b : EntryAudit) (g : IsGoing text b) (count : ℕ) : Type 0 where
  pub front : IsFrontOf (text ++ torn) b.config g.read.entries
  pub version : front.version ≡ b.version
  pub legal : b.wrong ≡ None
  pub counted : count ≡ length g.read.entries

-- The text has ended, and it is complete or cut off.
abbrev pub IsReached : (text torn : List ℕ) (b : EntryAudit) → IsGoing text b → Cut → Type 0
IsReached text torn b g (cut.Whole count) = (torn ≡ []) × IsWhole text b g count
IsReached text torn b g (cut.Off count) = IsOff text torn b g count

-- ---- an audit

-- The events of the lines that were taken so far.
abbrev pub events_so_far : Wanted → (text : List ℕ) (p : Phase) → HasCome text p → List ℕ
events_so_far w text (phase.Entries b) come = events_of w text b come
events_so_far w text _ come = []

-- The history of the legal entries that were taken so far.
abbrev pub past_so_far : (text : List ℕ) (p : Phase) → HasCome text p → List Entry
past_so_far text (phase.Entries b) come = legal_past text b come
past_so_far text _ come = []

-- The text that was written and has not been cleared.
abbrev pub held_events : Option EventsText → List ℕ
held_events None = []
held_events (Some e) = e.text.items

-- The cleared text and the held text together are these events. If the audit does not write events, no text was
-- cleared.
abbrev pub Completes : Option EventsText → List ℕ → List ℕ → Type 0
Completes None cleared events = cleared ≡ []
Completes (Some e) cleared events = cleared ++ e.text.items ≡ events

-- The wanted value is the value after these entries.
abbrev pub IsWantedAfter : Wanted → Option EventsText → List Entry → Type 0
IsWantedAfter w None past = Unit {0}
IsWantedAfter w (Some e) past = e.wanted ≡ wanted_after w past

-- The lines that were taken make up this text. All their events were written, starting with the wanted value `w`: first
-- the cleared text, then the held text.
pub record AreWritten (w : Wanted) (text cleared : List ℕ) (p : Phase) (held : Option EventsText) : Type 0 where
  pub taken : HasCome text p
  pub complete : Completes held cleared (events_so_far w text p taken)
  pub wanted : IsWantedAfter w held (past_so_far text p taken)

-- The audit has taken this text, and has written all of its events.
abbrev pub HasWritten : Wanted → List ℕ → List ℕ → TextAudit → Type 0
HasWritten w text cleared audit = AreWritten w text cleared audit.phase audit.events

-- The audit writes events.
abbrev pub has_events : Option EventsText → Bool
has_events None = false
has_events (Some e) = true

-- The first wrong entry in the lines that were taken so far.
abbrev pub wrong_so_far : Phase → Option WrongLine
wrong_so_far (phase.Entries b) = b.wrong
wrong_so_far _ = None

-- If the audit writes events, then the text so far, the last rules and the last line are together all events of a legal
-- record.
abbrev pub EndsEvents : Wanted → Option EventsText → List ℕ → List ℕ → ℕ → Type 0
EndsEvents w None text cleared count = Unit {0}
EndsEvents w (Some e) text cleared count =
    IsEventsText w text ((cleared ++ e.text.items) ++ (rules_last (Some e) ++ end_line count))

-- The same as `EndsEvents`, for a text that may be cut off.
abbrev pub EndsCutEvents : Wanted → Option EventsText → List ℕ → List ℕ → Cut → Type 0
EndsCutEvents w held text cleared (cut.Whole count) = EndsEvents w held text cleared count
EndsCutEvents w None text cleared (cut.Off count) = Unit {0}
EndsCutEvents w (Some e) text cleared (cut.Off count) =
    IsCutEventsText w text ((cleared ++ e.text.items) ++ (rules_last (Some e) ++ cut_line count))
