use Rattle.std.specs.Prelude.{◌≡◌, ◌≢◌, ◌⊎◌, ℕ, ◌+◌, Bool, true, false, List, [], ◌∷◌, ◌++◌, length}
use Rattle.std.specs.Prelude.{reverse, codes, decimal, unwrap_or, Option, Some, None, Result, Ok, Err}
use Rattle.std.specs.List.{Contains}
use Rattle.std.specs.Option.{option_map}
use Rattle.std.specs.Io.KnownBytes.{Appends, Consumes, IsAtEnd}
use Rattle.can_event.specs.declared.bus_config.BusConfig.{BusConfig}
use Rattle.can_event.specs.declared.entry.Entry.{Entry}
use Rattle.can_event.specs.declared.reply.Reply.{Reply}
use Rattle.can_event.specs.Spelled.{FitsReply}
use Rattle.can_bus.specs.Legal.{IsLegal}
use Rattle.can_frame.specs.Names.{names_in}
use Rattle.can_rules.specs.RunFaults.{RunSeen}
use Rattle.can_record_text.specs.declared.fault.ReadFault.{ReadFault}
use Rattle.can_record_text.specs.declared.fault.ReadFault.TheVariants as read
use Rattle.can_record_text.specs.declared.version.Version.{Version}
use Rattle.can_record_text.specs.RecordFaults.{IsTextOf, LacksEntry, Reads}
use Rattle.can_record_text.specs.Spelling.{entry_lines, front_lines, version_of}
use Rattle.can_record_text.specs.Values.{HasLines}
use Rattle.can_replay.specs.EventsText.{cut_events_text, events_front, events_text, nothing_wanted}
use Rattle.can_replay.specs.declared.wanted.Wanted.{Wanted}
use Rattle.can_replay.specs.Audits.{IsFirstWrongEntry}
use Rattle.can_replay.specs.declared.text_fault.Cut.{Cut}
use Rattle.can_replay.specs.declared.text_fault.Cut.TheVariants as cut
use Rattle.can_replay.specs.declared.text_fault.TextFault.{TextFault}
use Rattle.can_replay.specs.declared.text_fault.TextFault.TheVariants as found
use Rattle.can_replay.specs.declared.text_fault.WrongLine.{WrongLine}
use Rattle.can_replay.specs.declared.events_text.EventsText.{EventsText}
use Rattle.can_replay.specs.declared.text_audit.TextAudit.{TextAudit}
use Rattle.can_replay.specs.EventTexts.{HasWritten, end_line, has_events, held_events}
use Rattle.can_replay.specs.EventTexts.{cut_line as cut_end_line}
use Rattle.can_replay.specs.Histories.{before}
use Rattle.can_replay.specs.TextAudits.{AreTaken, EndsLine, EndsNoLine, FailsNext, FaultsUncut, IsFrontOf, IsLine}
use Rattle.can_replay.specs.TextAudits.{HasBus, LacksFront, MayFollow, bus_taken}
use Rattle.canbusd_options.specs.declared.audit_options.AuditOutput.{AuditOutput}
use Rattle.canbusd_options.specs.declared.audit_options.AuditOutput.TheVariants as writes
use Rattle.canbusd_options.specs.declared.bus_word.FaultsWord.{FaultsWord}
use Rattle.canbusd_io.specs.declared.program_error.ProgramError.{ProgramError}
use Rattle.canbusd_io.specs.declared.program_error.ProgramError.TheVariants as fault
use Rattle.canbusd_io.specs.Buses.{HadFaults}
use Rattle.canbusd_io.specs.Files.{IsOfFaults, IsOfFile, IsOfReading}
use Rattle.canbusd_audit.specs.declared.buffered.Buffered.{Buffered}
use Rattle.canbusd_audit.specs.declared.buffered.Buffered.TheVariants as held

-- The output of an audit of a text (own choice). The options request either only the number of a record's entries, or
-- events: the effects of the entries and the other wanted parts of their lines.

-- the line that says how many entries a legal record contains
abbrev pub entries_line : ℕ → List ℕ
entries_line n = codes "ok " ++ decimal n ++ codes " entries" ++ 10 ∷ []

-- the output of an audit of a legal record: the number of its entries or, with events, the effects of the entries and
-- the other wanted parts of their lines
abbrev pub audit_text : Option Wanted → BusConfig → List Entry → List ℕ
audit_text None c entries = entries_line (length entries)
audit_text (Some w) c entries = events_text w (version_of c entries) c (reverse entries)

-- the bus has this many interfaces, if a number is given
abbrev pub HasIfaces : Option ℕ → BusConfig → Type 0
HasIfaces None c = Unit {0}
HasIfaces (Some n) c = c.ifaces ≡ n

-- the text is the text of a legal history of a bus with this many interfaces, and the output of its audit was written
pub record IsAudited (asked : Option Wanted) (ifaces : Option ℕ) (text : List ℕ)
    (old new : Option (List ℕ)) : Type 0 where
  pub config : BusConfig
  pub entries : List Entry
  pub whole : IsTextOf text config entries
  pub legal : IsLegal config (reverse entries)
  pub named : HasIfaces ifaces config
  pub wrote : Appends old new (audit_text asked config entries)

-- the line that says how many entries a cut-off record contains
abbrev pub cut_record_line : ℕ → List ℕ
cut_record_line n = codes "ok " ++ decimal n ++ codes " entries, then cut off" ++ 10 ∷ []

-- the output of an audit of a legal record that is cut off, in a text of this version
abbrev pub cut_audit_text : Option Wanted → Version → BusConfig → List Entry → List ℕ
cut_audit_text None v c entries = cut_record_line (length entries)
cut_audit_text (Some w) v c entries = cut_events_text w v c (reverse entries)

-- the text is cut off, and as far as it goes it is the text of a legal history; the output of its audit was written
pub record IsAuditedCut (asked : Option Wanted) (ifaces : Option ℕ) (text : List ℕ)
    (old new : Option (List ℕ)) : Type 0 where
  pub config : BusConfig
  pub entries : List Entry
  pub front : IsFrontOf text config entries
  pub legal : IsLegal config (reverse entries)
  pub named : HasIfaces ifaces config
  pub wrote : Appends old new (cut_audit_text asked front.version config entries)

-- the text was audited as a whole record or, if it may be cut off, as a whole or a cut-off record
abbrev pub IsAuditedBy : (is_cut : Bool) (asked : Option Wanted) (ifaces : Option ℕ) → List ℕ
    → Option (List ℕ) → Option (List ℕ) → Type 0
IsAuditedBy false asked ifaces text old new = IsAudited asked ifaces text old new
IsAuditedBy true asked ifaces text old new =
    IsAudited asked ifaces text old new ⊎ IsAuditedCut asked ifaces text old new

-- some text that the files may contain was audited; `is_cut` says whether the text may be cut off
abbrev pub AuditsSome : {W : Type 0} → (is_cut : Bool) (asked : Option Wanted) (ifaces : Option ℕ)
    → (W → Option (List ℕ)) → W → W → Type 0
AuditsSome is_cut asked ifaces contents old new =
    (text : List ℕ) × IsAuditedBy is_cut asked ifaces text (contents old) (contents new)

-- these are the faults that some text spells for the names in the argument; without an argument there are no faults
abbrev pub AreFaultsOf : Option FaultsWord → Option RunSeen → Type 0
AreFaultsOf None None = Unit {0}
AreFaultsOf (Some word) (Some faults) = HadFaults word faults
AreFaultsOf _ _ = ⊥

-- the options request this output, with the faults that they name
abbrev pub IsAskedBy : AuditOutput → Option Wanted → Type 0
IsAskedBy writes.Count None = Unit {0}
IsAskedBy (writes.Events asked) (Some w) = (w.timing ≡ asked.timing) × AreFaultsOf asked.faults w.faults
IsAskedBy _ _ = ⊥

-- the number of interfaces that the options name with the faults, if they name faults
abbrev pub ifaces_named : AuditOutput → Option ℕ
ifaces_named writes.Count = None
ifaces_named (writes.Events asked) =
    option_map (λ (word : FaultsWord). length (names_in word.names.now)) asked.faults

-- some text that the files may contain was audited as the options request
abbrev pub AuditsFiles : {W : Type 0} → Bool → AuditOutput → (W → Option (List ℕ)) → W → W → Type 0
AuditsFiles is_cut output contents old new =
    (asked : Option Wanted) × IsAskedBy output asked × AuditsSome is_cut asked (ifaces_named output) contents old new

-- nothing was written before the error, unless it is an error in writing
abbrev pub IsQuiet : {W : Type 0} → ProgramError → W → W → Type 0
IsQuiet why old new = (why ≡ fault.Write) ⊎ (new ≡ old)

-- what the error says about a record's entries: it names the first wrong entry. An error in writing or lack of memory
-- says nothing
abbrev pub SaysOf : BusConfig → List Entry → ProgramError → Type 0
SaysOf c entries (fault.WrongEntry k) = IsFirstWrongEntry c entries k
SaysOf c entries fault.Write = Unit {0}
SaysOf c entries fault.NoMemory = Unit {0}
SaysOf c entries _ = ⊥

-- the text is the text of a record, and the error says this about the record's entries
pub record IsBlamed (text : List ℕ) (why : ProgramError) : Type 0 where
  pub config : BusConfig
  pub entries : List Entry
  pub whole : IsTextOf text config entries
  pub says : SaysOf config entries why

-- the text is the beginning of a record's text, and the error says this about the record's entries
pub record IsBlamedCut (text : List ℕ) (why : ProgramError) : Type 0 where
  pub config : BusConfig
  pub entries : List Entry
  pub front : IsFrontOf text config entries
  pub says : SaysOf config entries why

-- what the error says about the text: it is not the text of a record, or the record is wrong. An error in reading or
-- lack of memory says nothing
abbrev pub Faults : List ℕ → ProgramError → Type 0
Faults text (fault.Record why) = Reads text (Err why)
Faults text fault.Read = Unit {0}
Faults text fault.NoMemory = Unit {0}
Faults text why = IsBlamed text why

-- what the error says about a text that may be cut off: a text that is not the text of a record is not the beginning of
-- a legal record's text either
abbrev pub FaultsWhole : List ℕ → ProgramError → Type 0
FaultsWhole text (fault.Record why) = FaultsUncut text why
FaultsWhole text why = Faults text why

-- what the error says about the text; the first argument says whether the text may be cut off
abbrev pub FaultsBy : Bool → List ℕ → ProgramError → Type 0
FaultsBy false text why = Faults text why
FaultsBy true text why = FaultsWhole text why ⊎ IsBlamedCut text why

-- the text consists of all bytes of the reader, if they are known
abbrev pub IsTextIn : Option (List ℕ) → List ℕ → Type 0
IsTextIn None text = Unit {0}
IsTextIn (Some all) text = text ≡ all

-- the reader's text was audited
abbrev pub AuditsBy : {W : Type 0} → Bool → Option Wanted → Option ℕ → Option (List ℕ) → (W → Option (List ℕ)) → W → W
    → Type 0
AuditsBy is_cut asked ifaces input contents old new =
    (text : List ℕ) × IsTextIn input text × IsAuditedBy is_cut asked ifaces text (contents old) (contents new)

-- the reader's text was audited as a whole record
abbrev pub Audits : {W : Type 0} → Option Wanted → Option ℕ → Option (List ℕ) → (W → Option (List ℕ)) → W → W → Type 0
Audits asked ifaces input contents old new = AuditsBy false asked ifaces input contents old new

-- the reader's text was audited as a record that may be cut off
abbrev pub AuditsCut : {W : Type 0} → Option Wanted → Option ℕ → Option (List ℕ) → (W → Option (List ℕ)) → W → W
    → Type 0
AuditsCut asked ifaces input contents old new = AuditsBy true asked ifaces input contents old new

-- what the error says about the reader's text
abbrev pub FaultsInput : Option (List ℕ) → ProgramError → Type 0
FaultsInput input why = (text : List ℕ) × IsTextIn input text × Faults text why

-- what the error in a line that ends with LF says about the reader's text
abbrev pub FaultsLine : Option (List ℕ) → ProgramError → Type 0
FaultsLine input why = (text : List ℕ) × IsTextIn input text × FaultsWhole text why

-- what the error says about the reader's text, which may be cut off
abbrev pub FaultsCut : Option (List ℕ) → ProgramError → Type 0
FaultsCut input why = (text : List ℕ) × IsTextIn input text × FaultsBy true text why

-- the bus in the reader's text does not have the wanted number of interfaces
abbrev pub IsOfOtherBus : Option ℕ → Option (List ℕ) → ProgramError → Type 0
IsOfOtherBus (Some n) input fault.OtherBus =
    (text : List ℕ) × IsTextIn input text × (c : BusConfig) × HasBus text c × (c.ifaces ≢ n)
IsOfOtherBus ifaces input why = ⊥

-- with events, writing may fail before all of the text is read; this error says nothing about the text
abbrev pub StopsEvents : Bool → ProgramError → Type 0
StopsEvents false why = ⊥
StopsEvents true why = why ≡ fault.Write

-- an error in the argument or the file that names a run's faults, if there is one
abbrev pub IsOfRun : Option FaultsWord → ProgramError → Type 0
IsOfRun None why = ⊥
IsOfRun (Some word) why = IsOfFaults word why

-- an error for one of the files with these paths
abbrev pub IsOfFiles : List (List ℕ) → ProgramError → Type 0
IsOfFiles paths why = (path : List ℕ) × Contains paths path × IsOfFile path why

-- an error for one of the files with these paths, lack of memory, or an error in a text that the files may contain
abbrev pub FaultsFiles : Bool → List (List ℕ) → ProgramError → Type 0
FaultsFiles is_cut paths why = IsOfFiles paths why ⊎ ((text : List ℕ) × FaultsBy is_cut text why)

-- an error in the argument or the file of a run's faults, if the options name them
abbrev pub IsOfAsked : AuditOutput → ProgramError → Type 0
IsOfAsked writes.Count why = ⊥
IsOfAsked (writes.Events asked) why = IsOfRun asked.faults why

-- whether events were requested from an audit
abbrev pub asks_events : Option Wanted → Bool
asks_events None = false
asks_events (Some w) = true

-- whether the options request events
abbrev pub are_events : AuditOutput → Bool
are_events writes.Count = false
are_events (writes.Events asked) = true

-- the wanted parts of the lines; no parts are added if events were not requested
abbrev pub wanted_of : Option Wanted → Wanted
wanted_of asked = unwrap_or asked nothing_wanted

-- the requested output of an audit: `w`, or only the number of entries if the audit does not collect events
abbrev pub output_of : Wanted → Option EventsText → Option Wanted
output_of w None = None
output_of w (Some e) = Some w

-- these events were written; an audit without events does not change the writer
abbrev pub Puts : {W : Type 0} → Bool → (W → Option (List ℕ)) → W → W → List ℕ → Type 0
Puts false contents old new events = new ≡ old
Puts true contents old new events = Appends (contents old) (contents new) events

-- a file error or lack of memory, which stopped the reading of a text
abbrev pub IsUnread : ProgramError → Type 0
IsUnread (fault.CannotOpen path) = Unit {0}
IsUnread fault.Read = Unit {0}
IsUnread fault.NoMemory = Unit {0}
IsUnread (fault.Record read.NoMemory) = Unit {0}
IsUnread why = ⊥

-- the error for a text that has no events: its first or its second line is invalid, its bus is not the wanted one, or
-- the text was not read that far
abbrev pub HasNoEvents : List ℕ → ProgramError → Type 0
HasNoEvents text (fault.Record read.BadVersion) = LacksFront text
HasNoEvents text (fault.Record (read.BadLine n)) = (n ≡ 2) × LacksFront text
HasNoEvents text fault.OtherBus = Unit {0}
HasNoEvents text why = IsUnread why

-- the entry or the line that an error may name. A wrong entry is the one after the entries with events. An invalid line
-- is the line after all entries, or the line after the entries and the end line. A text with a bus that is not the
-- wanted one has no events
abbrev pub IsFaultAfter : ProgramError → (all count : ℕ) → Type 0
IsFaultAfter (fault.WrongEntry k) all count = count ≡ k
IsFaultAfter (fault.Record (read.BadLine n)) all count = (n ≡ all + 3) ⊎ (n ≡ all + 4)
IsFaultAfter fault.OtherBus all count = ⊥
IsFaultAfter why all count = Unit {0}

-- the text begins like the record of a bus with this many interfaces. All its entries were read, or those before a file
-- error or lack of memory. The events and the other wanted lines were written: for the entries before the first wrong
-- entry, or for all entries that were read
pub record IsFrontWritten (w : Wanted) (ifaces : Option ℕ) (text : List ℕ) (why : ProgramError)
    (old new : Option (List ℕ)) : Type 0 where
  pub version : Version
  pub config : BusConfig
  pub entries : List Entry
  pub rest : List ℕ
  pub count : ℕ
  pub good : HasLines version config entries
  pub begins : text ≡ front_lines version config (entry_lines entries rest)
  pub all : IsUnread why ⊎ LacksEntry version config rest
  pub legal : IsLegal config (before entries count)
  pub last : (count ≡ length entries) ⊎ IsFirstWrongEntry config entries count
  pub named : HasIfaces ifaces config
  pub names : IsFaultAfter why (length entries) count
  pub wrote : Appends old new (events_front w version config (before entries count))

-- the output after an error in the reader's text. An audit without events wrote nothing. An audit with events wrote the
-- events of the legal entries before the error, for a bus with this many interfaces. It wrote no events only if the
-- text does not begin like the record of such a bus, or was not read that far
abbrev pub LeavesFront : {W : Type 0} → Option Wanted → Option ℕ → Option (List ℕ) → ProgramError
    → (W → Option (List ℕ)) → W → W → Type 0
LeavesFront None ifaces input why contents old new = new ≡ old
LeavesFront (Some w) ifaces input why contents old new =
    (text : List ℕ) × IsTextIn input text
    × ((HasNoEvents text why × Appends (contents old) (contents new) [])
    ⊎ IsFrontWritten w ifaces text why (contents old) (contents new))

-- the output after any error; after an error in writing the output is not known
abbrev pub Leaves : {W : Type 0} → Option Wanted → Option ℕ → Option (List ℕ) → ProgramError
    → (W → Option (List ℕ)) → W → W → Type 0
Leaves asked ifaces input why contents old new =
    (why ≡ fault.Write) ⊎ LeavesFront asked ifaces input why contents old new

-- the output after an error in an audit of files. Nothing was written if the error is in the run's faults that the
-- options name. After any other error the output is as `Leaves` says, with the names that the options contain
abbrev pub LeavesFiles : {W : Type 0} → AuditOutput → ProgramError → (W → Option (List ℕ)) → W → W → Type 0
LeavesFiles output why contents old new =
    (IsOfAsked output why × (new ≡ old))
    ⊎ ((asked : Option Wanted) × IsAskedBy output asked
    × Leaves asked (ifaces_named output) None why contents old new)

-- the audit took the lines of the reader's text, up to the bytes after the last LF, and the events of the lines were
-- written
pub record IsInputTaken {W : Type 0} (w : Wanted) (input : Option (List ℕ)) (audit : TextAudit) (torn : List ℕ)
    (contents : W → Option (List ℕ)) (old new : W) : Type 0 where
  pub lines : List ℕ
  pub events : List ℕ
  pub is_text : IsTextIn input (lines ++ torn)
  pub written : HasWritten w lines events audit
  pub none_held : held_events audit.events ≡ []
  pub put : Puts (has_events audit.events) contents old new events
  pub unended : EndsNoLine torn

-- the audit takes these lines after the lines that it has already taken
abbrev pub TakesMore : TextAudit → List ℕ → TextAudit → Type 0
TakesMore before lines after =
    (w : Wanted) (text events : List ℕ) → HasWritten w text events before → HasWritten w (text ++ lines) events after

-- the audit took the bytes after the last LF as its last line, if there are such bytes
abbrev pub TakesLast : TextAudit → List ℕ → TextAudit → Type 0
TakesLast before torn after = TakesMore before torn after

-- the bytes after the last LF are not a valid last line
abbrev pub FaultsLast : TextAudit → List ℕ → ProgramError → Type 0
FaultsLast audit torn why = (lines : List ℕ) → AreTaken lines audit → Faults (lines ++ torn) why

-- the bytes begin with a line that is invalid after the lines that were taken, whatever follows this line
pub record BeginsWrong (audit : TextAudit) (next : List ℕ) (why : ReadFault) : Type 0 where
  pub line : List ℕ
  pub rest : List ℕ
  pub begins : next ≡ line ++ rest
  pub is_line : IsLine line
  pub ended : EndsLine line
  pub wrong : FailsNext AreTaken audit line why

-- an audit that did not know its record's bus before still does not know it
abbrev pub StaysUnknown : TextAudit → TextAudit → Type 0
StaysUnknown before after = bus_taken before.phase ≡ None → bus_taken after.phase ≡ None

-- the audit holds the events of these lines, which do not include the line that describes the bus, and found an error
-- in the bytes after them
abbrev pub HoldsBefore : TextAudit → (lines next : List ℕ) → ReadFault → TextAudit → Type 0
HoldsBefore before lines next why after =
    (last : TextAudit) × TakesMore before lines last × StaysUnknown before last
    × (has_events last.events ≡ has_events before.events)
    × (held_events after.events ≡ held_events last.events) × BeginsWrong last next why

-- the bytes begin with complete lines that are invalid after the lines that were taken, whatever follows these lines
pub record IsWrongNext (audit : TextAudit) (next : List ℕ) (why : ReadFault) : Type 0 where
  pub lines : List ℕ
  pub rest : List ℕ
  pub begins : next ≡ lines ++ rest
  pub ended : EndsLine lines
  pub wrong : (w : Wanted) (text events after : List ℕ) → HasWritten w text events audit
      → Reads (text ++ (lines ++ after)) (Err why)

-- the error in a line, an error in reading, or lack of memory
abbrev pub IsOfLine : ReadFault → ProgramError → Type 0
IsOfLine what why = (why ≡ fault.Record what) ⊎ IsOfReading why

-- the error in some line
abbrev pub IsOfSomeLine : ProgramError → Type 0
IsOfSomeLine why = (what : ReadFault) × IsOfLine what why

-- the remaining bytes of the reader may follow the line, if these bytes are known
abbrev pub IsBefore : Option (List ℕ) → List ℕ → Option (List ℕ) → Type 0
IsBefore (Some all) line (Some rest) = MayFollow line rest
IsBefore _ line _ = Unit {0}

-- the next line was read
pub record IsRead (old new : Option (List ℕ)) (line : List ℕ) : Type 0 where
  pub is_line : IsLine line
  pub ended : EndsLine line
  pub consumed : Consumes old new line
  pub before : IsBefore old line new

-- the next line was read, or the remaining bytes, which contain no LF
abbrev pub IsNextLine : Bool → Option (List ℕ) → Option (List ℕ) → List ℕ → Type 0
IsNextLine true old new line = IsRead old new line
IsNextLine false old new line = IsTextIn old line × EndsNoLine line

-- the lines of a text were read and taken, and these events of the lines were cleared from the audit
pub record IsUnderway (w : Wanted) (first now : Option (List ℕ)) (audit : TextAudit) (events : List ℕ) : Type 0 where
  pub text : List ℕ
  pub consumed : Consumes first now text
  pub written : HasWritten w text events audit

-- the lines of a text were read and taken, and their events were written
pub record IsPut {W : Type 0} (w : Wanted) (first now : Option (List ℕ)) (audit : TextAudit)
    (contents : W → Option (List ℕ)) (old new : W) : Type 0 where
  pub events : List ℕ
  pub underway : IsUnderway w first now audit events
  pub put : Puts (has_events audit.events) contents old new events

-- the reader and the audit advanced by complete lines, which follow the lines that were taken before
abbrev pub AuditGoesOn : Option (List ℕ) → Option (List ℕ) → TextAudit → TextAudit → Type 0
AuditGoesOn old new before after =
    (w : Wanted) (first : Option (List ℕ)) (events : List ℕ) (u : IsUnderway w first old before events)
    → (on : IsUnderway w first new after events) × (more : List ℕ) × (on.text ≡ u.text ++ more)

-- the remaining bytes of the reader, which follow the lines that were taken, have this error
abbrev pub IsAtFault : Option (List ℕ) → TextAudit → ReadFault → Type 0
IsAtFault now audit why =
    (w : Wanted) (first : Option (List ℕ)) (events : List ℕ) → IsUnderway w first now audit events
    → (text : List ℕ) × IsTextIn first text × FaultsUncut text why

-- the remaining bytes of the reader are these, if the reader's bytes are known
abbrev pub IsLeft : Option (List ℕ) → Option (List ℕ) → List ℕ → Type 0
IsLeft (Some all) (Some rest) left = rest ≡ left
IsLeft _ _ left = Unit {0}

-- the reader and the audit advanced by the lines before an error; the line that describes the bus is not among them,
-- and the audit holds their events
abbrev pub AuditStopsAfter : Option (List ℕ) → Option (List ℕ) → TextAudit → ReadFault → TextAudit → Type 0
AuditStopsAfter old new before why after =
    (last : TextAudit) × AuditGoesOn old new before last × StaysUnknown before last
    × (has_events last.events ≡ has_events before.events)
    × (held_events after.events ≡ held_events last.events)
    × ((left : List ℕ) × IsLeft old new left × BeginsWrong last left why)

-- the effect of taking the lines that the reader had buffered, for each result
abbrev pub BecomesOf : Buffered → Option (List ℕ) → Option (List ℕ) → TextAudit → TextAudit → Type 0
BecomesOf held.End old new before after = IsAtEnd old × (after ≡ before)
BecomesOf held.Lines old new before after = AuditGoesOn old new before after
BecomesOf (held.Wrong why) old new before after = IsAtFault old before why × AuditStopsAfter old new before why after

-- a wrong entry can be written as a line, and so can its event with the legal reply
pub record FitsLines (w : WrongLine) : Type 0 where
  pub entry : FitsReply w.entry.event w.entry.reply
  pub legal : (r : Reply) → w.legal ≡ Some r → FitsReply w.entry.event r

-- the error in the text can be reported
abbrev pub HasNote : TextFault → Type 0
HasNote (found.Read why) = Unit {0}
HasNote (found.Wrong w) = FitsLines w

-- the last line of the audit of a legal record with this many entries; the first argument says whether the audit
-- collects events
abbrev pub last_line : Bool → ℕ → List ℕ
last_line false count = entries_line count
last_line true count = end_line count

-- the last line of the audit of a record that is cut off after this many entries
abbrev pub last_cut_line : Bool → ℕ → List ℕ
last_cut_line false count = cut_record_line count
last_cut_line true count = cut_end_line count

-- the last lines about rules and the last line of the audit of a legal record were written
abbrev pub IsWritten : Bool → List ℕ → Result ℕ TextFault → Option (List ℕ) → Option (List ℕ) → Type 0
IsWritten events rules (Ok count) old new = Appends old new (rules ++ last_line events count)
IsWritten events rules (Err why) old new = ⊥

-- the last lines about rules and the last line of the audit of a record that may be cut off were written
abbrev pub IsCutWritten : Bool → List ℕ → Result Cut TextFault → Option (List ℕ) → Option (List ℕ) → Type 0
IsCutWritten events rules (Ok (cut.Whole count)) old new = Appends old new (rules ++ last_line events count)
IsCutWritten events rules (Ok (cut.Off count)) old new = Appends old new (rules ++ last_cut_line events count)
IsCutWritten events rules (Err why) old new = ⊥

-- the error reports what is wrong with the text
abbrev pub IsToldFault : TextFault → ProgramError → Type 0
IsToldFault (found.Read what) why = why ≡ fault.Record what
IsToldFault (found.Wrong w) why = why ≡ fault.WrongEntry w.place

-- the error reports what is wrong with the text; if nothing is wrong, it is an error in writing
abbrev pub IsTold : {A : Type 0} → Result A TextFault → ProgramError → Type 0
IsTold (Ok count) why = why ≡ fault.Write
IsTold (Err what) why = IsToldFault what why

-- the bus of the text has this many interfaces, if the bus is known
abbrev pub FitsBus : Option ℕ → Option BusConfig → Type 0
FitsBus ifaces None = Unit {0}
FitsBus ifaces (Some c) = HasIfaces ifaces c

-- the error reports that the bus does not have this number of interfaces
abbrev pub IsOtherBus : Option ℕ → Option BusConfig → ProgramError → Type 0
IsOtherBus (Some n) (Some c) why = (why ≡ fault.OtherBus) × (c.ifaces ≢ n)
IsOtherBus _ _ why = ⊥
