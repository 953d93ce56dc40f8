use Rattle.std.specs.Prelude.{◌≡◌, ℕ, false, List, [], length, reverse, All, IfSome, IsSome, Option, Some, None}
use Rattle.std.specs.List.{AllZip}
use Rattle.std.specs.declared.fs.File.{File}
use Rattle.can_event.specs.declared.bus_config.BusConfig.{BusConfig}
use Rattle.can_event.specs.declared.entry.Entry.{Entry}
use Rattle.can_bus.specs.Long.{LongJournal, journal_of}
use Rattle.can_fault.specs.declared.fault_source.Perfect.{Perfect}
use Rattle.can_hub.specs.declared.bench.Bench.{Bench}
use Rattle.can_hub.specs.Buses.{BusSeen}
use Rattle.can_hub.specs.Settling.{AreNewScrolls}
use Rattle.can_logfile.specs.Log.{joined, log_lines}
use Rattle.can_roll.specs.Seen.{ScrollSeen}
use Rattle.can_station.specs.declared.gate.Open.{Open}
use Rattle.can_station.specs.declared.pass.Settled.{Settled}
use Rattle.can_record_text.specs.Spelling.{entry_lines, text_in}
use Rattle.can_record_text.specs.declared.version.Version.TheVariants as version
use Rattle.canbusd_io.specs.Live.{MayGet, whole_contents}
use Rattle.canbusd_io.specs.LiveLines.{LogHas, RecordHas}
use Rattle.canbusd_io.specs.declared.live.LiveText.{LiveText}
use Rattle.canbusd_options.specs.declared.recording.Recording.TheVariants as recording
use Rattle.canbusd_options.specs.declared.serve_options.ServeOptions.{ServeOptions}
use Rattle.canbusd_serve.specs.Served.{Serves, journals}
use Rattle.canbusd_serve.specs.declared.live_files.LiveFiles.{LiveFiles}
use Rattle.canbusd_serve.specs.declared.serve_job.Run.{Run}

-- The buses of long runs and their files.

-- there is a scroll for each of these buses, and no entries were handed out to it yet
abbrev pub HasNewScrolls : List BusSeen → List ScrollSeen → Type 0
HasNewScrolls buses scrolls = AreNewScrolls 0 scrolls × (length scrolls ≡ length buses)

-- the text is still open, if it is wanted
abbrev pub IsTextOpen : {F B : Type 0} → Option (LiveText F B) → Type 0
IsTextOpen wanted = IfSome wanted (λ t. IsSome t.file.out)

-- an open record ends only if an error in the files is noted; a noted error is never forgotten
abbrev pub RecordStays : {F : Type 0} → LiveFiles F → LiveFiles F → Type 0
RecordStays old new =
    new.has_fault ≡ false → (old.has_fault ≡ false) × (IsTextOpen old.record → IsTextOpen new.record)

-- an open log ends only if an error in the files is noted; a noted error is never forgotten
abbrev pub LogStays : {F : Type 0} → LiveFiles F → LiveFiles F → Type 0
LogStays old new = new.has_fault ≡ false → (old.has_fault ≡ false) × (IsTextOpen old.log → IsTextOpen new.log)

-- these lines are appended to the text, if the text is wanted; the text still belongs to the same bus
abbrev pub TextGets : {F B : Type 0} → (F → Option (List ℕ)) → (B → List ℕ) → Option (LiveText F B)
    → Option (LiveText F B) → Type 0
TextGets contents lines None new = new ≡ None
TextGets contents lines (Some old) None = ⊥
TextGets contents lines (Some old) (Some new) =
    (new.start ≡ old.start)
    × (new.bus ≡ old.bus)
    × MayGet (whole_contents contents) old.file.out new.file.out (lines old.bus)

-- the text is appended to the record, if the record is wanted
abbrev pub RecordGets : {F : Type 0} → (F → Option (List ℕ)) → Option (LiveText F BusConfig) → List ℕ
    → Option (LiveText F BusConfig) → Type 0
RecordGets contents old text new = TextGets contents (λ config. text) old new

-- the lines of the frames that were tried in these entries are appended to the log, if the log is wanted
abbrev pub LogGets : {F : Type 0} → (F → Option (List ℕ)) → Option (LiveText F (List (List ℕ))) → List Entry
    → Option (LiveText F (List (List ℕ))) → Type 0
LogGets contents old entries new = TextGets contents (λ names. joined (log_lines names (reverse entries))) old new

-- the files of a bus contain the lines of these entries and no others, if the files are wanted and still open; they end
-- only if an error is noted
pub record HaveLines {F : Type 0} (contents : F → Option (List ℕ)) (entries : List Entry)
    (files : LiveFiles F) : Type 0 where
  pub recorded : IfSome files.record (λ r. RecordHas contents r (entry_lines entries []))
  pub logged : IfSome files.log (λ l. LogHas contents l entries)
  pub going : files.has_fault ≡ false → IsTextOpen files.record × IsTextOpen files.log

-- the files of each bus contain the lines of the entries that were handed out to its scroll
abbrev pub AllGiven : {F : Type 0} → (F → Option (List ℕ)) → List (LiveFiles F) → List ScrollSeen → Type 0
AllGiven contents files scrolls = AllZip (λ f scroll. HaveLines contents scroll.entries f) files scrolls

-- each of these buses has its passes and its scroll, and its files contain the lines of the entries handed out to the
-- scroll
pub record IsRunOf {N : Type 0} (contents : File → Option (List ℕ)) (buses : List BusSeen)
    (run : Run N) : Type 0 where
  pub passes : length run.passes.items ≡ length buses
  pub scrolls : length run.scrolls.items ≡ length buses
  pub given : AllGiven contents run.files.items run.scrolls.items

-- the files of each bus contain the lines of the first entries of its final history: the entries that were handed out
abbrev pub AllGivenFirst :
    {F L : Type 0} → (F → Option (List ℕ)) → (L → List Entry) → List (LiveFiles F) → List (Settled L) → Type 0
AllGivenFirst contents handed files settled = AllZip (λ f s. HaveLines contents (handed s.history) f) files settled

-- the files of each bus contain no lines of entries
abbrev pub AreBegun : {F : Type 0} → (F → Option (List ℕ)) → List (LiveFiles F) → Type 0
AreBegun contents all = All (λ files. HaveLines contents [] files) all

-- each of these buses has files, which contain no lines of entries
abbrev pub HasFiles : {F : Type 0} → (F → Option (List ℕ)) → List BusSeen → List (LiveFiles F) → Type 0
HasFiles contents buses files = AreBegun contents files × (length files ≡ length buses)

-- the record of a bus is the text of this history, and the log contains the lines of all frames that were tried in the
-- history, if these files are wanted and still open; they end only if an error is noted
pub record AreWhole {F : Type 0} (contents : F → Option (List ℕ)) (history : List Entry)
    (files : LiveFiles F) : Type 0 where
  pub recorded : IfSome files.record (λ r.
      MayGet (whole_contents contents) r.start.value.out r.file.out (text_in version.Four r.bus history))
  pub logged : IfSome files.log (λ l. LogHas contents l history)
  pub going : files.has_fault ≡ false → IsTextOpen files.record × IsTextOpen files.log

-- the files of each bus contain the bus's whole final history
abbrev pub AreAllWhole :
    {F : Type 0} → (F → Option (List ℕ)) → List (LiveFiles F) → List (Settled LongJournal) → Type 0
AreAllWhole contents files settled = AllZip (λ f s. AreWhole contents (reverse s.history.history) f) files settled

-- the files of a bus that the options request exist, and no error is noted. If the options name a folder, there is a
-- log, and a record if the record is written during the run
pub record AreThere {F : Type 0} (o : ServeOptions) (files : LiveFiles F) : Type 0 where
  pub faultless : files.has_fault ≡ false
  pub logged : IsSome o.folder → IsSome files.log
  pub recorded : IsSome o.folder → o.recording ≡ recording.Live → IsSome files.record

-- the files of each bus exist, and no error is noted
abbrev pub AreAllThere : {F : Type 0} → ServeOptions → List (LiveFiles F) → List (Settled LongJournal) → Type 0
AreAllThere o files settled = AllZip (λ f s. AreThere o f) files settled

-- a server of long runs succeeded: its buses left these files, which exist and contain the whole history
pub record ServesFiles {W F : Type 0} (contents : W → Option (List ℕ)) (kept : F → Option (List ℕ)) (o : ServeOptions)
    (benches : List (Bench Perfect Open)) (old new : W) (files : List (LiveFiles F)) : Type 0 where
  pub serves : Serves contents o benches old new
  pub settled : List (Settled LongJournal)
  pub ends : serves.ends ≡ journals journal_of settled
  pub whole : AreAllWhole kept files settled
  pub there : AreAllThere o files settled
