use Rattle.std.specs.Prelude.{ℕ, List, Option, reverse}
use Rattle.can_event.specs.declared.bus_config.BusConfig.{BusConfig}
use Rattle.can_event.specs.declared.entry.Entry.{Entry}
use Rattle.can_logfile.specs.Log.{joined, log_lines}
use Rattle.can_record_text.specs.Spelling.{front_lines}
use Rattle.can_record_text.specs.declared.version.Version.TheVariants as version
use Rattle.canbusd_io.specs.Live.{MayGet, whole_contents}
use Rattle.canbusd_io.specs.declared.live.LiveText.{LiveText}

-- The text that was written to the record and the log of a bus since they were opened, if they have not ended (own
-- choice).

-- the record contains its first two lines and then this text, unless it has ended
abbrev pub RecordHas : {F : Type 0} → (F → Option (List ℕ)) → LiveText F BusConfig → List ℕ → Type 0
RecordHas contents r rest =
    MayGet (whole_contents contents) r.start.value.out r.file.out (front_lines version.Four r.bus rest)

-- the log contains the lines for the frames that were tried in these entries, unless it has ended
abbrev pub LogHas : {F : Type 0} → (F → Option (List ℕ)) → LiveText F (List (List ℕ)) → List Entry → Type 0
LogHas contents l entries =
    MayGet (whole_contents contents) l.start.value.out l.file.out (joined (log_lines l.bus (reverse entries)))
