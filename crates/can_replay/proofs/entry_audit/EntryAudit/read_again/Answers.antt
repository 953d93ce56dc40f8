use Rattle.std.proofs.Common.{◌≡◌, List, ℕ, [], IfErr, IfOk, Result, Ok, Err, drop, length, refl, sym, ◌∙◌}
use Rattle.can_event.specs.declared.bus_config.BusConfig.{BusConfig}
use Rattle.can_event.specs.declared.entry.Entry.{Entry}
use Rattle.can_record_text.specs.declared.fault.Unread.{Unread}
use Rattle.can_record_text.specs.declared.fault.Unread.TheVariants as unread
use Rattle.can_record_text.specs.declared.version.Version.{Version}
use Rattle.can_record_text.specs.RecordFaults.{LacksEntry}
use Rattle.can_record_text.specs.Spelling.{entry_line, entry_words}
use Rattle.can_record_text.specs.Texts.{StartsWithEntry}
use Rattle.can_record_text.specs.Values.{HasLine}
use Rattle.can_record_text.proofs.Again.{spell-rest}
use Rattle.can_replay.specs.EventTexts.{IsReadAs}
use Rattle.can_replay.proofs.GoingOn.{one_line}
use Rattle.can_replay.proofs.entry_audit.EntryAudit.read_again.Goals as goal

read_as : (v : Version) (c : BusConfig) (line buffer : List ℕ) (e : Entry) (r : Result Entry Unread) → HasLine v c e → line ≡ entry_line e [] → IfOk r (StartsWithEntry v c line buffer) → IfErr r (λ why. why ≡ unread.Bad → LacksEntry v c line) → IsReadAs e r
read_as v c line buffer e (Ok read) good is found bad =
    let rest = drop (length (entry_line read [])) line in
    one_line v c read e rest [] found.good good (sym (spell-rest (entry_words read) rest) ∙ sym found.begins ∙ is)
read_as v c line buffer e (Err unread.NoMemory) good is found bad = refl
read_as v c line buffer e (Err unread.Bad) good is found bad = absurd (bad refl e [] good is)

pub returns : goal.returns
returns c e good is = read_as _ _ c.args.line.now _ e c.read_line.result good is c.read_line.ensures.found c.read_line.ensures.bad
