use Rattle.std.proofs.Common.{◌≡◌, List, [], ◌∷◌, ◌++◌, All, sym, subst}
use Rattle.std.proofs.lemmas.List.Elements.{All-push}
use Rattle.can_event.specs.Spelled.{IsSpelled, IsRecord}
use Rattle.can_event.specs.declared.bus_config.BusConfig.{BusConfig}
use Rattle.can_event.specs.declared.entry.Entry.{Entry}
use Rattle.can_record.specs.EntryStore.{entries_in}
use Rattle.can_record.specs.Records.{PackedEntries}
use Rattle.can_record.specs.declared.entry_store.EntryStore.{EntryStore}
use Rattle.can_record.specs.declared.entry_store.EntryStore.TheVariants.{Packed}

-- the record of a bus stays a record if an entry that has a line is added at the end
pub still_record : (config now : BusConfig) (held : EntryStore) (packed : PackedEntries) (e : Entry) (new : List Entry) → config ≡ now → held ≡ Packed packed → IsRecord config (entries_in held) → IsSpelled now e → new ≡ packed.entries ++ e ∷ [] → IsRecord config new
still_record config now held packed e new same is r fits adds =
    let spelled : All (IsSpelled config) packed.entries = subst (λ (h : EntryStore). All (IsSpelled config) (entries_in h)) is r.spelled in
    let fits' : IsSpelled config e = subst (λ (k : BusConfig). IsSpelled k e) (sym same) fits in
    record { proper = r.proper; spelled = subst (All (IsSpelled config)) (sym adds) (All-push (IsSpelled config) packed.entries e spelled fits') }
