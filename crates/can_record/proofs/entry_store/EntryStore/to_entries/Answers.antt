use Rattle.std.proofs.Common.{◌≡◌, ℕ, ◌+◌, List, [], ◌∷◌, ◌++◌, take, slice_get, Some, add-one, arith, sym, ap, ◌∙◌}
use Rattle.std.proofs.Math.Seq.{take-suc}
use Rattle.std.proofs.lemmas.Option.{slice_get_within, get_or_from_slice_get}
use Rattle.can_event.specs.declared.entry.Entry.{Entry}
use Rattle.std.specs.Option.{option_map}
use Rattle.can_record.specs.StoredEntry.{entry_stored}
use Rattle.can_record.specs.EntryStore.{entries_in}
use Rattle.can_record.proofs.entry_store.EntryStore.to_entries.Goals as goal

-- one more entry is copied
one_more : (es copies new : List Entry) (k : ℕ) (e : Entry) → copies ≡ take k es → slice_get es k ≡ Some e → new ≡ copies ++ e ∷ [] → new ≡ take (k + 1) es
one_more es copies new k e before here is =
    let more : take (k + 1) es ≡ take k es ++ e ∷ [] = rw add-one (take-suc es k e (slice_get_within es k e here) ∙ ap (λ (x : Entry). take k es ++ x ∷ []) (get_or_from_slice_get es k e e here)) in
    is ∙ ap (λ (l : List Entry). l ++ e ∷ []) before ∙ sym more

pub loop-place-preserved : goal.loop-place-preserved
loop-place-preserved c =
    let here : slice_get (entries_in c.args.self.now) c.loop-place.place ≡ Some c.in_ok-entry.entry = sym c.stored.ensures.entry ∙ ap (option_map entry_stored) c.unwrap-stored.ensures ∙ ap Some (cc (c.of-seen.ensures, c.entry.ensures, c.in_ok-entry.ensures)) in
    (one_more (entries_in c.args.self.now) c.loop-place.copies.items _ c.loop-place.place c.in_ok-entry.entry c.loop-place.invariant.0 here c.add.ensures.items, omega arith)
