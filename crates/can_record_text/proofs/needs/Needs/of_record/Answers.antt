use Rattle.std.proofs.Common.{◌∙◌, ap, reverse, sym, take}
use Rattle.std.specs.Option.{option_map}
use Rattle.can_record.specs.StoredEntry.{entry_stored}
use Rattle.can_record_text.specs.declared.needs.Needs.{Needs}
use Rattle.can_record_text.specs.Spelling.{all_needs, both_needs}
use Rattle.can_record_text.proofs.Versioning.{needs_more}
use Rattle.can_record_text.proofs.needs.Needs.of_record.Goals as goal

pub loop-place-preserved : goal.loop-place-preserved
loop-place-preserved c =
    let there = sym c.stored.ensures.entry ∙ ap (option_map entry_stored) c.unwrap-stored.ensures in
    let es = reverse c.args.record.now.history in
    c.and-needs.ensures
    ∙ ap (λ (n : Needs). both_needs n c.of_stored.result) c.loop-place.invariant
    ∙ ap (λ (n : Needs). both_needs (all_needs (take c.loop-place.place es)) n) c.of_stored.ensures
    ∙ sym (needs_more es c.loop-place.place (entry_stored c.unwrap-stored.result) there)
