use Rattle.std.proofs.Common.{◌∙◌, ap, sym, take}
use Rattle.std.proofs.lemmas.List.{take_all}
use Rattle.can_record_text.specs.declared.needs.Needs.{Needs}
use Rattle.can_record_text.specs.Spelling.{all_needs, both_needs, needs_of}
use Rattle.can_record_text.proofs.Versioning.{needs_at}
use Rattle.can_record_text.proofs.needs.Needs.of_entries.Goals as goal

pub loop-entry-preserved : goal.loop-entry-preserved
loop-entry-preserved c =
    let es = c.args.entries.now in
    let k = c.loop-entry.entry-index in
    c.and-needs.ensures
    ∙ ap (λ (n : Needs). both_needs n c.of.result) c.loop-entry.invariant
    ∙ ap (λ (n : Needs). both_needs (all_needs (take k es)) n) (c.of.ensures ∙ ap needs_of c.entry-item.is)
    ∙ sym (needs_at es k c.entry-item.result c.loop-entry-test.true)

pub returns : goal.returns
returns c = c.loop-entry.invariant ∙ ap all_needs (take_all c.loop-entry.entry-index c.args.entries.now c.loop-entry-test.false)
