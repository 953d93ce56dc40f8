use Rattle.std.proofs.Common.{reverse, sym, ◌∙◌, subst, arith, length, ◌≤◌}
use Rattle.std.specs.Prelude.{All, List}
use Rattle.std.proofs.lemmas.List.{take_all, length-reverse}
use Rattle.std.proofs.lemmas.List.Elements.{All-more}
use Rattle.std.proofs.lemmas.Option.{slice_get_within, get_or_from_slice_get}
use Rattle.can_event.specs.declared.bus_config.BusConfig.{BusConfig}
use Rattle.can_event.specs.declared.entry.Entry.{Entry}
use Rattle.can_record_text.specs.declared.version.Version.TheVariants as version
use Rattle.can_record_text.specs.Values.{HasLine}
use Rattle.can_record_text.proofs.text_laws.hold_lines.Goals as goal

pub loop-place-preserved : goal.loop-place-preserved
loop-place-preserved c =
    let es = reverse c.args.kept.now.history in
    let k = c.loop-place.place in
    let e = c.unwrap-looked.result in
    let there = sym c.entry.ensures.entry ∙ c.unwrap-looked.ensures in
    All-more (HasLine version.Six c.config-config.result) es k e (slice_get_within es k e there) c.loop-place.invariant
    (subst (HasLine version.Six c.config-config.result) (c.entry-in-loop-place.ensures ∙ sym (get_or_from_slice_get es k e e there)) c.hold_line.ensures)

pub returns : goal.returns
returns c =
    let es = reverse c.args.kept.now.history in
    let short : length es ≤ c.loop-place.place = omega (arith, c.loop-place-test.false, c.len-place-end.ensures, length-reverse c.args.kept.now.history) in
    subst (λ (d : BusConfig). All (HasLine version.Six d) es) c.config-config.ensures.config
    (subst (λ (xs : List Entry). All (HasLine version.Six c.config-config.result) xs) (take_all c.loop-place.place es short) c.loop-place.invariant)
