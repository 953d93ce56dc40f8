use Rattle.std.proofs.Common.{◌≡◌, ◌+◌, ℕ, true, length, drop, Err, sym, ap, ◌∙◌, lit<, arith}
use Rattle.std.specs.List.{list_all}
use Rattle.std.specs.Option.{option_map_or}
use Rattle.std.proofs.lemmas.List.{length_push, at_drop_all}
use Rattle.std.proofs.lemmas.Iterator.Consumers.{YieldsList-turn, YieldsList-end}
use Rattle.std.proofs.lemmas.Iterator.Splits.{YieldsList-from_str_split}
use Rattle.can_frame.specs.Names.{names_in, is_name}
use Rattle.can_fault.specs.declared.script_lines.LineFault.TheVariants.{UnknownInterface}
use Rattle.can_fault.proofs.NamedSets.{added, added-turn, with_iface, set_spelling-added}
use Rattle.can_fault.proofs.script_lines.read_set.Goals as goal

pub returns-in_default : goal.returns-in_default
returns-in_default c =
    let names = c.args.names.now in
    let pieces = names_in c.args.list.now in
    let n = length c.loop-name.yielded in
    let t = YieldsList-turn (YieldsList-from_str_split 44 c.args.list.now (lit< tt) (cc) (cc) (cc)) c.loop-name.yielded _ c.loop-name.yielded_by _ _ c.in-Some.name c.in-Some.is c.next.ensures.steps in
    let good : list_all is_name pieces ≡ true = sym c.are_good.ensures ∙ c.if-not-are_good.false in
    sym (set_spelling-added names c.args.list.now good
    ∙ c.loop-name.invariant
    ∙ added-turn names pieces c.loop-name.set n c.in-Some.name.now t
    ∙ ap (λ o. option_map_or (λ i. added names (with_iface c.loop-name.set i) (drop (n + 1) pieces)) o (Err UnknownInterface)) (sym c.in_default.ensures.place))

pub loop-name-preserved : goal.loop-name-preserved
loop-name-preserved c =
    let names = c.args.names.now in
    let pieces = names_in c.args.list.now in
    let n = length c.loop-name.yielded in
    let t = YieldsList-turn (YieldsList-from_str_split 44 c.args.list.now (lit< tt) (cc) (cc) (cc)) c.loop-name.yielded _ c.loop-name.yielded_by _ _ c.in-Some.name c.in-Some.is c.next.ensures.steps in
    c.loop-name.invariant
    ∙ added-turn names pieces c.loop-name.set n c.in-Some.name.now t
    ∙ ap (λ o. option_map_or (λ i. added names (with_iface c.loop-name.set i) (drop (n + 1) pieces)) o (Err UnknownInterface)) (sym c.in-Some-find.ensures.place)
    ∙ ap (λ (k : ℕ). added names (record { 0 = k }) (drop (n + 1) pieces)) (sym c.with-set.ensures)
    ∙ ap (λ (k : ℕ). added names c.with-set.result (drop k pieces)) (sym (length_push c.loop-name.yielded c.in-Some.name))

pub returns : goal.returns
returns c =
    let pieces = names_in c.args.list.now in
    let t = YieldsList-end (YieldsList-from_str_split 44 c.args.list.now (lit< tt) (cc) (cc) (cc)) c.loop-name.yielded _ c.loop-name.yielded_by _ _ c.in-None.is c.next.ensures.steps in
    let good : list_all is_name pieces ≡ true = sym c.are_good.ensures ∙ c.if-not-are_good.false in
    sym (set_spelling-added c.args.names.now c.args.list.now good ∙ c.loop-name.invariant ∙ at_drop_all (added c.args.names.now c.loop-name.set) pieces (length c.loop-name.yielded) (omega (arith, t.1)))
