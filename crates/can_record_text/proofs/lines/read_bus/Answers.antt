use Rattle.std.proofs.Common.{◌≡◌, ◌++◌, ◌∙◌, IsTrue, Bool, true, false, [], ap, sym, subst, List, ℕ}
use Rattle.can_event.specs.declared.bus_config.BusConfig.{BusConfig}
use Rattle.can_record_text.specs.Spelling.{spell, bus_words}
use Rattle.can_record_text.specs.Values.{HasBusLine}
use Rattle.can_record_text.proofs.Again.{config_refused, same_config, spell-rest, kept}
use Rattle.can_record_text.proofs.lines.read_bus.Goals as goal

never : (b : Bool) → IsTrue b → b ≡ false → ⊥
never true h e = absurd cc
never false h e = absurd cc

pub returns-in_default-clause-bad : goal.returns-in_default-clause-bad
returns-in_default-clause-bad c = λ bad d rest good is. absurd (config_refused c.args.version c.args.text.now c.in_default.ensures d rest good is)

pub returns-then-not-has_bus_line-clause-bad : goal.returns-then-not-has_bus_line-clause-bad
returns-then-not-has_bus_line-clause-bad c = λ bad d rest good is.
    let h : IsTrue c.has_bus_line.result = c.has_bus_line.ensures.no (subst (HasBusLine c.args.version) (same_config c.args.version c.in-Some.config c.args.text.now c.in-Some.ensures d rest good is) good) in
    absurd (never c.has_bus_line.result h c.if-not-has_bus_line.true)

pub returns-then-not-begins-clause-bad : goal.returns-then-not-begins-clause-bad
returns-then-not-begins-clause-bad c = λ bad d rest good is.
    let same : d ≡ c.in-Some.config = same_config c.args.version c.in-Some.config c.args.text.now c.in-Some.ensures d rest good is in
    let written : c.deref.result.now ≡ spell (bus_words c.args.version d) [] = c.deref.ensures.value
    ∙ kept c.clear.new.self.items c.put_bus.new.out.items (spell (bus_words c.args.version c.in-Some.config) []) c.clear.ensures.items c.in-Ok.ensures
    ∙ ap (λ (x : BusConfig). spell (bus_words c.args.version x) []) (sym same) in
    let h : IsTrue c.begins.result = c.begins.ensures.no rest (is ∙ sym (spell-rest (bus_words c.args.version d) rest) ∙ ap (λ (x : List ℕ). x ++ rest) (sym written)) in
    absurd (never c.begins.result h c.if-not-begins.true)
