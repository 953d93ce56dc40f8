use Rattle.std.proofs.Common.{◌≡◌, None, Some, Ok, Err, refl, sym, ap, ◌∙◌, subst}
use Rattle.std.specs.Prelude.{IsTrue, [], ◌∷◌}
use Rattle.std.specs.Ordering.{nat_cmp}
use Rattle.std.specs.FinMap.{from_entries}
use Rattle.can_fault.specs.Scripts.{Saying, line_spelling, line_after, takes_memory, TakesLine}
use Rattle.can_fault.proofs.Sayings.{line_after-kept, line_after-repeated, TakesLine-at_line}
use Rattle.can_fault.proofs.script.Script.take_line.Goals as goal

pub returns : goal.returns
returns c =
    let entry = c.in-Ok-Some.entry in
    let said : Ok (Some entry) ≡ line_spelling c.args.names.now c.args.line.now = cc in
    ap (λ known. line_after known c.args.number (line_spelling c.args.names.now c.args.line.now)) (sym c.self.view_is)
    ∙ ap (λ (s : Saying). line_after (from_entries {R = nat_cmp} c.self.inside.verdicts.entries) c.args.number s) (sym said)
    ∙ line_after-kept c.self.inside.verdicts c.insert.new.self c.args.number entry.0 entry.1 (sym c.in-Ok-None-insert.field-0-is ∙ c.in-Ok-None-insert.ensures.old) c.in-Ok-None-insert.ensures.updates

pub returns-in-Ok-None : goal.returns-in-Ok-None
returns-in-Ok-None c =
    let said : Ok None ≡ line_spelling c.args.names.now c.args.line.now = ap Ok (sym c.in-Ok-None.field-0-is) ∙ c.in-Ok-None.ensures in
    ap (λ (s : Saying). line_after c.args.self.now c.args.number s) (sym said)

pub returns-in-Err : goal.returns-in-Err
returns-in-Err c =
    let fault = c.in-Err.fault in
    let said : Err fault ≡ line_spelling c.args.names.now c.args.line.now = sym c.in-Err.is ∙ c.read_line.ensures in
    subst (λ (s : Saying). TakesLine s c.args.number c.args.self.now (Err c.at.result) c.args.self.now) said
    (subst (λ e. TakesLine (Err fault) c.args.number c.args.self.now (Err e) c.args.self.now) (sym c.at.ensures) (TakesLine-at_line c.args.self.now c.args.self.now c.args.number fault))

pub returns-in-Ok-Some-insert : goal.returns-in-Ok-Some-insert
returns-in-Ok-Some-insert c =
    let entry = c.in-Ok-Some.entry in
    let said : Ok (Some entry) ≡ line_spelling c.args.names.now c.args.line.now = cc in
    ap (λ known. line_after known c.args.number (line_spelling c.args.names.now c.args.line.now)) (sym c.self.view_is)
    ∙ ap (λ (s : Saying). line_after (from_entries {R = nat_cmp} c.self.inside.verdicts.entries) c.args.number s) (sym said)
    ∙ line_after-repeated c.self.inside.verdicts c.args.number entry.0 c.in-Ok-Some-insert.field-0-0 entry.1 (sym c.in-Ok-Some-insert.field-0-is ∙ c.in-Ok-Some-insert.ensures.old)

pub returns-in-Err-insert : goal.returns-in-Err-insert
returns-in-Err-insert c =
    let said : Ok (Some c.in-Ok-Some.entry) ≡ line_spelling c.args.names.now c.args.line.now = cc in
    subst (λ (s : Saying). IsTrue (takes_memory (s ∷ []))) said refl
