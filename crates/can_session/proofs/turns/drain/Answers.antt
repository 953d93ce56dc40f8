use Rattle.std.proofs.Common.{◌≡◌, ◌++◌, ℕ, List, [], suc, Bool, true, false, Err, refl, sym, subst, ap, ◌∙◌, append_assoc}
use Rattle.std.proofs.lemmas.List.{append-nil}
use Rattle.can_dialog.specs.declared.session.SessionFault.{SessionFault}
use Rattle.can_dialog.specs.declared.stage.Stage.{Stage}
use Rattle.can_dialog.specs.declared.stage.Stage.TheVariants.{Ended}
use Rattle.can_dialog.specs.Plans.{Plays}
use Rattle.can_dialog.specs.Turns.{delivery}
use Rattle.can_dialog.specs.Sessions.{SessionState}
use Rattle.can_session.specs.BusSteps.{BusStep}
use Rattle.can_session.proofs.turns.drain.Goals as goal

pub loop-preserved : goal.loop-preserved
loop-preserved c =
    let inv = c.loop.invariant in
    let one = c.in-Ok-true.ensures.said in
    let played : Plays BusStep (delivery c.args.session.now.dialog.stage) c.loop.port c.deliver.new.port one.text true
    = subst (λ (st : SessionState). Plays BusStep (delivery st.dialog.stage) c.loop.port c.deliver.new.port one.text true) inv.4
    (subst (λ (more : Bool). Plays BusStep (delivery c.loop.session.dialog.stage) c.loop.port c.deliver.new.port one.text more) c.in-Ok-true.field-0-test one.plays) in (
      suc inv.0,
      inv.1 ++ one.text,
      (inv.1, c.loop.port, one.text, inv.2, played, refl),
      one.wrote.grows ∙ ap (λ (t : List ℕ). t ++ one.text) inv.3 ∙ append_assoc c.args.said.now.items inv.1 one.text,
      c.in-Ok-true.ensures.same ∙ inv.4,
    )

pub returns-in-Ok-false : goal.returns-in-Ok-false
returns-in-Ok-false c =
    let inv = c.loop.invariant in
    let one = c.in-Ok-false.ensures.said in
    let played : Plays BusStep (delivery c.args.session.now.dialog.stage) c.loop.port c.deliver.new.port one.text false
    = subst (λ (st : SessionState). Plays BusStep (delivery st.dialog.stage) c.loop.port c.deliver.new.port one.text false) inv.4
    (subst (λ (more : Bool). Plays BusStep (delivery c.loop.session.dialog.stage) c.loop.port c.deliver.new.port one.text more) c.in-Ok-false.field-0-test one.plays) in (
      inv.1 ++ one.text,
      record { items = inv.0; before = inv.1; mid = c.loop.port; last = one.text; given = inv.2; ends = played; said = refl; same = c.in-Ok-false.ensures.same ∙ inv.4 },
      one.wrote.grows ∙ ap (λ (t : List ℕ). t ++ one.text) inv.3 ∙ append_assoc c.args.said.now.items inv.1 one.text,
    )

pub returns-in-Err-Ended : goal.returns-in-Err-Ended
returns-in-Err-Ended c =
    let inv = c.loop.invariant in
    let ended = c.in-Err-Ended.is ∙ ap (λ (e : SessionFault). Err e) c.in-Err-Ended.field-0-is in
    let none = c.deliver.ensures.nothing ended in
    let over : c.args.session.now.dialog.stage ≡ Ended = sym (ap (λ (s : SessionState). s.dialog.stage) inv.4) ∙ c.deliver.ensures.ended.0 ended in
    let ends : Plays BusStep (delivery c.args.session.now.dialog.stage) c.loop.port c.deliver.new.port [] false
    = subst (λ (stage : Stage). Plays BusStep (delivery stage) c.loop.port c.deliver.new.port [] false) (sym over) (none.1, refl, refl) in (
      inv.1,
      record { items = inv.0; before = inv.1; mid = c.loop.port; last = []; given = inv.2; ends = ends; said = sym (append-nil inv.1); same = none.0 ∙ inv.4 },
      rw none.2 inv.3,
    )
