use Rattle.std.proofs.Common.{◌≡◌, IfOk, reverse, subst, sym, ap, ◌∙◌}
use Rattle.can_event.specs.declared.event.Event.{Event}
use Rattle.can_bus.specs.Legal.{legal_reply}
use Rattle.can_audit.proofs.replies.legal_reply.Goals as goal

pub returns-in-Send : goal.returns-in-Send
returns-in-Send c = λ h. subst (λ (e : Event). IfOk c.send_reply.result (λ r. r ≡ legal_reply c.args.config (reverse c.args.past.now) e)) (sym c.in-Send.is) (c.send_reply.ensures h)

pub returns-in-Restart : goal.returns-in-Restart
returns-in-Restart c = λ h. c.restart_reply.ensures c.in-Restart.field-1 h ∙ ap (legal_reply c.args.config (reverse c.args.past.now)) (sym c.in-Restart.is)

pub returns-in-Down : goal.returns-in-Down
returns-in-Down c = λ h. c.down_reply.ensures (reverse c.args.past.now) c.in-Down.field-1 ∙ ap (legal_reply c.args.config (reverse c.args.past.now)) (sym c.in-Down.is)
