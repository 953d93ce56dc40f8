use Rattle.std.proofs.Common.{◌≡◌, sym, ap, ◌∙◌, subst}
use Rattle.can_event.specs.declared.entry.Entry.{Entry}
use Rattle.can_event.specs.declared.event.Event.{Event}
use Rattle.can_event.specs.declared.event.Event.TheVariants as event
use Rattle.can_event.specs.declared.reply.Reply.TheVariants as reply
use Rattle.can_event.specs.Replies.{entry_of}
use Rattle.can_audit.specs.inner.Posted.{ReturnsPosts}
use Rattle.can_audit.proofs.post.posts_of.Goals as goal

pub returns-in-Attempted : goal.returns-in-Attempted
returns-in-Attempted c =
    let asked = event.Attempt c.in-Attempt.moment c.in-Attempt.verdict in
    let whole : c.args.entry.now ≡ entry_of asked (reply.Attempted c.in-Attempted.attempt) =
    ap (λ (e : Event). entry_of e c.args.entry.now.reply) c.in-Attempt.is ∙ ap (entry_of asked) c.in-Attempted.is in
    subst (λ (e : Entry). ReturnsPosts c.args.config c.args.past.now c.args.iface e c.posts_at.result) (sym whole) c.posts_at.ensures
