use Rattle.std.proofs.Common.{sym, subst}
use Rattle.can_event.specs.declared.attempt.Attempt.{Attempt}
use Rattle.can_event.specs.declared.event.Event.TheVariants as event
use Rattle.can_event.specs.declared.reply.Reply.TheVariants as reply
use Rattle.can_event.specs.Replies.{entry_of}
use Rattle.can_audit.specs.inner.Posted.{ReturnsPosts}
use Rattle.can_audit.proofs.post.posts_at.Goals as goal

pub returns-in-Tried : goal.returns-in-Tried
returns-in-Tried c =
    subst (λ (a : Attempt). ReturnsPosts c.args.config c.args.past.now c.args.iface (entry_of (event.Attempt c.args.moment c.args.verdict) (reply.Attempted a)) c.tried_posts.result) (sym c.in-Tried.is) c.tried_posts.ensures
