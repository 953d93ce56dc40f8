use Rattle.std.proofs.Common.{◌≡◌, ◌++◌, List, slice_get, reverse, ap, ◌∙◌}
use Rattle.can_event.specs.declared.event.Event.TheVariants.{Attempt}
use Rattle.can_event.specs.declared.pending.Pending.{Pending}
use Rattle.can_event.specs.declared.attempt.Attempt.TheVariants as attempt
use Rattle.can_event.specs.declared.reply.Reply.TheVariants as reply
use Rattle.can_event.specs.Replies.{entry_of}
use Rattle.can_bus.specs.Attempted.{Outcome, transmission_of}
use Rattle.can_bus.specs.Posts.{Post, attempt_posts, auto_restart_posts}
use Rattle.can_bus.specs.Transmit.{sent_by}
use Rattle.can_audit.proofs.Posting.{tried-posts, judged-tried}
use Rattle.can_audit.proofs.Counting.{earlier}
use Rattle.can_audit.proofs.post.tried_posts.Goals as goal

pub returns-in-None : goal.returns-in-None
returns-in-None c = λ h.
    let past = reverse c.args.past.now in
    let m = c.args.moment in
    judged-tried c.args.config past m c.args.verdict c.args.tried.now c.nodes_of-nodes.result c.judgement_of.result h (c.nodes_of-nodes.ensures (earlier c.args.config (entry_of (Attempt m c.args.verdict) (reply.Attempted (attempt.Tried c.args.tried.now))) past h)) c.judgement_of.ensures.live c.in-None.is

pub returns : goal.returns
returns c = λ h.
    let past = reverse c.args.past.now in
    let m = c.args.moment in
    let t = c.args.tried.now in
    let frame : c.frame_at-pending.result ≡ slice_get (sent_by past t.winner) t.number = c.frame_at-pending.ensures ∙ ap (λ (ps : List Pending). slice_get ps t.number) (c.deref.ensures.value ∙ c.in_ok-sent.ensures) in
    c.in_ok-put_restarted.ensures ∙ ap (λ (ps : List Post). ps ++ auto_restart_posts t.restarted m c.args.iface)
    (c.in_ok-posts.ensures
    ∙ ap (λ (o : Outcome). attempt_posts c.args.config.reporting (transmission_of o) o.tried c.frame_at-pending.result c.args.iface) c.new-attempted.ensures
    ∙ tried-posts c.args.config past m c.args.verdict t c.args.iface c.nodes_of-nodes.result c.frame_at-pending.result h (c.nodes_of-nodes.ensures (earlier c.args.config (entry_of (Attempt m c.args.verdict) (reply.Attempted (attempt.Tried t))) past h)) frame)
