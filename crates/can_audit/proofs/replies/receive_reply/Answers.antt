use Rattle.std.proofs.Common.{◌≡◌, List, length, slice_get, rules, ap, sym, ◌∙◌, reverse, Option}
use Rattle.can_event.specs.declared.received.Received.{Received}
use Rattle.can_event.specs.declared.reply.Reply.TheVariants as reply
use Rattle.can_audit.proofs.Replying.{opened, received}
use Rattle.can_audit.proofs.replies.receive_reply.Goals as goal

pub returns : goal.returns
returns c = λ h.
    let past = reverse c.args.past.now in
    let queued = c.in_ok-arrivals.arrivals.queued.items in
    let is = opened past c.in_ok-sockets_of.field-0.numbers.items c.args.id.0 c.is_open.result c.in_ok-sockets_of.ensures.open c.is_open.ensures in
    let long : c.len-taken.result ≡ length c.in_ok-taken_from.field-0.items = search rules in
    let item : c.item_at.result ≡ slice_get queued (length c.in_ok-taken_from.field-0.items) = c.item_at.ensures ∙ ap (λ (rs : List Received). slice_get rs c.len-taken.result) c.deref.ensures.value ∙ ap (slice_get queued) long in
    ap (λ (o : Option Received). reply.Received o) item
    ∙ received c.args.config past c.args.id queued c.in_ok-taken_from.field-0.items (sym is ∙ c.if-not-is_open.false) (c.in_ok-arrivals.ensures.queued h) c.in_ok-taken_from.ensures
