use Rattle.std.proofs.Common.{◌≡◌, ◌-◌, length, rules, sym, ◌∙◌, reverse}
use Rattle.can_audit.proofs.Replying.{opened, closed}
use Rattle.can_audit.proofs.replies.close_reply.Goals as goal

pub returns : goal.returns
returns c = λ h.
    let past = reverse c.args.past.now in
    let is = opened past c.in_ok-sockets_of.field-0.numbers.items c.args.id.0 c.is_open.result c.in_ok-sockets_of.ensures.open c.is_open.ensures in
    let unread : c.saturating_sub.result ≡ length c.in_ok-arrivals.arrivals.queued.items - length c.in_ok-taken_from.field-0.items = search rules in
    let lost : c.len-2.result ≡ length c.in_ok-arrivals.arrivals.dropped.items = search rules in
    closed c.args.config past c.args.id c.in_ok-arrivals.arrivals.queued.items c.in_ok-arrivals.arrivals.dropped.items c.in_ok-taken_from.field-0.items
    c.saturating_sub.result c.len-2.result (sym is ∙ c.if-not-is_open.false) (c.in_ok-arrivals.ensures.queued h) (c.in_ok-arrivals.ensures.dropped h) c.in_ok-taken_from.ensures unread lost
