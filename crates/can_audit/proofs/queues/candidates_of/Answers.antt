use Rattle.std.proofs.Common.{◌≡◌, List, IfOk, reverse, subst, sym, ◌∙◌}
use Rattle.can_event.specs.declared.received.Received.{Received}
use Rattle.can_audit.proofs.Queueing.{candidates-are, none-offered}
use Rattle.can_audit.proofs.Replying.{opened, is-on}
use Rattle.can_audit.proofs.queues.candidates_of.Goals as goal

pub returns-then-not-is_open : goal.returns-then-not-is_open
returns-then-not-is_open c = λ h.
    let past = reverse c.args.past.now in
    let is = opened past c.in_ok-sockets.sockets.numbers.items c.args.id.0 c.is_open.result c.in_ok-sockets.ensures.open c.is_open.ensures in
    c.new.ensures.items ∙ none-offered c.args.config past c.args.id.0 c.args.entry.now.event c.args.entry.now.reply (sym is ∙ c.if-not-is_open.true)

pub returns : goal.returns
returns c = λ h.
    let past = reverse c.args.past.now in
    let on = is-on past c.in_ok-sockets.sockets.numbers.items c.in_ok-sockets.sockets.places.items c.args.id.0 c.iface_of.result c.is_open.result c.in_ok-sockets.ensures.open c.in_ok-sockets.ensures.places c.is_open.ensures c.if-not-is_open.false c.iface_of.ensures in
    let are = candidates-are c.args.config past c.args.id.0 c.args.entry.now.event c.args.entry.now.reply c.iface_of.result _ _ _ on c.in_ok-filters.ensures c.options_of.ensures (c.deref.ensures.value ∙ c.in_ok-posts.ensures h) in
    subst (λ (xs : List Received). IfOk c.passing_posts.result (λ rs. rs.items ≡ xs)) are c.passing_posts.ensures
