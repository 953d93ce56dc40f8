use Rattle.std.proofs.Common.{◌≡◌, length, rules, sym, ap, ◌∙◌, reverse}
use Rattle.can_audit.proofs.Replying.{is-on, is-up, IsQueue, opened, sent-down, sent-fd-off, sent-off, sent-full, sent-taken, state-on}
use Rattle.can_audit.proofs.replies.send_reply.Goals as goal

pub returns-then-lacks_fd : goal.returns-then-lacks_fd
returns-then-lacks_fd c = λ h.
    let past = reverse c.args.past.now in
    let there = sym (opened past c.in_ok-sockets.sockets.numbers.items c.args.id.0 c.is_open.result c.in_ok-sockets.ensures.open c.is_open.ensures) ∙ c.if-not-is_open.false in
    sent-fd-off c.args.config past c.args.id c.args.frame there (sym c.lacks_fd.ensures ∙ c.if-lacks_fd.true)

pub returns-then-is_off : goal.returns-then-is_off
returns-then-is_off c = λ h.
    let may = sym c.lacks_fd.ensures ∙ c.if-lacks_fd.false in
    let past = reverse c.args.past.now in
    let on = is-on past c.in_ok-sockets.sockets.numbers.items c.in_ok-sockets.sockets.places.items c.args.id.0 c.iface_of-iface.result c.is_open.result c.in_ok-sockets.ensures.open c.in_ok-sockets.ensures.places c.is_open.ensures c.if-not-is_open.false c.iface_of-iface.ensures in
    let at = state-on c.args.config past c.args.id.0 c.iface_of-iface.result c.nodes_of.result c.counters_of.result c.state-state.result h on (c.nodes_of.ensures h) c.counters_of.ensures c.state-state.ensures in
    sent-off c.args.config past c.args.id c.args.frame c.iface_of-iface.result c.state-state.result c.is_off.result on may at c.is_off.ensures c.if-is_off.true

pub returns-then-is_down : goal.returns-then-is_down
returns-then-is_down c = λ h.
    let may = sym c.lacks_fd.ensures ∙ c.if-lacks_fd.false in
    let past = reverse c.args.past.now in
    let on = is-on past c.in_ok-sockets.sockets.numbers.items c.in_ok-sockets.sockets.places.items c.args.id.0 c.iface_of-iface.result c.is_open.result c.in_ok-sockets.ensures.open c.in_ok-sockets.ensures.places c.is_open.ensures c.if-not-is_open.false c.iface_of-iface.ensures in
    let at = state-on c.args.config past c.args.id.0 c.iface_of-iface.result c.nodes_of.result c.counters_of.result c.state-state.result h on (c.nodes_of.ensures h) c.counters_of.ensures c.state-state.ensures in
    sent-down c.args.config past c.args.id c.args.frame c.iface_of-iface.result c.state-state.result c.is_off.result c.is_down.result on may at c.is_off.ensures c.if-is_off.false c.is_down.ensures c.if-is_down.true

pub returns-then-saturating_sub-config : goal.returns-then-saturating_sub-config
returns-then-saturating_sub-config c = λ h.
    let may = sym c.lacks_fd.ensures ∙ c.if-lacks_fd.false in
    let past = reverse c.args.past.now in
    let on = is-on past c.in_ok-sockets.sockets.numbers.items c.in_ok-sockets.sockets.places.items c.args.id.0 c.iface_of-iface.result c.is_open.result c.in_ok-sockets.ensures.open c.in_ok-sockets.ensures.places c.is_open.ensures c.if-not-is_open.false c.iface_of-iface.ensures in
    let at = state-on c.args.config past c.args.id.0 c.iface_of-iface.result c.nodes_of.result c.counters_of.result c.state-state.result h on (c.nodes_of.ensures h) c.counters_of.ensures c.state-state.ensures in
    let up = is-up c.args.config past c.iface_of-iface.result c.state-state.result c.is_off.result c.is_down.result at c.is_off.ensures c.if-is_off.false c.is_down.ensures c.if-is_down.false in
    let sent : c.len-sent.result ≡ length c.in_ok-sent_by.field-0.items = search rules in
    let queue : IsQueue past c.iface_of-iface.result c.len-sent.result c.in_ok-gone.gone = record { sent_is = sent ∙ ap length c.in_ok-sent_by.ensures; gone_is = c.in_ok-gone.ensures } in
    sent-full c.args.config past c.args.id c.args.frame c.iface_of-iface.result c.len-sent.result c.in_ok-gone.gone c.saturating_sub.result on may up queue c.saturating_sub.ensures c.if-saturating_sub-config.true

pub returns : goal.returns
returns c = λ h.
    let may = sym c.lacks_fd.ensures ∙ c.if-lacks_fd.false in
    let past = reverse c.args.past.now in
    let on = is-on past c.in_ok-sockets.sockets.numbers.items c.in_ok-sockets.sockets.places.items c.args.id.0 c.iface_of-iface.result c.is_open.result c.in_ok-sockets.ensures.open c.in_ok-sockets.ensures.places c.is_open.ensures c.if-not-is_open.false c.iface_of-iface.ensures in
    let at = state-on c.args.config past c.args.id.0 c.iface_of-iface.result c.nodes_of.result c.counters_of.result c.state-state.result h on (c.nodes_of.ensures h) c.counters_of.ensures c.state-state.ensures in
    let up = is-up c.args.config past c.iface_of-iface.result c.state-state.result c.is_off.result c.is_down.result at c.is_off.ensures c.if-is_off.false c.is_down.ensures c.if-is_down.false in
    let sent : c.len-sent.result ≡ length c.in_ok-sent_by.field-0.items = search rules in
    let queue : IsQueue past c.iface_of-iface.result c.len-sent.result c.in_ok-gone.gone = record { sent_is = sent ∙ ap length c.in_ok-sent_by.ensures; gone_is = c.in_ok-gone.ensures } in
    sent-taken c.args.config past c.args.id c.args.frame c.iface_of-iface.result c.len-sent.result c.in_ok-gone.gone c.saturating_sub.result on may up queue c.saturating_sub.ensures c.if-saturating_sub-config.false
