use Rattle.std.proofs.Common.{sym, ap, ◌∙◌}
use Rattle.can_session.specs.Orders.{order_of}
use Rattle.can_session.proofs.FirstWords.{at_first, feed_first, drain_first}
use Rattle.can_session.proofs.order.read_order.Goals as goal

pub returns-in-Some : goal.returns-in-Some
returns-in-Some c = c.read_feed.ensures ∙ sym (ap order_of c.in-Some.ensures ∙ feed_first c.in-Some.rest.now)

pub returns-in-Some-after_at : goal.returns-in-Some-after_at
returns-in-Some-after_at c = c.read_at.ensures ∙ sym (ap order_of c.in-Some-after_at.ensures ∙ at_first c.in-Some-after_at.rest.now)

pub returns-in-Some-after_drain : goal.returns-in-Some-after_drain
returns-in-Some-after_drain c = c.read_drain.ensures ∙ sym (ap order_of c.in-Some-after_drain.ensures ∙ drain_first c.in-Some-after_drain.rest.now)
