use Rattle.can_bus.proofs.OfferFacts.{offers-candidates, queued-with-room, dropped-without-room}
use Rattle.can_bus.proofs.laws.items_find_room_in_turn.Goals as goal

pub returns-clause-offered : goal.returns-clause-offered
returns-clause-offered c past s = offers-candidates c.args.config past s

pub returns-clause-queued : goal.returns-clause-queued
returns-clause-queued c past s = queued-with-room c.args.config past s

pub returns-clause-dropped : goal.returns-clause-dropped
returns-clause-dropped c past s = dropped-without-room c.args.config past s
