use Rattle.can_session.proofs.FirstPlaces.{placed}
use Rattle.can_session.proofs.byte_search.place_of.Goals as goal

pub returns-clause-place : goal.returns-clause-place
returns-clause-place c = placed c.args.mark c.args.text.now c.memchr.result c.memchr.ensures
