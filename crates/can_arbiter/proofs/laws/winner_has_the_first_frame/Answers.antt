use Rattle.can_arbiter.proofs.Heading.{first-from_winner, winner-from_first, no_head-from_idle, idle-from_no_head}
use Rattle.can_arbiter.proofs.laws.winner_has_the_first_frame.Goals as goal

pub returns-clause-first : goal.returns-clause-first
returns-clause-first c = λ heads w. (first-from_winner heads w, winner-from_first heads w)

pub returns-clause-none : goal.returns-clause-none
returns-clause-none c = λ heads. (no_head-from_idle heads, idle-from_no_head heads)
