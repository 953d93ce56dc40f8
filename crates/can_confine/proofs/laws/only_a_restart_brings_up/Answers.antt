use Rattle.std.proofs.Common.{◌≡◌, List, true, [], ◌∷◌, refl}
use Rattle.can_confine.specs.Confinement.{ErrorCounts, Step, stepped, all_stepped, state_of, is_down}
use Rattle.can_confine.specs.Confinement.Step.{TransmitError, ReceiveError, GoodTransmission, GoodReception, TakenDown}
use Rattle.can_confine.proofs.laws.only_a_restart_brings_up.Goals as goal

step_stays : (c : ErrorCounts) (s : Step) → c.down ≡ true → (stepped c s).down ≡ true
step_stays c TransmitError down = down
step_stays c ReceiveError down = down
step_stays c GoodTransmission down = down
step_stays c GoodReception down = down
step_stays c TakenDown down = refl

stays : (ss : List Step) (c : ErrorCounts) → c.down ≡ true → is_down (state_of (all_stepped c ss)) ≡ true
stays [] c down = rw down refl
stays (s ∷ ss) c down = stays ss (stepped c s) (step_stays c s down)

pub returns-clause-stays : goal.returns-clause-stays
returns-clause-stays c counts ss down = stays ss counts down
