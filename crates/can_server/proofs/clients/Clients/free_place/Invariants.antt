use Rattle.std.proofs.Common.{ℕ, ◌<◌}
use Rattle.can_server.specs.Clients.{IsFree}
use Rattle.can_server.proofs.clients.Clients.free_place.Given as goal

abbrev pub invariant-loop-place : goal.invariant-loop-place
invariant-loop-place l = (place : ℕ) → place < l.place → ¬ IsFree l.self.places place
