use Rattle.std.proofs.Common.{Bool, ap}
use Rattle.can_session.specs.Benches.{said_decision}
use Rattle.can_session.proofs.laws.lines_have_faults_only_where_they_are_shown.Goals as goal

pub returns : goal.returns
returns c = λ b decision hidden. ap (λ (shows : Bool). said_decision shows decision) hidden
