use Rattle.std.specs.Prelude.{◌≡◌, ◌≤◌}
use Rattle.can_fault.specs.declared.verdict.Verdict.{Verdict}
use Rattle.can_attempt.specs.declared.ack_mode.AckMode.{AckMode}
use Rattle.can_attempt.specs.declared.judgement.Judgement.{Judgement}
use Rattle.can_attempt.specs.declared.nodes.Nodes.{Nodes}
use Rattle.can_attempt.specs.Attempts.{Transmission, attempt_between, judged}
use Rattle.can_event.specs.declared.attempt.Tried.{Tried}

-- An attempt that tried a frame, and its judgement.

-- The tried frame, the faults, the acknowledgement mode, and the interfaces before the attempt.
pub record Outcome : Type 0 where
  pub tried : Tried
  pub verdict : Verdict
  pub ack : AckMode
  pub nodes : Nodes

-- The attempt that tried this frame, from its parts (own choice).
abbrev pub outcome_of : Tried → Verdict → AckMode → Nodes → Outcome
outcome_of t v a nodes = record { tried = t; verdict = v; ack = a; nodes = nodes }

-- The attempt as a transmission.
abbrev pub transmission_of : Outcome → Transmission
transmission_of o = attempt_between o.nodes o.tried.winner o.verdict o.ack

-- The judgement follows from the attempt's faults and the error counts.
pub record IsJudged (o : Outcome) (j : Judgement) : Type 0 where
  pub judged : j ≡ judged (transmission_of o)
  pub few : o.nodes.count ≤ 16
