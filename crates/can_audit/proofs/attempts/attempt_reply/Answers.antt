use Rattle.std.proofs.Common.{◌≡◌, Some, reverse, sym, ◌∙◌}
use Rattle.can_bus.specs.Attempts.{winner}
use Rattle.can_bus.specs.Transmit.{head_of}
use Rattle.can_audit.proofs.Competing.{tried-is, judged-winner}
use Rattle.can_audit.proofs.attempts.attempt_reply.Goals as goal
use Rattle.can_audit.proofs.attempts.attempt_reply.Goals.{in-Some-judgement_of, in-None}

pub returns : goal.returns
returns c = λ h.
    let past = reverse c.args.past.now in
    let w = c.in-Some.winner in
    let won : winner c.args.config past ≡ Some w = sym (c.in_ok-winner.ensures c.args.config h) ∙ c.in-Some.is in
    let head : head_of past w ≡ Some c.in-Some-2.pending = sym c.in_ok-pending.ensures ∙ c.in-Some-2.is in
    elim c.match-judgement_of.branch [
      | in-Some-judgement_of s ↦ s.result-is ∙ s.tried_as.ensures
          ∙ tried-is c.args.config past c.args.moment c.args.verdict w c.in-Some-2.pending c.in_ok-number.number
          c.nodes_of-nodes.result s.in-Some-judgement_of.judgement c.restarted_next-restarted.result h c.restarted_next-restarted.ensures won head c.in_ok-number.ensures (c.nodes_of-nodes.ensures h) s.in-Some-judgement_of.ensures.some
      | in-None n ↦ judged-winner c.args.config past w c.args.verdict c.nodes_of-nodes.result c.judgement_of.result h won (c.nodes_of-nodes.ensures h) c.judgement_of.ensures.live n.in-None.is
    ]
