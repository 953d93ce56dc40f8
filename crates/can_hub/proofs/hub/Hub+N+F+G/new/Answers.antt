use Rattle.can_hub.proofs.hub.Hub+N+F+G.new.Goals as goal

pub returns-clause-bad : goal.returns-clause-bad
returns-clause-bad g c = (λ e. absurd (cc (e)), λ no. absurd (cc (c.in_ok-hub.ensures.bad.1 no)))
