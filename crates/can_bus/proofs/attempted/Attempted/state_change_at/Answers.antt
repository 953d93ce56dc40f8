use Rattle.std.proofs.Common.{◌≡◌, ◌<◌, ap, ◌∙◌, arith, get_or, map, List}
use Rattle.std.specs.List.{range_with_len}
use Rattle.std.proofs.lemmas.List.FromFn.{get_or-map-range_with_len}
use Rattle.can_confine.specs.Confinement.{ErrorCounts}
use Rattle.can_attempt.specs.Attempts.{counts_at, counts_after}
use Rattle.can_attempt.specs.declared.judgement.Judgement.{Judgement}
use Rattle.can_errframe.specs.ErrorMessages.{state_message}
use Rattle.can_bus.specs.Attempted.{Outcome, outcome_of, transmission_of}
use Rattle.can_bus.proofs.attempted.Attempted.state_change_at.Goals as goal

pub returns : goal.returns
returns c =
    let t = transmission_of (outcome_of c.self.inside.tried.now c.self.inside.verdict c.self.inside.ack c.self.inside.nodes.now) in
    let lt : c.number.result < 16 = c.number.ensures.below in
    let counters : c.self.inside.judgement.now.counters ≡ map (counts_after t) (range_with_len 0 16) = ap (λ (j : Judgement). j.counters) c.self.invariant.judged in
    let read : get_or c.self.inside.judgement.now.counters c.number.result c.index-self-number.result ≡ counts_after t c.number.result =
    ap (λ (l : List ErrorCounts). get_or l c.number.result c.index-self-number.result) counters ∙ get_or-map-range_with_len (counts_after t) 0 16 c.number.result c.number.result c.index-self-number.result lt (omega arith) in
    c.state_frame.ensures
    ∙ ap (λ (k : ErrorCounts). state_message k (get_or c.self.inside.judgement.now.counters c.number.result c.index-self-number.result)) c.counters_of.ensures
    ∙ ap (state_message (counts_at c.self.inside.nodes.now c.args.iface)) (read ∙ ap (counts_after t) c.number.ensures.number)
    ∙ ap (λ (o : Outcome). state_message ((transmission_of o).counts c.args.iface) (counts_after (transmission_of o) c.args.iface)) c.self.view_is
