use Rattle.std.proofs.Common.{◌≡◌, ◌≤◌, get_or, bit_or, length, All, List, ap, subst, ◌∙◌, arith}
use Rattle.std.specs.Int.{from_bool}
use Rattle.std.proofs.lemmas.Bool.{eqb-true}
use Rattle.std.proofs.lemmas.List.{take_all}
use Rattle.std.proofs.lemmas.List.Elements.{All-more}
use Rattle.std.proofs.lemmas.Nat.{or_comm}
use Rattle.can_confine.specs.Confinement.{ErrorCounts, at_start}
use Rattle.can_attempt.proofs.Calm.{zero_counts, zero_of_or}
use Rattle.can_attempt.proofs.nodes.Nodes.are_at_start.Goals as goal

pub loop-one-preserved : goal.loop-one-preserved
loop-one-preserved c h =
    let before : c.loop-one.bits ≡ 0 = zero_of_or _ _ h in
    let now : bit_or (bit_or c.tec.result c.rec.result) _ ≡ 0 = zero_of_or _ c.loop-one.bits (or_comm _ c.loop-one.bits ∙ h) in
    let zero : get_or c.args.self.now.counters c.loop-one.one-index c.one-item.result ≡ at_start = zero_counts _ _ _ _ c.tec.ensures.count c.rec.ensures.count (c.from.ensures ∙ ap from_bool c.is_down.ensures) now in
    All-more (λ (v : ErrorCounts). v ≡ at_start) c.args.self.now.counters c.loop-one.one-index c.one-item.result (omega (arith, c.loop-one-test.true, c.type_inv.one-items)) (c.loop-one.invariant before) zero

pub returns : goal.returns
returns c h =
    let ended : length c.args.self.now.counters ≤ c.loop-one.one-index = omega (arith, c.loop-one-test.false) in
    subst (λ (cs : List ErrorCounts). All (λ (v : ErrorCounts). v ≡ at_start) cs) (take_all c.loop-one.one-index c.args.self.now.counters ended) (c.loop-one.invariant (eqb-true _ _ h))
