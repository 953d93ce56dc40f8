use Rattle.std.proofs.Common.{◌≡◌, ◌==◌, ◌&&◌, nat_lt, ap, sym, ◌∙◌, false, true, List, refl}
use Rattle.can_confine.specs.Confinement.{ErrorCounts, Step, all_stepped}
use Rattle.can_attempt.specs.Attempts.{Transmission, attempt_between, can_hear, counts_at, receiver_step}
use Rattle.can_attempt.proofs.Places.{steps_in-receiver, steps_in-none}
use Rattle.can_attempt.proofs.judging.counters_after.Goals as goal

pub returns-then-can_hear : goal.returns-then-can_hear
returns-then-can_hear c a =
    let t : Transmission = attempt_between c.args.nodes.now c.args.winner c.args.verdict a in
    let other : (c.args.iface == c.args.winner) ≡ false = sym c.eq.ensures ∙ c.if-eq.false in
    let hears : can_hear t c.args.iface ≡ true = sym (c.can_hear.ensures c.args.verdict a) ∙ c.if-can_hear.true in
    c.receiver_after.ensures
    ∙ ap (λ (k : ErrorCounts). all_stepped k (receiver_step c.args.class c.is_struck.result)) c.counters_of-counters.ensures
    ∙ ap (λ n. all_stepped (counts_at c.args.nodes.now c.args.iface) (receiver_step c.args.class n)) c.is_struck.ensures
    ∙ ap (λ (s : List Step). all_stepped (counts_at c.args.nodes.now c.args.iface) s) (sym (steps_in-receiver c.args.class t c.args.iface other hears c.requires.there))

pub returns-else-can_hear : goal.returns-else-can_hear
returns-else-can_hear c a =
    let t : Transmission = attempt_between c.args.nodes.now c.args.winner c.args.verdict a in
    let other : (c.args.iface == c.args.winner) ≡ false = sym c.eq.ensures ∙ c.if-eq.false in
    let d : can_hear t c.args.iface ≡ false = sym (c.can_hear.ensures c.args.verdict a) ∙ c.if-can_hear.false in
    let deaf : (can_hear t c.args.iface && nat_lt c.args.iface t.count) ≡ false = rw d refl in
    c.counters_of-counters.ensures
    ∙ ap (λ (s : List Step). all_stepped (counts_at c.args.nodes.now c.args.iface) s) (sym (steps_in-none c.args.class t c.args.iface other deaf))
