use Rattle.std.proofs.Common.{◌≡◌, ◌<◌, ◌==◌, true, false, ap, sym, ◌∙◌, arith}
use Rattle.std.proofs.lemmas.Bool.{ne_eqb}
use Rattle.can_frame.specs.Sets.{is_in}
use Rattle.can_attempt.specs.Attempts.{hit, set_of}
use Rattle.can_attempt.specs.declared.judgement.Judgement.{Judgement}
use Rattle.can_bus.specs.Attempted.{Outcome, outcome_of, transmission_of}
use Rattle.can_bus.specs.Posts.{role_at}
use Rattle.can_bus.proofs.Roles.{role-named, role-other, role-beyond, role-silent}
use Rattle.can_bus.proofs.attempted.Attempted.role_of.Goals as goal

pub returns-then-contains : goal.returns-then-contains
returns-then-contains c =
    let t = transmission_of (outcome_of c.self.inside.tried.now c.self.inside.verdict c.self.inside.ack c.self.inside.nodes.now) in
    let lt : c.args.iface < 16 = omega (arith, c.number-place.ensures.number, c.number-place.ensures.below) in
    let other : (c.args.iface == c.self.inside.tried.now.winner) ≡ false = ne_eqb c.args.iface c.self.inside.tried.now.winner (λ e. c.if-place-number.false (c.number-place.ensures.number ∙ e ∙ sym c.number.ensures.number)) in
    let struck : is_in c.args.iface (set_of (hit t)) ≡ true = ap (λ (j : Judgement). is_in c.args.iface j.hit) (sym c.self.invariant.judged) ∙ sym c.contains.ensures ∙ c.if-contains.true in
    sym (role-named t c.args.iface lt other struck) ∙ ap (λ (o : Outcome). role_at (transmission_of o) c.args.iface) c.self.view_is

pub returns-then-place-self : goal.returns-then-place-self
returns-then-place-self c =
    let t = transmission_of (outcome_of c.self.inside.tried.now c.self.inside.verdict c.self.inside.ack c.self.inside.nodes.now) in
    let lt : c.args.iface < 16 = omega (arith, c.number-place.ensures.number, c.number-place.ensures.below) in
    let other : (c.args.iface == c.self.inside.tried.now.winner) ≡ false = ne_eqb c.args.iface c.self.inside.tried.now.winner (λ e. c.if-place-number.false (c.number-place.ensures.number ∙ e ∙ sym c.number.ensures.number)) in
    let unhurt : is_in c.args.iface (set_of (hit t)) ≡ false = ap (λ (j : Judgement). is_in c.args.iface j.hit) (sym c.self.invariant.judged) ∙ sym c.contains.ensures ∙ c.if-contains.false in
    sym (role-beyond t c.args.iface lt other unhurt (omega (arith, c.if-place-self.true, c.number-place.ensures.number))) ∙ ap (λ (o : Outcome). role_at (transmission_of o) c.args.iface) c.self.view_is

pub returns-then-is_silent : goal.returns-then-is_silent
returns-then-is_silent c =
    let t = transmission_of (outcome_of c.self.inside.tried.now c.self.inside.verdict c.self.inside.ack c.self.inside.nodes.now) in
    let lt : c.args.iface < 16 = omega (arith, c.number-place.ensures.number, c.number-place.ensures.below) in
    let other : (c.args.iface == c.self.inside.tried.now.winner) ≡ false = ne_eqb c.args.iface c.self.inside.tried.now.winner (λ e. c.if-place-number.false (c.number-place.ensures.number ∙ e ∙ sym c.number.ensures.number)) in
    let unhurt : is_in c.args.iface (set_of (hit t)) ≡ false = ap (λ (j : Judgement). is_in c.args.iface j.hit) (sym c.self.invariant.judged) ∙ sym c.contains.ensures ∙ c.if-contains.false in
    sym (role-silent t c.args.iface lt other unhurt (sym c.is_silent.ensures ∙ c.if-is_silent.true)) ∙ ap (λ (o : Outcome). role_at (transmission_of o) c.args.iface) c.self.view_is

pub returns : goal.returns
returns c =
    let t = transmission_of (outcome_of c.self.inside.tried.now c.self.inside.verdict c.self.inside.ack c.self.inside.nodes.now) in
    let lt : c.args.iface < 16 = omega (arith, c.number-place.ensures.number, c.number-place.ensures.below) in
    let other : (c.args.iface == c.self.inside.tried.now.winner) ≡ false = ne_eqb c.args.iface c.self.inside.tried.now.winner (λ e. c.if-place-number.false (c.number-place.ensures.number ∙ e ∙ sym c.number.ensures.number)) in
    let unhurt : is_in c.args.iface (set_of (hit t)) ≡ false = ap (λ (j : Judgement). is_in c.args.iface j.hit) (sym c.self.invariant.judged) ∙ sym c.contains.ensures ∙ c.if-contains.false in
    sym (role-other t c.args.iface lt other unhurt (omega (arith, c.if-place-self.false, c.number-place.ensures.number)) (sym c.is_silent.ensures ∙ c.if-is_silent.false)) ∙ ap (λ (o : Outcome). role_at (transmission_of o) c.args.iface) c.self.view_is
