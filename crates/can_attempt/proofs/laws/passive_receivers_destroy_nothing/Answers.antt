use Rattle.std.proofs.Common.{◌≡◌, ◌≢◌, Bool, true, false, not, ap, sym, arith, ◌∙◌}
use Rattle.std.specs.List.{list_any}
use Rattle.std.proofs.lemmas.Bool.{false≢true}
use Rattle.can_confine.specs.Confinement.{is_passive}
use Rattle.can_attempt.specs.declared.class.Class.{Class}
use Rattle.can_attempt.specs.declared.class.Class.TheVariants.{Destroyed}
use Rattle.can_attempt.specs.Attempts.{state_at, hit, is_destroyed, is_acknowledged, is_last_bit, class_when}
use Rattle.can_attempt.proofs.Places.{any_same, any_none}
use Rattle.can_attempt.proofs.laws.passive_receivers_destroy_nothing.Goals as goal

abbrev is_it_destroyed : Class → Bool
is_it_destroyed Destroyed = true
is_it_destroyed _ = false

not_destroyed : (a l : Bool) → class_when false a l ≢ Destroyed
not_destroyed true true e = false≢true (ap is_it_destroyed e)
not_destroyed true false e = false≢true (ap is_it_destroyed e)
not_destroyed false true e = false≢true (ap is_it_destroyed e)
not_destroyed false false e = false≢true (ap is_it_destroyed e)

pub returns : goal.returns
returns c t local passive destroyed =
    let spared : list_any (λ k. not (is_passive (state_at t k))) (hit t) ≡ false =
    any_same (λ k. not (is_passive (state_at t k))) (λ k. false) (hit t) (λ k struck. ap not (passive k struck)) ∙ any_none (hit t) in
    let unbroken : is_destroyed t ≡ false = rw (local, spared) (grind arith) in
    not_destroyed (is_acknowledged t) (is_last_bit t.verdict) (ap (λ (b : Bool). class_when b (is_acknowledged t) (is_last_bit t.verdict)) (sym unbroken) ∙ destroyed)
