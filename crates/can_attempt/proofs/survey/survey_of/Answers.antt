use Rattle.std.proofs.Common.{◌≡◌, ◌==◌, ℕ, ◌^◌, bit_or, Bool, true, false, not, length, ◌&&◌, ◌||◌, arith, ap, sym, ◌∙◌, refl}
use Rattle.std.specs.List.{list_any}
use Rattle.can_frame.specs.declared.iface.IfaceSet.{IfaceSet}
use Rattle.can_confine.specs.Confinement.{ErrorCounts, is_passive, state_of}
use Rattle.can_frame.specs.Sets.{bits_where}
use Rattle.can_attempt.specs.Attempts.{Transmission, attempt_between, can_hear, is_struck, state_at}
use Rattle.can_attempt.specs.declared.ack_mode.AckMode.TheVariants.{Always}
use Rattle.can_attempt.proofs.Seeing.{heard, seen_more, set_of-heard}
use Rattle.can_attempt.proofs.survey.survey_of.Goals as goal
use Rattle.can_attempt.proofs.survey.survey_of.Goals.{then-is_struck+then-not-is_passive, then-is_struck+else-not-is_passive, else-is_struck}

pub loop-place-preserved-then-not-can_hear : goal.loop-place-preserved-then-not-can_hear
loop-place-preserved-then-not-can_hear c =
    let t : Transmission = attempt_between c.args.nodes.now c.args.winner c.args.verdict Always in
    let place : c.unwrap-iface.result ≡ c.loop-place.place = (rw c.unwrap-iface.ensures at c.new.ensures).1 in
    let deaf : can_hear t c.loop-place.place ≡ false = ap (can_hear t) (sym place) ∙ sym (c.can_hear.ensures c.args.verdict Always) ∙ c.if-not-can_hear.true in
    seen_more _ _ _ _ _ _ _ _ c.loop-place.invariant _ _ _ _ (rw deaf refl) (rw deaf refl) (rw deaf (grind arith)) (rw deaf (grind arith))

true_on_the_right : (x : Bool) → true ≡ (x || true)
true_on_the_right x = grind arith

false_on_the_right : (x : Bool) → x ≡ (x || false)
false_on_the_right x = grind arith

pub loop-place-preserved : goal.loop-place-preserved
loop-place-preserved c =
    let t : Transmission = attempt_between c.args.nodes.now c.args.winner c.args.verdict Always in
    let place : c.unwrap-iface.result ≡ c.loop-place.place = (rw c.unwrap-iface.ensures at c.new.ensures).1 in
    let hears : can_hear t c.loop-place.place ≡ true = ap (can_hear t) (sym place) ∙ sym (c.can_hear.ensures c.args.verdict Always) ∙ c.if-not-can_hear.false in
    elim c.if-is_struck.branch [
      | then-is_struck+then-not-is_passive w ↦
          let named : is_struck c.args.verdict c.loop-place.place ≡ true = ap (is_struck c.args.verdict) (sym place) ∙ sym c.is_struck.ensures ∙ w.if-is_struck.true in
          let active : is_passive (state_at t c.loop-place.place) ≡ false = ap (λ (n : ℕ). is_passive (state_at t n)) (sym place) ∙ ap (λ (k : ErrorCounts). is_passive (state_of k)) (sym w.counters_of.ensures) ∙ ap is_passive (sym w.state.ensures) ∙ sym w.is_passive.ensures ∙ w.if-not-is_passive.true in
          seen_more _ _ _ _ _ _ _ _ c.loop-place.invariant _ _ _ _
          (rw (hears, named) (ap (λ (s : IfaceSet). s.0) w.hit-is ∙ w.with-hit.ensures ∙ ap (λ (n : ℕ). bit_or c.loop-place.hit.0 (2 ^ n)) place))
          (rw (hears, named) (ap (λ (s : IfaceSet). s.0) w.unhurt-is))
          (rw (hears, named, active) (w.is_hit_active-is ∙ true_on_the_right _))
          (rw (hears, named) (w.is_heard-is ∙ false_on_the_right _))
      | then-is_struck+else-not-is_passive w ↦
          let named : is_struck c.args.verdict c.loop-place.place ≡ true = ap (is_struck c.args.verdict) (sym place) ∙ sym c.is_struck.ensures ∙ w.if-is_struck.true in
          let passive : is_passive (state_at t c.loop-place.place) ≡ true = ap (λ (n : ℕ). is_passive (state_at t n)) (sym place) ∙ ap (λ (k : ErrorCounts). is_passive (state_of k)) (sym w.counters_of.ensures) ∙ ap is_passive (sym w.state.ensures) ∙ sym w.is_passive.ensures ∙ w.if-not-is_passive.false in
          seen_more _ _ _ _ _ _ _ _ c.loop-place.invariant _ _ _ _
          (rw (hears, named) (ap (λ (s : IfaceSet). s.0) w.hit-is ∙ w.with-hit.ensures ∙ ap (λ (n : ℕ). bit_or c.loop-place.hit.0 (2 ^ n)) place))
          (rw (hears, named) (ap (λ (s : IfaceSet). s.0) w.unhurt-is))
          (rw (hears, named, passive) (w.is_hit_active-is ∙ false_on_the_right _))
          (rw (hears, named) (w.is_heard-is ∙ false_on_the_right _))
      | else-is_struck w ↦
          let spared : is_struck c.args.verdict c.loop-place.place ≡ false = ap (is_struck c.args.verdict) (sym place) ∙ sym c.is_struck.ensures ∙ w.if-is_struck.false in
          seen_more _ _ _ _ _ _ _ _ c.loop-place.invariant _ _ _ _
          (rw (hears, spared) (ap (λ (s : IfaceSet). s.0) w.hit-is))
          (rw (hears, spared) (ap (λ (s : IfaceSet). s.0) w.unhurt-is ∙ w.with-unhurt.ensures ∙ ap (λ (n : ℕ). bit_or c.loop-place.unhurt.0 (2 ^ n)) place))
          (rw (hears, spared) (w.is_hit_active-is ∙ false_on_the_right _))
          (rw (hears, spared) (w.is_heard-is ∙ true_on_the_right _))
    ]

pub returns : goal.returns
returns c a =
    let v = c.args.verdict in
    let t : Transmission = attempt_between c.args.nodes.now c.args.winner v a in
    let ended : c.loop-place.place ≡ t.count = omega (arith, c.loop-place-test.false, c.loop-place.auto.place-end) in
    record {
      hit = set_of-heard (can_hear t) (is_struck v) t.count c.loop-place.hit c.requires
          (c.loop-place.invariant.hit_bits ∙ ap (bits_where (λ k. can_hear t k && is_struck v k)) ended);
      unhurt = set_of-heard (can_hear t) (λ k. not (is_struck v k)) t.count c.loop-place.unhurt c.requires
          (c.loop-place.invariant.unhurt_bits ∙ ap (bits_where (λ k. can_hear t k && not (is_struck v k))) ended);
      active = c.loop-place.invariant.active
          ∙ ap (λ i. list_any (λ k. not (is_passive (state_at t k))) (heard (can_hear t) (is_struck v) i)) ended;
      heard = c.loop-place.invariant.some ∙ ap (λ i. not (length (heard (can_hear t) (λ k. not (is_struck v k)) i) == 0)) ended;
    }
