use Rattle.std.proofs.Common.{◌≡◌, ℕ, zero, suc, ◌-◌, ◌<◌, List, [], ◌∷◌, ◌++◌, length, get_or, map, take, drop, slice_set, ap, ◌∙◌, refl, sym, arith}
use Rattle.std.proofs.lemmas.List.{length-append, length-map, length-take, length-drop}
use Rattle.std.proofs.lemmas.List.Edits.{map_over_more}
use Rattle.can_bus.proofs.countdown.Countdown.tick.Goals as goal

any_default : (xs : List ℕ) (i a b : ℕ) → i < length xs → get_or xs i a ≡ get_or xs i b
any_default [] i a b lt = absurd (omega arith)
any_default (x ∷ xs) zero a b lt = refl
any_default (x ∷ xs) (suc i) a b lt = any_default xs i a b (omega arith)

pub loop-left-preserved : goal.loop-left-preserved
loop-left-preserved c =
    let xs = c.args.self.now in
    let sixteen : length xs ≡ 16 = sym (ap (λ (ns : List ℕ). length ns) c.self.view_is) ∙ c.self.told in
    let ys = c.loop-left.left-items in
    let i = c.loop-left.left-index in
    let long : length ys ≡ length (map (λ (n : ℕ). n - 1) (take i xs) ++ drop i xs) = ap length c.loop-left.invariant in
    let within : i < length ys = omega (arith, long, length-append (map (λ (n : ℕ). n - 1) (take i xs)) (drop i xs), length-map (take i xs) (λ (n : ℕ). n - 1), length-take i xs, length-drop i xs, sixteen, c.loop-left-test.true) in
    ap (slice_set ys i) c.saturating_sub.ensures
    ∙ map_over_more (λ (n : ℕ). n - 1) xs ys i (get_or ys i 0) (omega (arith, sixteen, c.loop-left-test.true)) c.loop-left.invariant (any_default ys i 0 (get_or ys i 0) within)
