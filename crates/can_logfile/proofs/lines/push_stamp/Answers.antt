use Rattle.std.proofs.Common.{◌≡◌, ◌++◌, ◌∷◌, [], ◌/◌, ◌%◌, List, ℕ, ap, ◌∙◌, append_assoc}
use Rattle.can_frame.specs.FrameText.{digits}
use Rattle.can_logfile.specs.Log.{stamp}
use Rattle.can_logfile.proofs.lines.push_stamp.Goals as goal

pub returns-clause-text : goal.returns-clause-text
returns-clause-text c =
    chain c.args.line.now c.push.new.self c.push_decimals.new.self c.push-2.new.self c.push_decimals-2.new.self c.push-3.new.self
    (digits 10 10 (c.micros-micros.result / 1000000)) (digits 10 6 (c.micros-micros.result % 1000000))
    c.push.ensures.text c.push_decimals.ensures.text c.push-2.ensures.text c.push_decimals-2.ensures.text c.push-3.ensures.text
    ∙ ap (λ (m : ℕ). c.args.line.now ++ stamp m) c.micros-micros.ensures.micros
  where
    chain : (old t1 t2 t3 t4 t5 a b : List ℕ) → t1 ≡ old ++ 40 ∷ [] → t2 ≡ t1 ++ a → t3 ≡ t2 ++ 46 ∷ [] → t4 ≡ t3 ++ b → t5 ≡ t4 ++ 41 ∷ [] → t5 ≡ old ++ (((40 ∷ a) ++ (46 ∷ b)) ++ 41 ∷ [])
    chain old t1 t2 t3 t4 t5 a b e1 e2 e3 e4 e5 =
        let first : t2 ≡ old ++ 40 ∷ a = e2 ∙ ap (λ (t : List ℕ). t ++ a) e1 ∙ append_assoc old (40 ∷ []) a in
        let second : t4 ≡ t2 ++ 46 ∷ b = e4 ∙ ap (λ (t : List ℕ). t ++ b) e3 ∙ append_assoc t2 (46 ∷ []) b in
        let both : t4 ≡ old ++ ((40 ∷ a) ++ 46 ∷ b) = second ∙ ap (λ (t : List ℕ). t ++ 46 ∷ b) first ∙ append_assoc old (40 ∷ a) (46 ∷ b) in
        e5 ∙ ap (λ (t : List ℕ). t ++ 41 ∷ []) both ∙ append_assoc old ((40 ∷ a) ++ 46 ∷ b) (41 ∷ [])
