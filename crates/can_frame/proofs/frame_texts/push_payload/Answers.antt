use Rattle.std.proofs.Common.{◌≡◌, ◌<◌, ◌≤◌, ◌+◌, ◌++◌, ◌∷◌, [], true, false, ℕ, List, refl, sym, ap, ◌∙◌, arith, append_assoc}
use Rattle.can_frame.specs.Frames.{Payload, is_remote, is_fd, payload_len}
use Rattle.can_frame.specs.Frames.Payload.{Data, Remote, Fd}
use Rattle.can_frame.specs.FrameText.{payload_text}
use Rattle.can_frame.proofs.Digits.{request-text}
use Rattle.can_frame.proofs.frame_texts.push_payload.Goals as goal

pub returns-then-len-gt0-clause-text : goal.returns-then-len-gt0-clause-text
returns-then-len-gt0-clause-text c =
    c.push-then-len-gt0.ensures.text ∙ ap (λ (t : List ℕ). t ++ (48 + c.len-len.result) ∷ []) c.push.ensures.text
    ∙ append_assoc c.args.text.now (82 ∷ []) ((48 + c.len-len.result) ∷ [])
    ∙ ap (λ (t : List ℕ). c.args.text.now ++ t) (asked c.args.frame.payload c.len-len.result c.len-len.ensures.length c.len-len.ensures.classic c.if-len-gt0.true cc)
  where
    asked : (p : Payload) (len : ℕ) → len ≡ payload_len p → (is_fd p ≡ false → len ≤ 8) → 0 < len → is_remote p ≡ true → 82 ∷ (48 + len) ∷ [] ≡ payload_text p
    asked (Data bytes) len e h pos r = absurd cc
    asked (Fd flags bytes) len e h pos r = absurd cc
    asked (Remote n) len e h pos r = let few = h refl in rw e (sym (request-text n (omega (arith, e)) (omega (arith, e, few))))
