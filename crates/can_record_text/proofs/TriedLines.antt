-- The line of an attempt that tried a frame, split into the parts in which it is written.
use Rattle.std.proofs.Common.{◌≡◌, ◌∙◌, ap, append_assoc, ℕ, List, [], ◌∷◌, ◌++◌}
use Rattle.std.specs.Prelude.{codes, decimal}
use Rattle.can_frame.specs.FrameText.{frame_spelling}
use Rattle.can_frame.specs.declared.item.Item.TheVariants as item
use Rattle.can_fault.specs.declared.verdict.Verdict.{Verdict}
use Rattle.can_attempt.specs.Words.{class_word}
use Rattle.can_event.specs.declared.event.Event.TheVariants.{Attempt}
use Rattle.can_event.specs.declared.reply.Reply.TheVariants as reply
use Rattle.can_event.specs.declared.attempt.Tried.{Tried}
use Rattle.can_event.specs.declared.attempt.Attempt.TheVariants as attempt
use Rattle.can_record_text.specs.inner.Words.{spaced}
use Rattle.can_record_text.specs.Spelling.{spell, moment_word, verdict_word, set_word, restarted_words, answered_line}
use Rattle.can_record_text.proofs.Written.{spell-append}

tried_words : (m v w n f k s o : List ℕ) (rs : List (List ℕ)) (a b c new : List ℕ) → a ≡ spaced (codes "attempt" ∷ m ∷ v ∷ []) → b ≡ a ++ spaced (codes "=" ∷ codes "tried" ∷ w ∷ n ∷ []) → c ≡ b ++ (f ++ 32 ∷ []) → new ≡ c ++ spell (k ∷ s ∷ o ∷ rs) [] → new ≡ spell (codes "attempt" ∷ m ∷ v ∷ codes "=" ∷ codes "tried" ∷ w ∷ n ∷ f ∷ k ∷ s ∷ o ∷ rs) []
tried_words m v w n f k s o rs a b c new ha hb hc hn =
    let front = codes "attempt" ∷ m ∷ v ∷ [] in
    let between = codes "=" ∷ codes "tried" ∷ w ∷ n ∷ [] in
    let back = spell (k ∷ s ∷ o ∷ rs) [] in
    hn ∙ rw (hc, hb, ha) (append_assoc (spaced front ++ spaced between) (f ++ 32 ∷ []) back
    ∙ append_assoc (spaced front) (spaced between) ((f ++ 32 ∷ []) ++ back)
    ∙ ap (λ (x : List ℕ). spaced front ++ x) (ap (λ (x : List ℕ). spaced between ++ x) (append_assoc f (32 ∷ []) back) ∙ spell-append between (k ∷ s ∷ o ∷ rs) f [])
    ∙ spell-append front (codes "tried" ∷ w ∷ n ∷ f ∷ k ∷ s ∷ o ∷ rs) (codes "=") [])

pub tried_line : (m : ℕ) (v : Verdict) (t : Tried) (a b c new : List ℕ) → a ≡ spaced (codes "attempt" ∷ moment_word m ∷ verdict_word v ∷ []) → b ≡ a ++ spaced (codes "=" ∷ codes "tried" ∷ decimal t.winner ∷ decimal t.number ∷ []) → c ≡ b ++ (frame_spelling (item.Data t.frame) ++ 32 ∷ []) → new ≡ c ++ spell (class_word t.class ∷ set_word t.accepted ∷ set_word t.off ∷ restarted_words t.restarted) [] → new ≡ answered_line (Attempt m v) (reply.Attempted (attempt.Tried t)) []
tried_line m v t a b c new ha hb hc hn = tried_words (moment_word m) (verdict_word v) (decimal t.winner) (decimal t.number) (frame_spelling (item.Data t.frame)) (class_word t.class) (set_word t.accepted) (set_word t.off) (restarted_words t.restarted) a b c new ha hb hc hn
