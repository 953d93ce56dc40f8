-- The first word of a text, and the text after it.
use Rattle.std.proofs.Common.{◌≡◌, ◌-◌, ap, sym, ◌∙◌, append_assoc, ℕ, ◌+◌, ◌<◌, ◌≤◌, true, false, not, ◌&&◌, cond, leb, List, [], ◌∷◌, ◌++◌, length, take, drop, get_or, refl, arith}
use Rattle.std.proofs.Common.{rules}
use Rattle.std.proofs.lemmas.Bool.{le-leb}
use Rattle.std.proofs.lemmas.List.{at_drop_more, at_drop_all, take_more, take_all, drop_all, append-nil, length-drop}
use Rattle.can_record_text.specs.inner.Words.{is_gap, is_word, word, after}

pub word-spelled : (w rest : List ℕ) (g : ℕ) → is_word w ≡ true → is_gap g ≡ true → word (w ++ g ∷ rest) ≡ w
unfolding word
word-spelled [] rest g h k = rw k refl
word-spelled (b ∷ w) rest g h k = elim (is_gap b) as (λ t. (not t && is_word w) ≡ true → cond t [] (b ∷ word (w ++ g ∷ rest)) ≡ b ∷ w) [
  | true ↦ λ e. absurd cc
  | false ↦ λ e. ap (λ (x : List ℕ). b ∷ x) (word-spelled w rest g e k)
] h

pub after-spelled : (w rest : List ℕ) (g : ℕ) → is_word w ≡ true → is_gap g ≡ true → after (w ++ g ∷ rest) ≡ rest
unfolding after
after-spelled [] rest g h k = rw k refl
after-spelled (b ∷ w) rest g h k = elim (is_gap b) as (λ t. (not t && is_word w) ≡ true → cond t (w ++ g ∷ rest) (after (w ++ g ∷ rest)) ≡ rest) [
  | true ↦ λ e. absurd cc
  | false ↦ λ e. after-spelled w rest g e k
] h

leb-of : (a b : ℕ) → a ≤ b → leb a b ≡ true
leb-of a b h = search (rules, le-leb)

leb-not : (a b : ℕ) → b < a → leb a b ≡ false
leb-not a b h = grind arith

word_past : (b : ℕ) (bs : List ℕ) → 32 < b → word (b ∷ bs) ≡ b ∷ word bs
unfolding word
word_past b bs h = rw (leb-not b 32 h) refl

after_past : (b : ℕ) (bs : List ℕ) → 32 < b → after (b ∷ bs) ≡ after bs
unfolding after
after_past b bs h = rw (leb-not b 32 h) refl

word_at : (b : ℕ) (bs : List ℕ) → b ≤ 32 → word (b ∷ bs) ≡ []
unfolding word
word_at b bs h = rw (leb-of b 32 h) refl

after_at : (b : ℕ) (bs : List ℕ) → b ≤ 32 → after (b ∷ bs) ≡ bs
unfolding after
after_at b bs h = rw (leb-of b 32 h) refl

pub word_none : word [] ≡ []
unfolding word
word_none = refl

pub after_none : after [] ≡ []
unfolding after
after_none = refl

pub word_goes : (text : List ℕ) (k d : ℕ) → k < length text → 32 < get_or text k d → word text ≡ take k text ++ word (drop k text) → word text ≡ take (k + 1) text ++ word (drop (k + 1) text)
word_goes text k d lt above so_far =
    so_far ∙ ap (λ (x : List ℕ). take k text ++ x) (at_drop_more word text k d lt ∙ word_past (get_or text k d) (drop (k + 1) text) above)
    ∙ sym (append_assoc (take k text) (get_or text k d ∷ []) (word (drop (k + 1) text)))
    ∙ ap (λ (x : List ℕ). x ++ word (drop (k + 1) text)) (sym (take_more text k d lt))

pub after_goes : (text : List ℕ) (k d : ℕ) → k < length text → 32 < get_or text k d → after text ≡ after (drop k text) → after text ≡ after (drop (k + 1) text)
after_goes text k d lt above so_far = so_far ∙ at_drop_more after text k d lt ∙ after_past (get_or text k d) (drop (k + 1) text) above

pub word_ends : (text : List ℕ) (k d : ℕ) → k < length text → get_or text k d ≤ 32 → word text ≡ take k text ++ word (drop k text) → take k text ≡ word text
word_ends text k d lt low so_far =
    sym (so_far ∙ ap (λ (x : List ℕ). take k text ++ x) (at_drop_more word text k d lt ∙ word_at (get_or text k d) (drop (k + 1) text) low) ∙ append-nil (take k text))

pub after_ends : (text : List ℕ) (k d : ℕ) → k < length text → get_or text k d ≤ 32 → after text ≡ after (drop k text) → drop (k + 1) text ≡ after text
after_ends text k d lt low so_far = sym (so_far ∙ at_drop_more after text k d lt ∙ after_at (get_or text k d) (drop (k + 1) text) low)

pub word_all : (text : List ℕ) (k : ℕ) → length text ≤ k → word text ≡ take k text ++ word (drop k text) → text ≡ word text
word_all text k le so_far = sym (so_far ∙ ap (λ (x : List ℕ). take k text ++ x) (at_drop_all word text k le ∙ word_none) ∙ append-nil (take k text) ∙ take_all k text le)

pub after_all : (text : List ℕ) (k : ℕ) → length text ≤ k → after text ≡ after (drop k text) → drop (length text) text ≡ after text
after_all text k le so_far = drop_all (length text) text (omega arith) ∙ sym (so_far ∙ at_drop_all after text k le ∙ after_none)

-- the rest of a text after place k, as a range of the text
pub rest_of : (text : List ℕ) (k : ℕ) → take (length text - k) (drop k text) ≡ drop k text
rest_of text k = take_all (length text - k) (drop k text) (omega (arith, length-drop k text))
