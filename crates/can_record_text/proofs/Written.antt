-- A line, split into the parts in which it is written.
use Rattle.std.proofs.Common.{◌≡◌, ℕ, List, [], ◌∷◌, ◌++◌, length, append_assoc, refl, sym, ap, ◌∙◌, arith}
use Rattle.std.specs.Prelude.{codes}
use Rattle.std.specs.List.{flat_map}
use Rattle.std.proofs.lemmas.List.{append-nil}
use Rattle.can_filter.specs.Filters.{CanFilter}
use Rattle.can_event.specs.declared.event.Event.{Event}
use Rattle.can_event.specs.declared.reply.Reply.{Reply}
use Rattle.can_record_text.specs.inner.Words.{spaced}
use Rattle.can_record_text.specs.Spelling.{spell, mask_word, filter_words, event_words, reply_words, answered_line}

-- the text that is written for one filter
abbrev pub filter_part : CanFilter → List ℕ
filter_part f = spaced (filter_words (f ∷ []))

pub filters_words : (fs : List CanFilter) → flat_map filter_part fs ≡ spaced (filter_words fs)
filters_words [] = refl
filters_words (f ∷ fs) = rw (filters_words fs) (append_assoc (mask_word f.id ++ 32 ∷ []) ((mask_word f.mask ++ 32 ∷ []) ++ []) (spaced (filter_words fs)) ∙ ap (λ (x : List ℕ). (mask_word f.id ++ 32 ∷ []) ++ x) (append_assoc (mask_word f.mask ++ 32 ∷ []) [] (spaced (filter_words fs))))

pub two_words : (out mid new a b : List ℕ) → mid ≡ out ++ (a ++ 32 ∷ []) → new ≡ mid ++ (b ++ 32 ∷ []) → new ≡ out ++ spaced (a ∷ b ∷ [])
two_words out mid new a b front back = back ∙ rw (front) (append_assoc out (a ++ 32 ∷ []) (b ++ 32 ∷ []) ∙ ap (λ (x : List ℕ). out ++ ((a ++ 32 ∷ []) ++ x)) (sym (append-nil (b ++ 32 ∷ []))))

-- ---- a line's parts

pub spell-append : (ws vs : List (List ℕ)) (v rest : List ℕ) → spaced ws ++ spell (v ∷ vs) rest ≡ spell (ws ++ v ∷ vs) rest
spell-append [] vs v rest = refl
spell-append (w ∷ []) vs v rest = append_assoc (w ++ 32 ∷ []) [] (spell (v ∷ vs) rest) ∙ append_assoc w (32 ∷ []) (spell (v ∷ vs) rest)
spell-append (w ∷ u ∷ ws) vs v rest =
    append_assoc (w ++ 32 ∷ []) (spaced (u ∷ ws)) (spell (v ∷ vs) rest)
    ∙ append_assoc w (32 ∷ []) (spaced (u ∷ ws) ++ spell (v ∷ vs) rest)
    ∙ ap (λ (x : List ℕ). w ++ 32 ∷ x) (spell-append (u ∷ ws) vs v rest)

-- the line: the words of the event up to its filters, the words of the filters, and the reply
pub line_of : (e : Event) (r : Reply) (fs : List CanFilter) (front : List ℕ) → front ++ spaced (filter_words fs) ≡ spaced (event_words e) → front ++ (spaced (filter_words fs) ++ spell (codes "=" ∷ reply_words r) []) ≡ answered_line e r []
line_of e r fs front is =
    let end = spell (codes "=" ∷ reply_words r) [] in
    sym (append_assoc front (spaced (filter_words fs)) end) ∙ ap (λ (x : List ℕ). x ++ end) is ∙ spell-append (event_words e) (reply_words r) (codes "=") []

empty : (fs : List CanFilter) → length fs ≡ 0 → fs ≡ []
empty [] h = refl
empty (f ∷ fs) h = absurd (omega (arith, h))

-- a line without filters
pub plain_line : (e : Event) (r : Reply) (fs : List CanFilter) (front new : List ℕ) → front ++ spaced (filter_words fs) ≡ spaced (event_words e) → length fs ≡ 0 → new ≡ front ++ spell (codes "=" ∷ reply_words r) [] → new ≡ answered_line e r []
plain_line e r fs front new is none hn =
    hn ∙ ap (λ (xs : List CanFilter). front ++ (spaced (filter_words xs) ++ spell (codes "=" ∷ reply_words r) [])) (sym (empty fs none)) ∙ line_of e r fs front is

-- a line with filters
pub filter_line : (e : Event) (r : Reply) (fs : List CanFilter) (front out a b end new : List ℕ) → front ++ spaced (filter_words fs) ≡ spaced (event_words e) → a ≡ out ++ front → b ≡ a ++ spaced (filter_words fs) → end ≡ spell (codes "=" ∷ reply_words r) [] → new ≡ b ++ end → new ≡ out ++ answered_line e r []
filter_line e r fs front out a b end new is ha hb he hn =
    hn ∙ rw (hb, ha, he) (append_assoc (out ++ front) (spaced (filter_words fs)) (spell (codes "=" ∷ reply_words r) []) ∙ append_assoc out front (spaced (filter_words fs) ++ spell (codes "=" ∷ reply_words r) []))
    ∙ ap (λ (x : List ℕ). out ++ x) (line_of e r fs front is)
