-- The part of a run that the reader keeps as it reads more bytes.
use Rattle.std.proofs.Common.{◌≡◌, ℕ, ◌+◌, ◌-◌, ◌<◌, ◌≤◌, false, ◌||◌, List, [], ◌∷◌, ◌++◌, length, take, drop, get_or, sym, ap, subst, ◌∙◌, append_assoc, arith}
use Rattle.std.proofs.lemmas.List.{append-nil, length-append, length-take, length-drop, take_more, drop-append-le, drop_all, drop-take, take-take, take-append-drop, take_all}
use Rattle.can_proto.specs.declared.message.Incoming.{Incoming}
use Rattle.can_proto.specs.declared.message.Incoming.TheVariants.{Message, TooLong}
use Rattle.can_proto.specs.declared.scanning.RunStart.{RunStart}
use Rattle.can_proto.specs.declared.scanning.RunStart.TheVariants.{Outside, Carried, At}
use Rattle.can_proto.specs.Messages.{messages_of, kept_of, has_mark, is_mark, limit, MayBeKept}
use Rattle.can_proto.specs.Scanning.{text_kept_at, IsWithin, ReadsUpTo}
use Rattle.can_proto.proofs.Pieces.{opens, closes, goes_on, too_long, passes_by, no_mark, no_marks, mark_more, kept-is, kept-kept, messages-append, kept-append}

pub nothing_new : (items more : List Incoming) → more ≡ [] → items ≡ items ++ more
nothing_new items more h = sym (ap (λ (m : List Incoming). items ++ m) h ∙ append-nil items)

pub opens-given : (items : List Incoming) (t : List ℕ) (b : ℕ) → b ≡ 60 → MayBeKept t → items ≡ items ++ messages_of (t ++ b ∷ [])
opens-given items t b e h = nothing_new items (messages_of (t ++ b ∷ [])) (rw e (opens t h).0)

-- a run begins at the end of the bytes that were read so far
pub opens-kept : (piece t : List ℕ) (i b : ℕ) → i < length piece → b ≡ 60 → MayBeKept t → 60 ∷ drop (i + 1) (take (i + 1) piece) ≡ kept_of (t ++ b ∷ [])
opens-kept piece t i b lt e h =
    let none : drop (i + 1) (take (i + 1) piece) ≡ [] = drop_all (i + 1) (take (i + 1) piece) (omega (arith, length-take (i + 1) piece)) in
    ap (λ (r : List ℕ). 60 ∷ r) none ∙ sym (rw e (opens t h).1)

-- the run continues, either from the held bytes or from its start in the piece
pub parts : (piece : List ℕ) (i end : ℕ) → i ≤ end → take end piece ≡ take i piece ++ drop i (take end piece)
parts piece i end le = sym (ap (λ (t : List ℕ). t ++ drop i (take end piece)) (sym (take-take i end piece le)) ∙ take-append-drop i (take end piece))

pub carried_more : (held piece : List ℕ) (i end : ℕ) → i ≤ end → held ++ take end piece ≡ (held ++ take i piece) ++ drop i (take end piece)
carried_more held piece i end le = ap (λ (t : List ℕ). held ++ t) (parts piece i end le) ∙ sym (append_assoc held (take i piece) (drop i (take end piece)))

pub started_more : (piece : List ℕ) (start i end : ℕ) → start ≤ i → i ≤ end → end ≤ length piece → drop start (take end piece) ≡ drop start (take i piece) ++ drop i (take end piece)
started_more piece start i end s le lt = ap (λ (t : List ℕ). drop start t) (parts piece i end le) ∙ drop-append-le start (take i piece) (drop i (take end piece)) (omega (arith, length-take i piece))

pub carried_length : (held piece : List ℕ) (i end : ℕ) → i ≤ end → end ≤ length piece → length ((held ++ take i piece) ++ drop i (take end piece)) ≡ length held + end
carried_length held piece i end le lt = ap (λ (t : List ℕ). length t) (sym (carried_more held piece i end le)) ∙ omega (arith, length-append held (take end piece), length-take end piece)

-- the bytes that were searched contain no mark
pub clear_start : (piece : List ℕ) (from : ℕ) → has_mark (drop from (take from piece)) ≡ false
clear_start piece from = ap has_mark (drop_all from (take from piece) (omega (arith, length-take from piece)))

one_more : (piece : List ℕ) (from i : ℕ) → from ≤ i → i < length piece → drop from (take (i + 1) piece) ≡ drop from (take i piece) ++ get_or piece i 0 ∷ []
one_more piece from i le lt = rw (take_more piece i 0 lt) (drop-append-le from (take i piece) (get_or piece i 0 ∷ []) (omega (arith, length-take i piece)))

-- one byte of a piece, as it is read
one : (piece : List ℕ) (i : ℕ) → i < length piece → get_or piece i 0 ∷ [] ≡ drop i (take (i + 1) piece)
one piece i lt =
    let none : drop i (take i piece) ≡ [] = drop_all i (take i piece) (omega (arith, length-take i piece)) in
    ap (λ (t : List ℕ). t ++ get_or piece i 0 ∷ []) (sym none) ∙ sym (one_more piece i i (omega arith) lt)

pub reads-mark : (held piece : List ℕ) (i : ℕ) (place next : RunStart) (before after : List Incoming) → i < length piece
    → after ≡ before ++ messages_of (text_kept_at held piece i place ++ get_or piece i 0 ∷ []) → text_kept_at held piece (i + 1) next ≡ kept_of (text_kept_at held piece i place ++ get_or piece i 0 ∷ []) → IsWithin next (i + 1)
    → ReadsUpTo held piece i place (i + 1) before after next
reads-mark held piece i place next before after lt given keeps within =
    let text = text_kept_at held piece i place in
    let byte = one piece i lt in
    (given ∙ ap (λ (t : List ℕ). before ++ messages_of (text ++ t)) byte, keeps ∙ ap (λ (t : List ℕ). kept_of (text ++ t)) byte, within)

pub clear_more : (piece : List ℕ) (from i : ℕ) → from ≤ i → i < length piece → has_mark (drop from (take i piece)) ≡ false → (get_or piece i 0 ≡ 60 → ⊥) → (get_or piece i 0 ≡ 62 → ⊥) → has_mark (drop from (take (i + 1) piece)) ≡ false
clear_more piece from i le lt h n60 n62 = rw (one_more piece from i le lt) (no_mark (drop from (take i piece)) (get_or piece i 0) h n60 n62)

pub clear_block : (piece : List ℕ) (from i end : ℕ) → from ≤ i → i ≤ end → end ≤ length piece → has_mark (drop from (take i piece)) ≡ false → has_mark (drop i (take end piece)) ≡ false → has_mark (drop from (take end piece)) ≡ false
clear_block piece from i end s le lt h k = ap has_mark (started_more piece from i end s le lt) ∙ no_marks (drop from (take i piece)) (drop i (take end piece)) h k

pub block_more : (piece : List ℕ) (from i : ℕ) → from ≤ i → i < length piece → has_mark (drop from (take (i + 1) piece)) ≡ (has_mark (drop from (take i piece)) || is_mark (get_or piece i 0))
block_more piece from i le lt =
    let more : drop from (take (i + 1) piece) ≡ drop from (take i piece) ++ get_or piece i 0 ∷ [] = one_more piece from i le lt in
    ap has_mark more ∙ mark_more (drop from (take i piece)) (get_or piece i 0)

pub started_length : (piece : List ℕ) (start i end : ℕ) → start ≤ i → i ≤ end → end ≤ length piece → length (drop start (take i piece) ++ drop i (take end piece)) ≡ end - start
started_length piece start i end s le lt = ap (λ (t : List ℕ). length t) (sym (started_more piece start i end s le lt)) ∙ omega (arith, length-drop start (take end piece), length-take end piece)

pub closes-with : (run : List ℕ) (b : ℕ) → b ≡ 62 → MayBeKept (60 ∷ run) → (messages_of ((60 ∷ run) ++ b ∷ []) ≡ Message run ∷ []) × (kept_of ((60 ∷ run) ++ b ∷ []) ≡ [])
closes-with run b e h = rw e (closes run h.1 h.2)

pub pushed : (new old more : List Incoming) (m : Incoming) → new ≡ old ++ m ∷ [] → more ≡ m ∷ [] → new ≡ old ++ more
pushed new old more m h k = h ∙ ap (λ (x : List Incoming). old ++ x) (sym k)

-- the five cases for the next byte, if the kept text is `<` and a run
pub closes-at : (t run : List ℕ) (b : ℕ) → t ≡ 60 ∷ run → MayBeKept t → b ≡ 62 → (messages_of (t ++ b ∷ []) ≡ Message run ∷ []) × ([] ≡ kept_of (t ++ b ∷ []))
closes-at t run b e h k =
    let w : MayBeKept (60 ∷ run) = subst MayBeKept e h in
    let p = closes-with run b k w in
    (ap (λ (x : List ℕ). messages_of (x ++ b ∷ [])) e ∙ p.0, sym (ap (λ (x : List ℕ). kept_of (x ++ b ∷ [])) e ∙ p.1))

pub too_long-at : (t run more : List ℕ) → t ≡ 60 ∷ run → MayBeKept t → has_mark more ≡ false → limit < length (run ++ more) → (messages_of (t ++ more) ≡ TooLong ∷ []) × ([] ≡ kept_of (t ++ more))
too_long-at t run more e h clear long =
    let w : MayBeKept (60 ∷ run) = subst MayBeKept e h in
    let p = too_long run more w.1 clear long in
    (ap (λ (x : List ℕ). messages_of (x ++ more)) e ∙ p.0, sym (ap (λ (x : List ℕ). kept_of (x ++ more)) e ∙ p.1))

pub goes_on-at : (t run more : List ℕ) → t ≡ 60 ∷ run → MayBeKept t → has_mark more ≡ false → length (run ++ more) ≤ limit → (messages_of (t ++ more) ≡ []) × (60 ∷ (run ++ more) ≡ kept_of (t ++ more))
goes_on-at t run more e h clear short =
    let w : MayBeKept (60 ∷ run) = subst MayBeKept e h in
    let p = goes_on run more w.1 clear short in
    (ap (λ (x : List ℕ). messages_of (x ++ more)) e ∙ p.0, sym (ap (λ (x : List ℕ). kept_of (x ++ more)) e ∙ p.1))

pub passes_by-at : (t more : List ℕ) → t ≡ [] → has_mark more ≡ false → (messages_of (t ++ more) ≡ []) × ([] ≡ kept_of (t ++ more))
passes_by-at t more e clear =
    let p = passes_by more clear in
    (ap (λ (x : List ℕ). messages_of (x ++ more)) e ∙ p.0, sym (ap (λ (x : List ℕ). kept_of (x ++ more)) e ∙ p.1))

pub text-carried : (held piece : List ℕ) (i : ℕ) (place : RunStart) → place ≡ Carried → text_kept_at held piece i place ≡ 60 ∷ (held ++ take i piece)
text-carried held piece i place e = ap (text_kept_at held piece i) e

pub text-at : (held piece : List ℕ) (i start : ℕ) (place : RunStart) → place ≡ At start → text_kept_at held piece i place ≡ 60 ∷ drop start (take i piece)
text-at held piece i start place e = ap (text_kept_at held piece i) e

pub text-outside : (held piece : List ℕ) (i : ℕ) (place : RunStart) → place ≡ Outside → text_kept_at held piece i place ≡ []
text-outside held piece i place e = ap (text_kept_at held piece i) e

pub slice_is : (piece : List ℕ) (start i : ℕ) → start ≤ i → drop start (take i piece) ≡ take (i - start) (drop start piece)
slice_is piece start i le =
    let e : i ≡ start + (i - start) = omega arith in
    ap (λ (n : ℕ). drop start (take n piece)) e ∙ drop-take start (i - start) piece

-- the steps of the loop over a piece
pub starts-carried : (held piece : List ℕ) (place : RunStart) → place ≡ Carried → text_kept_at held piece 0 place ≡ 60 ∷ held
starts-carried held piece place e = ap (text_kept_at held piece 0) e ∙ ap (λ (r : List ℕ). 60 ∷ r) (append-nil held)

pub starts-outside : (held piece : List ℕ) (place : RunStart) → place ≡ Outside → text_kept_at held piece 0 place ≡ []
starts-outside held piece place e = ap (text_kept_at held piece 0) e

pub nothing-yet : (t : List ℕ) → MayBeKept t → ([] ≡ messages_of (t ++ [])) × (t ≡ kept_of (t ++ []))
nothing-yet t h =
    let k = kept-is t h in
    (sym (ap messages_of (append-nil t) ∙ k.0), sym (ap kept_of (append-nil t) ∙ k.1))

pub past-given : (text before part all t : List ℕ) (items after : List Incoming) → all ≡ before ++ part → items ≡ messages_of (text ++ before) → t ≡ kept_of (text ++ before)
    → after ≡ items ++ messages_of (t ++ part) → after ≡ messages_of (text ++ all)
past-given text before part all t items after whole given keeps h =
    h ∙ ap (λ (m : List Incoming). m ++ messages_of (t ++ part)) given
    ∙ ap (λ (k : List ℕ). messages_of (text ++ before) ++ messages_of (k ++ part)) keeps
    ∙ sym (messages-append (text ++ before) part)
    ∙ ap messages_of (append_assoc text before part)
    ∙ ap (λ (x : List ℕ). messages_of (text ++ x)) (sym whole)

pub past-keeps : (text before part all t after : List ℕ) → all ≡ before ++ part → t ≡ kept_of (text ++ before) → after ≡ kept_of (t ++ part) → after ≡ kept_of (text ++ all)
past-keeps text before part all t after whole keeps h =
    h ∙ ap (λ (k : List ℕ). kept_of (k ++ part)) keeps
    ∙ sym (kept-append (text ++ before) part)
    ∙ ap kept_of (append_assoc text before part)
    ∙ ap (λ (x : List ℕ). kept_of (text ++ x)) (sym whole)

pub kept_by : (t text : List ℕ) → t ≡ kept_of text → MayBeKept t
kept_by t text e = subst MayBeKept (sym e) (kept-kept text)

-- the text that the reader keeps after the call
pub after-carried : (inside held piece text : List ℕ) (place : RunStart) → held ≡ inside → place ≡ Carried → text_kept_at held piece (length piece) place ≡ kept_of text → 60 ∷ (inside ++ piece) ≡ kept_of text
after-carried inside held piece text place e p h =
    let all : take (length piece) piece ≡ piece = take_all (length piece) piece (omega arith) in
    ap (λ (r : List ℕ). 60 ∷ (inside ++ r)) (sym all) ∙ ap (λ (r : List ℕ). 60 ∷ (r ++ take (length piece) piece)) (sym e) ∙ sym (text-carried held piece (length piece) place p) ∙ h

pub after-at : (held piece text : List ℕ) (start : ℕ) (place : RunStart) → place ≡ At start → start ≤ length piece → text_kept_at held piece (length piece) place ≡ kept_of text → 60 ∷ take (length piece - start) (drop start piece) ≡ kept_of text
after-at held piece text start place p le h =
    ap (λ (r : List ℕ). 60 ∷ r) (sym (slice_is piece start (length piece) le)) ∙ sym (text-at held piece (length piece) start place p) ∙ h

pub after-outside : (held piece text : List ℕ) (place : RunStart) → place ≡ Outside → text_kept_at held piece (length piece) place ≡ kept_of text → [] ≡ kept_of text
after-outside held piece text place p h = sym (ap (text_kept_at held piece (length piece)) p) ∙ h

pub short_run : (run : List ℕ) → MayBeKept (60 ∷ run) → length run ≤ limit
short_run run h = h.2

pub held_fits : (t held more : List ℕ) → t ≡ 60 ∷ (held ++ more) → MayBeKept t → length held ≤ limit
held_fits t held more e h = let short = short_run (held ++ more) (subst MayBeKept e h) in omega (arith, short, length-append held more)
