-- Lists of lines.
use Rattle.std.proofs.Common.{◌≡◌, ℕ, ◌<◌, ◌≤◌, List, [], ◌∷◌, ◌++◌, length, drop, codes, append_assoc, length-append, refl, sym, ap, ◌∙◌, arith}
use Rattle.std.proofs.lemmas.List.{length-drop}
use Rattle.can_event.specs.declared.bus_config.BusConfig.{BusConfig}
use Rattle.can_event.specs.declared.entry.Entry.{Entry}
use Rattle.can_record_text.specs.declared.version.Version.{Version}
use Rattle.can_record_text.specs.Values.{HasLine}
use Rattle.can_record_text.specs.LongRuns.{entries_in, lines_of_blocks}
use Rattle.can_record_text.specs.Spelling.{entry_words, entry_line, entry_lines, event_words, gap_before, reply_words, spell}
use Rattle.can_record_text.proofs.Again.{spell-rest, line_some}

pub lines-rest : (es : List Entry) (rest : List ℕ) → entry_lines es [] ++ rest ≡ entry_lines es rest
unfolding entry_lines
lines-rest [] rest = refl
lines-rest (e ∷ es) rest =
    ap (λ (x : List ℕ). x ++ rest) (sym (spell-rest (entry_words e) (entry_lines es [])))
    ∙ append_assoc (entry_line e []) (entry_lines es []) rest
    ∙ ap (λ (x : List ℕ). entry_line e [] ++ x) (lines-rest es rest)
    ∙ spell-rest (entry_words e) (entry_lines es rest)

pub lines-push : (es : List Entry) (e : Entry) (rest : List ℕ) → entry_lines (es ++ e ∷ []) rest ≡ entry_lines es (entry_line e rest)
unfolding entry_lines
lines-push [] e rest = refl
lines-push (d ∷ es) e rest = ap (λ (x : List ℕ). entry_line d x) (lines-push es e rest)

-- one more line
pub lines-more : (es : List Entry) (e : Entry) → entry_lines es [] ++ entry_line e [] ≡ entry_lines (es ++ e ∷ []) []
lines-more es e = lines-rest es (entry_line e []) ∙ sym (lines-push es e [])

pub first_lines : (text : List ℕ) (es : List Entry) → es ≡ [] → text ≡ entry_lines es text
unfolding entry_lines
first_lines text es is = rw is refl

-- the text after a line
pub line_after : (text buffer : List ℕ) (e : Entry) → buffer ≡ entry_line e [] → text ≡ entry_line e [] ++ drop (length (entry_line e [])) text → text ≡ entry_line e (drop (length buffer) text)
line_after text buffer e b is = is ∙ rw b (spell-rest (entry_words e) (drop (length (entry_line e [])) text))

pub line_within : (text buffer : List ℕ) (e : Entry) → buffer ≡ entry_line e [] → text ≡ entry_line e [] ++ drop (length (entry_line e [])) text → length buffer ≤ length text
line_within text buffer e b is = omega (arith, ap length b, ap length is, length-append (entry_line e []) (drop (length (entry_line e [])) text))

pub not_zero : (xs : List ℕ) → (xs ≡ [] → ⊥) → 0 < length xs
not_zero [] h = absurd (h refl)
not_zero (x ∷ xs) h = omega arith

-- a line with at least one word is not empty
pub spelled_some : (before : List (List ℕ)) (w : List ℕ) (ws : List (List ℕ)) → 0 < length (spell (before ++ w ∷ ws) [])
spelled_some [] w ws = omega (arith, length-append w (gap_before ws ∷ spell ws []))
spelled_some (b ∷ bs) w ws = omega (arith, length-append b (gap_before (bs ++ w ∷ ws) ∷ spell (bs ++ w ∷ ws) []))

-- the line of an entry is not empty
pub line_never_empty : (e : Entry) → 0 < length (entry_line e [])
line_never_empty e = spelled_some (event_words e.event) (codes "=") (reply_words e.reply)

pub line_shorter : (text buffer : List ℕ) (v : Version) (c : BusConfig) (e : Entry) → HasLine v c e → buffer ≡ entry_line e [] → length buffer ≤ length text → length (drop (length buffer) text) < length text
line_shorter text buffer v c e good b within = omega (arith, length-drop (length buffer) text, ap length b, not_zero (entry_line e []) (line_some v c e good), within)

pub lines_go_on : (text rest buffer : List ℕ) (es more : List Entry) (e : Entry) → text ≡ entry_lines es rest → buffer ≡ entry_line e [] → rest ≡ entry_line e [] ++ drop (length (entry_line e [])) rest → more ≡ es ++ e ∷ [] → text ≡ entry_lines more (drop (length buffer) rest)
lines_go_on text rest buffer es more e so_far b is kept =
    so_far ∙ ap (entry_lines es) (line_after rest buffer e b is) ∙ sym (lines-push es e (drop (length buffer) rest)) ∙ ap (λ (x : List Entry). entry_lines x (drop (length buffer) rest)) (sym kept)

-- ---- blocks of entries

lines-join : (es more : List Entry) (rest : List ℕ) → entry_lines (es ++ more) rest ≡ entry_lines es (entry_lines more rest)
unfolding entry_lines
lines-join [] more rest = refl
lines-join (e ∷ es) more rest = ap (λ (x : List ℕ). entry_line e x) (lines-join es more rest)

-- the lines of the blocks are the lines of all their entries
pub blocks-rest : (blocks : List (List Entry)) (rest : List ℕ) → lines_of_blocks blocks ++ rest ≡ entry_lines (entries_in blocks) rest
unfolding entry_lines
blocks-rest [] rest = refl
blocks-rest (b ∷ blocks) rest =
    append_assoc (entry_lines b []) (lines_of_blocks blocks) rest
    ∙ ap (λ (x : List ℕ). entry_lines b [] ++ x) (blocks-rest blocks rest)
    ∙ lines-rest b (entry_lines (entries_in blocks) rest)
    ∙ sym (lines-join b (entries_in blocks) rest)
