-- Every line ends with its LF.
use Rattle.std.proofs.Common.{◌≡◌, ◌≢◌, ◌==◌, ◌&&◌, not, cond, ℕ, ◌^◌, ◌<◌, Bool, true, false, List, [], ◌∷◌, ◌++◌, length, take, refl, subst, suc, ◌-◌, sym, ap, ◌∙◌, arith}
use Rattle.std.specs.Prelude.{All, codes}
use Rattle.std.proofs.lemmas.Bool.{ne_eqb}
use Rattle.std.proofs.lemmas.List.Elements.{All-head, All-tail}
use Rattle.std.specs.Io.{StopsAt}
use Rattle.std.specs.Io.BufRead.{take_through}
use Rattle.std.proofs.lemmas.List.{append-nil}
use Rattle.can_event.specs.declared.bus_config.BusConfig.{BusConfig}
use Rattle.can_event.specs.declared.entry.Entry.{Entry}
use Rattle.can_record_text.specs.declared.version.Version.{Version}
use Rattle.can_record_text.specs.declared.version.Version.TheVariants as version
use Rattle.can_record_text.specs.inner.Words.{is_gap, is_word}
use Rattle.can_record_text.specs.RecordFaults.{LacksBus, LacksEnd, LacksEntry, LacksFirst}
use Rattle.can_record_text.specs.Spelling.{bus_words, end_words, entry_line, entry_words, event_words, first_line, reply_words, spell}
use Rattle.can_record_text.specs.Values.{HasBusLine, HasLine}
use Rattle.can_record_text.proofs.Again.{spell-rest}
use Rattle.can_replay.specs.TextAudits.{EndsNoLine, IsLine, MayFollow}
use Rattle.can_replay.proofs.PlainWords.{AreWords, bus_are_words, end_are_words, entry_are_words}

-- No byte of a word ends a line.
word_through : (w xs : List ℕ) → is_word w ≡ true → take_through 10 (w ++ xs) ≡ w ++ take_through 10 xs
word_through [] xs h = refl
word_through (b ∷ w) xs h = when (is_gap b) refl h (λ e. word_through w xs e)
  where
    when : (g : Bool) → is_gap b ≡ g → (not g && is_word w) ≡ true → (is_word w ≡ true → take_through 10 (w ++ xs) ≡ w ++ take_through 10 xs) → take_through 10 (b ∷ w ++ xs) ≡ b ∷ w ++ take_through 10 xs
    when true is e more = absurd cc
    when false is e more =
        let other : (b == 10) ≡ false = grind (arith, is) in
        rw other (ap (λ (ys : List ℕ). b ∷ ys) (more e))

-- A spelled line ends at its LF and has no other LF.
spell_through : (w : List ℕ) (ws : List (List ℕ)) (rest : List ℕ) → AreWords (w ∷ ws) → take_through 10 (spell (w ∷ ws) rest) ≡ spell (w ∷ ws) []
spell_through w [] rest h = word_through w (10 ∷ rest) h.0
spell_through w (v ∷ ws) rest h = word_through w (32 ∷ spell (v ∷ ws) rest) h.0 ∙ ap (λ (ys : List ℕ). w ++ 32 ∷ ys) (spell_through v ws rest h.1)

pub first_through : (v : Version) (rest : List ℕ) → take_through 10 (first_line v ++ rest) ≡ first_line v
first_through version.One rest = refl
first_through version.Two rest = refl
first_through version.Three rest = refl
first_through version.Four rest = refl
first_through version.Five rest = refl
first_through version.Six rest = refl

spell_some : (w : List ℕ) (ws : List (List ℕ)) (rest : List ℕ) → spell (w ∷ ws) rest ≡ [] → ⊥
spell_some [] ws rest e = absurd cc
spell_some (b ∷ w) ws rest e = absurd cc

words_through : (ws : List (List ℕ)) (rest : List ℕ) → AreWords ws → ws ≢ [] → take_through 10 (spell ws rest) ≡ spell ws []
words_through [] rest h some = absurd (some refl)
words_through (w ∷ ws) rest h some = spell_through w ws rest h

-- If a text begins with two such lines, the two lines are equal.
pub same_line : (line after whole l : List ℕ) → MayFollow line after → line ++ after ≡ whole → take_through 10 whole ≡ l → line ≡ l
same_line line after whole l may is through = sym may ∙ ap (take_through 10) is ∙ through

pub event_words_then : (e : Entry) → entry_words e ≢ []
event_words_then e is = append_cons_some (event_words e.event) (codes "=") (reply_words e.reply) is
  where
    append_cons_some : (xs : List (List ℕ)) (y : List ℕ) (ys : List (List ℕ)) → xs ++ y ∷ ys ≡ [] → ⊥
    append_cons_some [] y ys e = absurd cc
    append_cons_some (x ∷ xs) y ys e = absurd cc

entry_through : (v : Version) (c : BusConfig) (e : Entry) (rest : List ℕ) → HasLine v c e → take_through 10 (entry_line e rest) ≡ entry_line e []
entry_through v c e rest h = words_through (entry_words e) rest (entry_are_words v c e h) (event_words_then e)

pub bus_through : (v : Version) (c : BusConfig) (rest : List ℕ) → HasBusLine v c → take_through 10 (spell (bus_words v c) rest) ≡ spell (bus_words v c) []
bus_through v c rest h = words_through (bus_words v c) rest (bus_are_words v c h) (λ is. absurd cc)

end_through : (n : ℕ) (rest : List ℕ) → n < 2 ^ 64 → take_through 10 (spell (end_words n) rest) ≡ spell (end_words n) []
end_through n rest h = words_through (end_words n) rest (end_are_words n h) (λ is. absurd cc)

-- ---- a single line

line_through : (xs : List ℕ) → StopsAt xs 10 → take_through 10 xs ≡ xs
line_through [] h = refl
line_through (x ∷ []) h = one (x == 10)
  where
    one : (b : Bool) → cond b (x ∷ []) (x ∷ []) ≡ x ∷ []
    one true = refl
    one false = refl
line_through (x ∷ y ∷ ys) h =
    let short : length (x ∷ y ∷ ys) - 1 ≡ suc (length (y ∷ ys) - 1) = omega arith in
    let all = subst (λ (n : ℕ). All (λ z. z ≢ 10) (take n (x ∷ y ∷ ys))) short h in
    let first : x ≢ 10 = All-head (λ z. z ≢ 10) x (take (length (y ∷ ys) - 1) (y ∷ ys)) all in
    let rest = All-tail (λ z. z ≢ 10) x (take (length (y ∷ ys) - 1) (y ∷ ys)) all in
    rw (ne_eqb x 10 first) (ap (λ (zs : List ℕ). x ∷ zs) (line_through (y ∷ ys) rest))

pub nothing_more : (line : List ℕ) → IsLine line → MayFollow line []
nothing_more line is = ap (take_through 10) (append-nil line) ∙ line_through line is.stops

pub cut_entry : (v : Version) (c : BusConfig) (line rest : List ℕ) (e : Entry) → IsLine line → HasLine v c e → line ≡ entry_line e rest → line ≡ entry_line e []
cut_entry v c line rest e is h begins = same_line line [] (entry_line e rest) (entry_line e []) (nothing_more line is) (append-nil line ∙ begins) (entry_through v c e rest h)

pub cut_bus : (v : Version) (c : BusConfig) (line rest : List ℕ) → IsLine line → HasBusLine v c → line ≡ spell (bus_words v c) [] ++ rest → line ≡ spell (bus_words v c) []
cut_bus v c line rest is h begins = same_line line [] (spell (bus_words v c) rest) (spell (bus_words v c) []) (nothing_more line is) (append-nil line ∙ begins ∙ spell-rest (bus_words v c) rest) (bus_through v c rest h)

pub cut_end : (n : ℕ) (line rest : List ℕ) → n < 2 ^ 64 → IsLine line → line ≡ spell (end_words n) [] ++ rest → line ≡ spell (end_words n) []
cut_end n line rest small is begins = same_line line [] (spell (end_words n) rest) (spell (end_words n) []) (nothing_more line is) (append-nil line ∙ begins ∙ spell-rest (end_words n) rest) (end_through n rest small)

pub cut_first : (v : Version) (line rest : List ℕ) → IsLine line → line ≡ first_line v ++ rest → line ≡ first_line v
cut_first v line rest is begins = same_line line [] (first_line v ++ rest) (first_line v) (nothing_more line is) (append-nil line ∙ begins) (first_through v rest)

-- ---- a line and the bytes after it, which do not belong to the line

pub lacks_entry : (v : Version) (c : BusConfig) (line after : List ℕ) → MayFollow line after → LacksEntry v c line → LacksEntry v c (line ++ after)
lacks_entry v c line after may lacks e more h is = lacks e [] h (same_line line after (entry_line e more) (entry_line e []) may is (entry_through v c e more h))

pub lacks_bus : (v : Version) (line after : List ℕ) → MayFollow line after → LacksBus v line → LacksBus v (line ++ after)
lacks_bus v line after may lacks c more h is = lacks c [] h (same_line line after (spell (bus_words v c) more) (spell (bus_words v c) []) may is (bus_through v c more h))

pub lacks_end : (n : ℕ) (line after : List ℕ) → n < 2 ^ 64 → MayFollow line after → LacksEnd n line → LacksEnd n (line ++ after)
lacks_end n line after small may lacks more is = lacks [] (same_line line after (spell (end_words n) more) (spell (end_words n) []) may is (end_through n more small))

pub lacks_first : (line after : List ℕ) → MayFollow line after → LacksFirst line → LacksFirst (line ++ after)
lacks_first line after may lacks v rest is = lacks v [] (same_line line after (first_line v ++ rest) (first_line v) may is (first_through v rest) ∙ sym (append-nil (first_line v)))

-- ---- bytes with no LF

pub line_ends : (xs rest : List ℕ) → EndsNoLine (xs ++ 10 ∷ rest) → ⊥
line_ends [] rest h = All-head (λ b. b ≢ 10) 10 rest h refl
line_ends (x ∷ xs) rest h = line_ends xs rest (All-tail (λ b. b ≢ 10) x (xs ++ 10 ∷ rest) h)

behind_part : (xs ys : List ℕ) → EndsNoLine (xs ++ ys) → EndsNoLine ys
behind_part [] ys h = h
behind_part (x ∷ xs) ys h = behind_part xs ys (All-tail (λ b. b ≢ 10) x (xs ++ ys) h)

spell_ends : (w : List ℕ) (ws : List (List ℕ)) (rest : List ℕ) → EndsNoLine (spell (w ∷ ws) rest) → ⊥
spell_ends w [] rest h = line_ends w rest h
spell_ends w (v ∷ vs) rest h = spell_ends v vs rest (All-tail (λ b. b ≢ 10) 32 (spell (v ∷ vs) rest) (behind_part w (32 ∷ spell (v ∷ vs) rest) h))

words_end : (ws : List (List ℕ)) (rest : List ℕ) → ws ≢ [] → EndsNoLine (spell ws rest) → ⊥
words_end [] rest some h = some refl
words_end (w ∷ ws) rest some h = spell_ends w ws rest h

first_ends : (v : Version) (rest : List ℕ) → EndsNoLine (first_line v ++ rest) → ⊥
first_ends version.One rest h = line_ends (codes "canbus record 1") rest h
first_ends version.Two rest h = line_ends (codes "canbus record 2") rest h
first_ends version.Three rest h = line_ends (codes "canbus record 3") rest h
first_ends version.Four rest h = line_ends (codes "canbus record 4") rest h
first_ends version.Five rest h = line_ends (codes "canbus record 5") rest h
first_ends version.Six rest h = line_ends (codes "canbus record 6") rest h

-- Bytes with no LF contain no line of a record.
pub torn_first : (torn : List ℕ) → EndsNoLine torn → LacksFirst torn
torn_first torn h v rest is = first_ends v rest (subst EndsNoLine is h)

pub torn_bus : (v : Version) (torn : List ℕ) → EndsNoLine torn → LacksBus v torn
torn_bus v torn h c more good is = words_end (bus_words v c) more (λ none. absurd cc) (subst EndsNoLine is h)

pub torn_entry : (v : Version) (c : BusConfig) (torn : List ℕ) → EndsNoLine torn → LacksEntry v c torn
torn_entry v c torn h e more good is = words_end (entry_words e) more (event_words_then e) (subst EndsNoLine is h)

pub torn_end : (n : ℕ) (torn : List ℕ) → EndsNoLine torn → LacksEnd n torn
torn_end n torn h more is = words_end (end_words n) more (λ none. absurd cc) (subst EndsNoLine is h)
