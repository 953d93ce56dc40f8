-- A text with a wrong line is not cut off.
use Rattle.std.proofs.Common.{◌≡◌, ◌≢◌, ◌+◌, ℕ, List, [], ◌∷◌, ◌++◌, length, drop, Err, inl, inr, append_assoc, refl, sym, ap, subst, ◌∙◌, arith}
use Rattle.std.specs.Prelude.{codes, decimal}
use Rattle.std.proofs.lemmas.List.Elements.{All-cons, All-nil}
use Rattle.can_event.specs.declared.bus_config.BusConfig.{BusConfig}
use Rattle.can_event.specs.declared.entry.Entry.{Entry}
use Rattle.can_record_text.specs.declared.fault.ReadFault.{ReadFault}
use Rattle.can_record_text.specs.declared.fault.ReadFault.TheVariants as fault
use Rattle.can_record_text.specs.declared.version.Version.{Version}
use Rattle.can_record_text.specs.Spelling.{end_words, entry_lines, front_lines, spell, text_in}
use Rattle.can_record_text.specs.Values.{HasLines}
use Rattle.can_record_text.specs.RecordFaults.{IsFirstWrong, IsOfNoVersion, Reads}
use Rattle.can_record_text.proofs.LineLists.{lines-rest}
use Rattle.can_record_text.proofs.Whole.{front-then, lines-then, not_both, one_first, text-then}
use Rattle.can_replay.specs.TextAudits.{EndsLine, EndsNoLine, FaultsUncut, IsCutText, IsFrontOf, IsUncut}
use Rattle.can_replay.proofs.LineEnds.{line_ends, torn_end, torn_entry}

-- ---- the first wrong line of a text

-- If the text is cut off, its first wrong line is the line after the last entry.
lacking : (text : List ℕ) (v : Version) (c : BusConfig) (es : List Entry) (torn : List ℕ) → HasLines v c es → EndsNoLine torn → text ≡ front_lines v c (entry_lines es torn) → IsFirstWrong text (length es + 3)
lacking text v c es torn good unended is = inr (inl (record {
  version = v;
  config = c;
  entries = es;
  rest = torn;
  whole = good;
  begins = is;
  next = refl;
  wrong = torn_entry v c torn unended;
  open_end = torn_end (length es) torn unended;
}))

cut_lacks : (text : List ℕ) (n : ℕ) (cut : IsCutText text n) → IsFirstWrong text (length cut.entries + 3)
cut_lacks text n cut = lacking text cut.front.version cut.config cut.entries cut.front.torn cut.front.good cut.front.unended cut.front.begins

-- If bytes follow the end line, the first wrong line is the line after the end line.
going : (text : List ℕ) (v : Version) (c : BusConfig) (es : List Entry) (more : List ℕ) → HasLines v c es → more ≢ [] → text ≡ text_in v c es ++ more → IsFirstWrong text (length es + 4)
going text v c es more good some is = inr (inr (record { version = v; config = c; entries = es; rest = more; whole = good; begins = is; behind = refl; more = some }))

-- ---- a text that begins with complete lines

-- Bytes with no LF can only come after the complete lines.
torn_later : (a b f torn : List ℕ) → a ++ 10 ∷ b ≡ f ++ torn → EndsNoLine torn → (m : List ℕ) × (f ≡ a ++ 10 ∷ m)
torn_later a b [] torn is h = absurd (line_ends a b (subst EndsNoLine (sym is) h))
torn_later [] b (x ∷ f) torn is h =
    let first : 10 ≡ x = cc in
    (f, ap (λ (z : ℕ). z ∷ f) (sym first))
torn_later (y ∷ a) b (x ∷ f) torn is h =
    let first : y ≡ x = cc in
    let later = torn_later a b f torn (ap (drop 1) is) h in
    (later.0, ap (λ (l : List ℕ). x ∷ l) later.1 ∙ ap (λ (z : ℕ). z ∷ (a ++ 10 ∷ later.0)) (sym first))

-- The complete lines may also be followed by other bytes.
lines_before : (p after : List ℕ) (v : Version) (c : BusConfig) (es : List Entry) (torn : List ℕ) → EndsLine p → p ++ after ≡ front_lines v c (entry_lines es torn) → EndsNoLine torn
    → (m : List ℕ) × ((more : List ℕ) → p ++ (m ++ more) ≡ front_lines v c (entry_lines es more))
lines_before p after v c es torn end is unended =
    let f = front_lines v c (entry_lines es []) in
    let whole : (more : List ℕ) → f ++ more ≡ front_lines v c (entry_lines es more) = λ more. front-then v c (entry_lines es []) more ∙ ap (front_lines v c) (lines-rest es more) in
    let same : (more : List ℕ) → end.0 ++ 10 ∷ more ≡ p ++ more = λ more. sym (append_assoc end.0 (10 ∷ []) more) ∙ ap (λ (x : List ℕ). x ++ more) (sym end.1) in
    let later = torn_later end.0 after f torn (same after ∙ is ∙ sym (whole torn)) unended in
    (later.0, λ more. sym (append_assoc p later.0 more) ∙ ap (λ (x : List ℕ). x ++ more) (sym (same later.0) ∙ sym later.1) ∙ whole more)

some_after : (xs ys : List ℕ) → ys ≢ [] → xs ++ ys ≢ []
some_after [] ys some is = some is
some_after (x ∷ xs) ys some is = absurd cc

-- ---- a faulty text

-- If the first wrong line after `p` does not depend on the bytes that follow `p`, no text that begins with `p` is cut
-- off.
wrong_uncut : (p after : List ℕ) (n : ℕ) → EndsLine p → ((more : List ℕ) → more ≢ [] → IsFirstWrong (p ++ more) n) → (c : BusConfig) (es : List Entry) → IsFrontOf (p ++ after) c es → ⊥
wrong_uncut p after n end wrong c es front =
    let v = front.version in
    let byte : List ℕ = 0 ∷ [] in
    let last : List ℕ = spell (end_words (length es)) byte in
    let at = lines_before p after v c es front.torn end front.begins front.unended in
    let unended : EndsNoLine byte = All-cons (λ b. b ≢ 10) 0 [] (λ is. absurd cc) (All-nil (λ b. b ≢ 10)) in
    let some : byte ≢ [] = λ none. absurd cc in
    let short : n ≡ length es + 3 = one_first (p ++ (at.0 ++ byte)) n (length es + 3) (wrong (at.0 ++ byte) (some_after at.0 byte some)) (lacking (p ++ (at.0 ++ byte)) v c es byte front.good unended (at.1 byte)) in
    let long : n ≡ length es + 4 =
    one_first (p ++ (at.0 ++ last)) n (length es + 4) (wrong (at.0 ++ last) (some_after at.0 last (λ none. absurd cc)))
    (going (p ++ (at.0 ++ last)) v c es byte front.good some (at.1 last ∙ sym (text-then v c es byte))) in
    absurd (omega (arith, short, long))

first_uncut : (p after : List ℕ) (n : ℕ) → EndsLine p → ((more : List ℕ) → more ≢ [] → IsFirstWrong (p ++ more) n) → IsUncut (p ++ after)
first_uncut p after n end wrong m cut = wrong_uncut p after n end wrong cut.config cut.entries cut.front

-- If complete lines are faulty whatever bytes follow them, no record's text begins with these lines.
pub no_front : (p after : List ℕ) (why : ReadFault) → why ≢ fault.NoMemory → EndsLine p → ((more : List ℕ) → Reads (p ++ more) (Err why)) → (c : BusConfig) (es : List Entry) → IsFrontOf (p ++ after) c es → ⊥
no_front p after fault.NoMemory some end wrong c es front = some refl
no_front p after fault.BadVersion some end wrong c es front =
    not_both (p ++ after) (length es + 3) (wrong after) (lacking (p ++ after) front.version c es front.torn front.good front.unended front.begins)
no_front p after (fault.BadLine n) some end wrong c es front = wrong_uncut p after n end (λ more some. wrong more) c es front

-- The text does not name a known version.
pub version_uncut : (text : List ℕ) → IsOfNoVersion text → IsUncut text
version_uncut text none m cut = not_both text (length cut.entries + 3) none (cut_lacks text m cut)

-- The second line of the text is faulty.
pub second_uncut : (text : List ℕ) → IsFirstWrong text 2 → IsUncut text
second_uncut text wrong m cut =
    let same : 2 ≡ length cut.entries + 3 = one_first text 2 (length cut.entries + 3) wrong (cut_lacks text m cut) in
    absurd (omega (arith, same))

-- A complete line of the text is faulty.
pub line_uncut : (p after : List ℕ) (why : ReadFault) → EndsLine p → ((more : List ℕ) → Reads (p ++ more) (Err why)) → FaultsUncut (p ++ after) why
line_uncut p after fault.NoMemory end wrong = tt
line_uncut p after fault.BadVersion end wrong = (wrong after, version_uncut (p ++ after) (wrong after))
line_uncut p after (fault.BadLine n) end wrong = (wrong after, first_uncut p after n end (λ more some. wrong more))

-- ---- a text that contains its end line

pub words_end : (w : List ℕ) (ws : List (List ℕ)) → (q : List ℕ) × ((rest : List ℕ) → spell (w ∷ ws) rest ≡ q ++ 10 ∷ rest)
words_end w [] = (w, λ rest. refl)
words_end w (v ∷ vs) =
    let last = words_end v vs in
    (w ++ 32 ∷ last.0, λ rest. ap (λ (x : List ℕ). w ++ 32 ∷ x) (last.1 rest) ∙ sym (append_assoc w (32 ∷ last.0) (10 ∷ rest)))

text_ends : (v : Version) (c : BusConfig) (es : List Entry) → EndsLine (text_in v c es)
text_ends v c es =
    let last = words_end (codes "end") (decimal (length es) ∷ []) in (
      front_lines v c (entry_lines es last.0),
      ap (λ (x : List ℕ). front_lines v c (entry_lines es x)) (last.1 []) ∙ sym (front-then v c (entry_lines es last.0) (10 ∷ []) ∙ ap (front_lines v c) (lines-then es last.0 (10 ∷ []))),
    )

pub ended_uncut : (text torn : List ℕ) (v : Version) (c : BusConfig) (es : List Entry) → HasLines v c es → text ≡ text_in v c es → IsUncut (text ++ torn)
ended_uncut text torn v c es good is =
    first_uncut text torn (length es + 4) (subst EndsLine (sym is) (text_ends v c es)) (λ more some. going (text ++ more) v c es more good some (ap (λ (x : List ℕ). x ++ more) is))
