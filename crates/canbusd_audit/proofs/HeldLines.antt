-- The complete lines in the buffer of a reader.
use Rattle.std.proofs.Common.{◌≡◌, ◌≢◌, ◌+◌, ◌-◌, ◌<◌, ℕ, List, [], ◌∷◌, ◌++◌, All, length, take, drop, Option, Some, None, Result, Ok, Err, IfOk, append-nil, append_assoc, arith, eqb-true, eq-eqb, get_or, get_or-take, length-take-le, refl, sym, ap, subst, ◌∙◌}
use Rattle.std.proofs.Math.Seq.{take-add}
use Rattle.std.proofs.Transfers.{StopsAt-take}
use Rattle.std.proofs.BufReadLemmas.{through_part}
use Rattle.std.proofs.lemmas.List.{append_cancel_left, take-append-drop, take_more}
use Rattle.std.proofs.lemmas.List.Elements.{All-from_get_or}
use Rattle.std.specs.Io.{IsEmptyOrEndsWith, StartsWith, StopsAt}
use Rattle.std.proofs.KnownBytes.{Consumes-kept}
use Rattle.std.specs.Io.KnownBytes.{Consumes, Keeps}
use Rattle.std.specs.Prelude.{IfSome}
use Rattle.memchr.specs.Find.{IsFirstByte, is_byte}
use Rattle.can_record_text.specs.declared.fault.ReadFault.{ReadFault}
use Rattle.can_record_text.specs.RecordFaults.{Reads}
use Rattle.can_replay.specs.declared.wanted.Wanted.{Wanted}
use Rattle.can_replay.specs.declared.text_audit.TextAudit.{TextAudit}
use Rattle.can_replay.specs.EventTexts.{HasWritten}
use Rattle.can_replay.specs.TextAudits.{AreTaken, EndsLine, FaultsUncut, IsLine, MayFollow}
use Rattle.can_replay.proofs.Uncut.{line_uncut}
use Rattle.canbusd_audit.specs.Audited.{BecomesOf, BeginsWrong, AuditGoesOn, HoldsBefore, IsAtFault, IsLeft, IsWrongNext, AuditStopsAfter, TakesMore}
use Rattle.canbusd_audit.specs.declared.buffered.Buffered.{Buffered}
use Rattle.canbusd_audit.specs.declared.buffered.Buffered.TheVariants as held
use Rattle.canbusd_audit.proofs.Underway.{more_read}

-- ---- a line that ends with the first LF of some bytes

module _ (left : List ℕ) (place : ℕ) (found : IsFirstByte (is_byte 10) left (Some place)) where
  no_end_before : All (λ (x : ℕ). x ≢ 10) (take place left)
  no_end_before = All-from_get_or (λ (x : ℕ). x ≢ 10) (take place left) 0 (λ k lt is.
      let low : k < place = omega (arith, lt, length-take-le place left (omega (arith, found.0.high))) in
      found.0.before k (omega arith) low (eq-eqb _ _ (sym (get_or-take place left k 0 low) ∙ is)))

  long : length (take (place + 1) left) ≡ place + 1
  long = length-take-le (place + 1) left (omega (arith, found.0.high))

  pub stops : StopsAt (take (place + 1) left) 10
  stops = StopsAt-take left 10 (place + 1) (omega (arith, found.0.high)) (subst (λ (n : ℕ). All (λ (x : ℕ). x ≢ 10) (take n left)) (omega arith) no_end_before)

  ends : IsEmptyOrEndsWith (take (place + 1) left) 10
  ends some = ap (λ (n : ℕ). get_or (take (place + 1) left) (n - 1) 0) long ∙ ap (λ (n : ℕ). get_or (take (place + 1) left) n 0) (omega arith) ∙ get_or-take (place + 1) left place 0 (omega arith) ∙ eqb-true _ _ found.1

  line_ends : EndsLine (take (place + 1) left)
  line_ends = (take place left, take_more left place 0 (omega (arith, found.0.high)) ∙ ap (λ (z : ℕ). take place left ++ z ∷ []) (eqb-true _ _ found.1))

  pub is_line : IsLine (take (place + 1) left)
  is_line = record { some = λ none. absurd (omega (arith, long, ap length none)); stops = stops }

  pub may_follow : (after : List ℕ) → MayFollow (take (place + 1) left) after
  may_follow after = (through_part 10 (take (place + 1) left) after stops ends (λ none. absurd (omega (arith, long, none)))).0

-- ---- the lines of some bytes

module _ (held : List ℕ) (len place : ℕ) (text : List ℕ) where
  abbrev left : List ℕ
  left = drop len held

  abbrev line : List ℕ
  line = take (place + 1) left

  one_more : (text ++ take len held) ++ line ≡ text ++ take (len + (place + 1)) held
  one_more = append_assoc text (take len held) line ∙ ap (λ (x : List ℕ). text ++ x) (sym (take-add len (place + 1) held))

  with_more : (after : List ℕ) → (text ++ take len held) ++ (line ++ after) ≡ text ++ (take (len + (place + 1)) held ++ after)
  with_more after = sym (append_assoc (text ++ take len held) line after) ∙ ap (λ (x : List ℕ). x ++ after) one_more ∙ append_assoc text (take (len + (place + 1)) held) after

-- one more line was taken
pub takes_more : (held : List ℕ) (len place : ℕ) (old now new : TextAudit) → IsFirstByte (is_byte 10) (drop len held) (Some place) → TakesMore old (take len held) now
    → ((w : Wanted) (events text : List ℕ) → HasWritten w text events now → IsLine (take (place + 1) (drop len held)) → HasWritten w (text ++ take (place + 1) (drop len held)) events new) → TakesMore old (take (len + (place + 1)) held) new
takes_more held len place old now new found taken step w text events start =
    subst (λ (x : List ℕ). HasWritten w x events new) (one_more held len place text) (step w events (text ++ take len held) (taken w text events start) (is_line (drop len held) place found))

-- the next line is invalid
pub fails_in : (held : List ℕ) (len place : ℕ) (old now : TextAudit) (why : ReadFault) → IsFirstByte (is_byte 10) (drop len held) (Some place) → TakesMore old (take len held) now
    → ((text after : List ℕ) → AreTaken text now → IsLine (take (place + 1) (drop len held)) → MayFollow (take (place + 1) (drop len held)) after → Reads (text ++ (take (place + 1) (drop len held) ++ after)) (Err why))
    → IsWrongNext old held why
fails_in held len place old now why found taken step =
    let left = drop len held in
    let end = line_ends left place found in
    record {
      lines = take (len + (place + 1)) held;
      rest = drop (len + (place + 1)) held;
      begins = sym (take-append-drop (len + (place + 1)) held);
      ended = (take len held ++ end.0, take-add len (place + 1) held ∙ ap (λ (x : List ℕ). take len held ++ x) end.1 ∙ sym (append_assoc (take len held) end.0 (10 ∷ [])));
      wrong = λ w text events after start.
          subst (λ (x : List ℕ). Reads x (Err why)) (with_more held len place text after) (step (text ++ take len held) after (taken w text events start).taken (is_line left place found) (may_follow left place found after));
    }

-- the bytes that were not taken begin with the invalid line
pub begins_wrong : (held : List ℕ) (len place : ℕ) (now : TextAudit) (why : ReadFault) → IsFirstByte (is_byte 10) (drop len held) (Some place)
    → ((text after : List ℕ) → AreTaken text now → IsLine (take (place + 1) (drop len held)) → MayFollow (take (place + 1) (drop len held)) after → Reads (text ++ (take (place + 1) (drop len held) ++ after)) (Err why))
    → BeginsWrong now (drop len held) why
begins_wrong held len place now why found step =
    let left = drop len held in
    record {
      line = take (place + 1) left;
      rest = drop (place + 1) left;
      begins = sym (take-append-drop (place + 1) left);
      is_line = is_line left place found;
      ended = line_ends left place found;
      wrong = step;
    }

-- ---- the buffered bytes of a reader

pub goes_on_by : (old new : Option (List ℕ)) (before after : TextAudit) (bytes : List ℕ) → Consumes old new bytes → TakesMore before bytes after → AuditGoesOn old new before after
goes_on_by old new before after bytes consumed taken = λ w first events u.
    (record { text = u.text ++ bytes; consumed = more_read first old new u.text bytes u.consumed consumed; written = taken w u.text events u.written }, bytes, refl)

-- an interrupted read changes nothing
pub still_there : {E : Type 0} (old new : Option (List ℕ)) (audit : TextAudit) (r : Result Buffered E) → Keeps old new → IfOk r (λ h. h ≡ held.Lines) → IfOk r (λ h. BecomesOf h old new audit audit)
still_there old new audit (Err e) kept is = tt
still_there old new audit (Ok b) kept is = subst (λ (h : Buffered). BecomesOf h old new audit audit) (sym is) (λ w first events u.
    (record { text = u.text; consumed = Consumes-kept first old new u.text u.consumed kept; written = u.written }, [], sym (append-nil u.text)))

-- one of the complete lines at the start of the buffered bytes is invalid
held_fault : (v : Wanted) (text events held after : List ℕ) (audit : TextAudit) (why : ReadFault) → HasWritten v text events audit → IsWrongNext audit held why → FaultsUncut (text ++ (held ++ after)) why
held_fault v text events held after audit why written w =
    let whole : (text ++ w.lines) ++ (w.rest ++ after) ≡ text ++ (held ++ after) =
    append_assoc text w.lines (w.rest ++ after) ∙ ap (λ (x : List ℕ). text ++ x) (sym (append_assoc w.lines w.rest after) ∙ ap (λ (x : List ℕ). x ++ after) (sym w.begins)) in
    let ended : EndsLine (text ++ w.lines) = (text ++ w.ended.0, ap (λ (x : List ℕ). text ++ x) w.ended.1 ∙ sym (append_assoc text w.ended.0 (10 ∷ []))) in
    subst (λ (x : List ℕ). FaultsUncut x why) whole
    (line_uncut (text ++ w.lines) (w.rest ++ after) why ended (λ more. subst (λ (x : List ℕ). Reads x (Err why)) (sym (append_assoc text w.lines more)) (w.wrong v text events more written)))

at_fault : (old : Option (List ℕ)) (audit : TextAudit) (why : ReadFault) (held : List ℕ) → IfSome old (λ xs. StartsWith xs held) → IsWrongNext audit held why → IsAtFault old audit why
at_fault None audit why held shows fails w None events u = (u.text ++ (held ++ []), tt, held_fault w u.text events held [] audit why u.written fails)
at_fault None audit why held shows fails w (Some all) events u = absurd u.consumed
at_fault (Some xs) audit why held shows fails w None events u = (u.text ++ (held ++ []), tt, held_fault w u.text events held [] audit why u.written fails)
at_fault (Some xs) audit why held shows fails w (Some all) events u =
    let split : held ++ drop (length held) xs ≡ xs = ap (λ (x : List ℕ). x ++ drop (length held) xs) (sym shows) ∙ take-append-drop (length held) xs in
    (u.text ++ (held ++ drop (length held) xs), ap (λ (x : List ℕ). u.text ++ x) split ∙ sym u.consumed, held_fault w u.text events held (drop (length held) xs) audit why u.written fails)

pub may_be_at_fault : (old : Option (List ℕ)) (audit : TextAudit) (found : Option ReadFault) (why : ReadFault) (held : List ℕ) → found ≡ Some why → IfSome old (λ xs. StartsWith xs held)
    → IfSome found (λ why. IsWrongNext audit held why) → IsAtFault old audit why
may_be_at_fault old audit None why held is shows fails = absurd cc
may_be_at_fault old audit (Some w) why held is shows fails =
    let same : w ≡ why = cc in
    at_fault old audit why held shows (subst (λ (x : ReadFault). IsWrongNext audit held x) same fails)

-- the remaining bytes of the reader, after some of the buffered bytes were taken
left_of : (old new : Option (List ℕ)) (held : List ℕ) (len : ℕ) → IfSome old (λ xs. StartsWith xs held) → Consumes old new (take len held) → (more : List ℕ) × IsLeft old new (drop len held ++ more)
left_of None new held len shows consumed = ([], tt)
left_of (Some xs) None held len shows consumed = ([], tt)
left_of (Some xs) (Some ys) held len shows consumed =
    let more = drop (length held) xs in
    let whole : xs ≡ take len held ++ (drop len held ++ more) =
    sym (ap (λ (x : List ℕ). x ++ more) (sym shows) ∙ take-append-drop (length held) xs) ∙ ap (λ (x : List ℕ). x ++ more) (sym (take-append-drop len held))
    ∙ append_assoc (take len held) (drop len held) more in
    (more, append_cancel_left (take len held) ys (drop len held ++ more) (sym consumed ∙ whole))

begins_more : (audit : TextAudit) (next more : List ℕ) (why : ReadFault) → BeginsWrong audit next why → BeginsWrong audit (next ++ more) why
begins_more audit next more why w = record {
  line = w.line;
  rest = w.rest ++ more;
  begins = ap (λ (x : List ℕ). x ++ more) w.begins ∙ append_assoc w.line w.rest more;
  is_line = w.is_line;
  ended = w.ended;
  wrong = w.wrong;
}

-- the lines before an error were taken
pub stops_after : (old new : Option (List ℕ)) (before after : TextAudit) (held : List ℕ) (len : ℕ) (found : Option ReadFault) (why : ReadFault) → found ≡ Some why → Consumes old new (take len held) → IfSome old (λ xs. StartsWith xs held)
    → IfSome found (λ why. HoldsBefore before (take len held) (drop len held) why after) → AuditStopsAfter old new before why after
stops_after old new before after held len None why is consumed shows holds = absurd cc
stops_after old new before after held len (Some w) why is consumed shows holds =
    let same : w ≡ why = cc in
    let left = left_of old new held len shows consumed in
    let wrong = subst (BeginsWrong holds.0 (drop len held)) same holds.5 in
    (holds.0, goes_on_by old new before holds.0 (take len held) consumed holds.1, holds.2, holds.3, holds.4, (drop len held ++ left.0, left.1, begins_more holds.0 (drop len held) left.0 why wrong))
