-- The lines of a text while they are read.
use Rattle.std.proofs.Common.{◌≡◌, ◌≢◌, ◌==◌, ◌+◌, ◌-◌, ℕ, suc, Bool, true, false, cond, IsTrue, All, List, [], ◌∷◌, ◌++◌, length, take, Option, Some, None, Err, inl, inr, append_assoc, eqb-true, get_or, length-append, refl, sym, ap, subst, ◌∙◌, arith}
use Rattle.std.specs.Prelude.{IfSome, slice_get}
use Rattle.std.specs.Io.{StopsAt, appended_bytes}
use Rattle.std.specs.Io.BufRead.{take_through}
use Rattle.std.specs.Io.KnownBytes.{Consumes, IsAtEnd}
use Rattle.std.proofs.BufReadLemmas.{through_part}
use Rattle.std.proofs.KnownBytes.{Appends-trans}
use Rattle.std.proofs.lemmas.List.{append-nil}
use Rattle.std.proofs.lemmas.List.Elements.{All-cons, All-head, All-nil, All-tail, All-take}
use Rattle.can_record_text.specs.declared.fault.ReadFault.{ReadFault}
use Rattle.can_record_text.specs.RecordFaults.{Reads}
use Rattle.can_replay.specs.declared.wanted.Wanted.{Wanted}
use Rattle.can_replay.specs.declared.events_text.EventsText.{EventsText}
use Rattle.can_replay.specs.declared.text_audit.TextAudit.{TextAudit}
use Rattle.can_replay.specs.EventTexts.{HasWritten, has_events, held_events}
use Rattle.can_replay.specs.TextAudits.{AreTaken, EndsLine, EndsNoLine, FaultsUncut, IsLine, MayFollow}
use Rattle.can_replay.proofs.LineEnds.{nothing_more}
use Rattle.can_replay.proofs.Uncut.{line_uncut}
use Rattle.canbusd_io.specs.declared.program_error.ProgramError.{ProgramError}
use Rattle.canbusd_io.specs.declared.program_error.ProgramError.TheVariants as fault
use Rattle.canbusd_io.specs.Files.{IsOfReading}
use Rattle.canbusd_audit.specs.Audited.{Faults, FaultsLast, FaultsLine, FaultsWhole, IsAtFault, IsBefore, IsInputTaken, IsNextLine, IsOfLine, IsPut, IsRead, IsTextIn, IsUnderway, Puts, asks_events, output_of, wanted_of}

-- an audit collects events only if they were requested
pub asked_so : (asked : Option Wanted) (held : Option EventsText) → has_events held ≡ asks_events asked → asked ≡ output_of (wanted_of asked) held
asked_so None None has = refl
asked_so None (Some e) has = absurd cc
asked_so (Some w) None has = absurd cc
asked_so (Some w) (Some e) has = refl

pub same_output : (w : Wanted) (after before : Option EventsText) → has_events after ≡ has_events before → output_of w after ≡ output_of w before
same_output w None None has = refl
same_output w None (Some e) has = absurd cc
same_output w (Some e) None has = absurd cc
same_output w (Some e) (Some f) has = refl

pub more_read : (a b c : Option (List ℕ)) (x y : List ℕ) → Consumes a b x → Consumes b c y → Consumes a c (x ++ y)
more_read None b c x y h k = tt
more_read (Some xs) None c x y h k = absurd h
more_read (Some xs) (Some ys) None x y h k = absurd k
more_read (Some xs) (Some ys) (Some zs) x y h k = h ∙ ap (λ (z : List ℕ). x ++ z) k ∙ sym (append_assoc x y zs)

-- one more line was taken
pub goes_on : (w : Wanted) (first now after : Option (List ℕ)) (line events : List ℕ) (old new : TextAudit) → IsUnderway w first now old events → IsRead now after line
    → ((cleared text : List ℕ) → HasWritten w text cleared old → IsLine line → HasWritten w (text ++ line) cleared new) → IsUnderway w first after new events
goes_on w first now after line events old new u read step = record {
  text = u.text ++ line;
  consumed = more_read first now after u.text line u.consumed read.consumed;
  written = step events u.text u.written read.is_line;
}

pub goes_text : (w : Wanted) (first now after : Option (List ℕ)) (line events : List ℕ) (old new : TextAudit) (u : IsUnderway w first now old events) (read : IsRead now after line)
    (step : (cleared text : List ℕ) → HasWritten w text cleared old → IsLine line → HasWritten w (text ++ line) cleared new) → (goes_on w first now after line events old new u read step).text ≡ u.text ++ line
unfolding goes_on
goes_text w first now after line events old new u read step = refl

-- more events were written
pub puts_more : {W : Type 0} (has : Bool) (contents : W → Option (List ℕ)) (a b c : W) (xs ys : List ℕ) → Puts has contents a b xs → Puts has contents b c ys → Puts has contents a c (xs ++ ys)
puts_more false contents a b c xs ys h k = k ∙ h
puts_more true contents a b c xs ys h k = Appends-trans (contents a) (contents b) (contents c) xs ys h k

pub put_more : {W : Type 0} (w : Wanted) (first now : Option (List ℕ)) (audit next : TextAudit) (contents : W → Option (List ℕ)) (start out new : W) → has_events next.events ≡ has_events audit.events
    → ((w : Wanted) (text events : List ℕ) → HasWritten w text events audit → HasWritten w text (events ++ held_events audit.events) next) → Puts (has_events audit.events) contents out new (held_events audit.events)
    → IsPut w first now audit contents start out → IsPut w first now next contents start new
put_more w first now audit next contents start out new has written put p = record {
  events = p.events ++ held_events audit.events;
  underway = record { text = p.underway.text; consumed = p.underway.consumed; written = written w p.underway.text p.events p.underway.written };
  put = subst (λ (b : Bool). Puts b contents start new (p.events ++ held_events audit.events)) (sym has) (puts_more (has_events audit.events) contents start out new p.events (held_events audit.events) p.put put);
}

-- the audit took more lines, and no more events were written
pub put_on : {W : Type 0} (w : Wanted) (first now after : Option (List ℕ)) (audit next : TextAudit) (contents : W → Option (List ℕ)) (start out : W) → has_events next.events ≡ has_events audit.events
    → ((events : List ℕ) → IsUnderway w first now audit events → IsUnderway w first after next events) → IsPut w first now audit contents start out → IsPut w first after next contents start out
put_on w first now after audit next contents start out has goes p =
    record { events = p.events; underway = goes p.events p.underway; put = subst (λ (b : Bool). Puts b contents start out p.events) (sym has) p.put }

text_is : (first now : Option (List ℕ)) (text : List ℕ) → Consumes first now text → IsAtEnd now → IsTextIn first text
text_is None now text h end = tt
text_is (Some all) None text h end = absurd h
text_is (Some all) (Some rest) text h end = sym (h ∙ ap (λ (x : List ℕ). text ++ x) end ∙ append-nil text)

-- the text has ended after a line that ends in LF
pub ends : {W : Type 0} (w : Wanted) (first now : Option (List ℕ)) (audit : TextAudit) (contents : W → Option (List ℕ)) (start out : W) → held_events audit.events ≡ [] → IsPut w first now audit contents start out → IsAtEnd now
    → IsInputTaken w first audit [] contents start out
ends w first now audit contents start out none p end = record {
  lines = p.underway.text;
  events = p.events;
  is_text = subst (IsTextIn first) (sym (append-nil p.underway.text)) (text_is first now p.underway.text p.underway.consumed end);
  written = p.underway.written;
  none_held = none;
  put = p.put;
  unended = All-nil (λ b. b ≢ 10);
}

text_then : (first now : Option (List ℕ)) (text line : List ℕ) → Consumes first now text → IsTextIn now line → IsTextIn first (text ++ line)
text_then None now text line h is = tt
text_then (Some all) None text line h is = absurd h
text_then (Some all) (Some rest) text line h is = sym (h ∙ ap (λ (x : List ℕ). text ++ x) (sym is))

-- the text has ended with bytes that contain no LF
pub ends_torn : {W : Type 0} (w : Wanted) (first now : Option (List ℕ)) (audit : TextAudit) (contents : W → Option (List ℕ)) (start out : W) (torn : List ℕ) → held_events audit.events ≡ [] → IsPut w first now audit contents start out → IsTextIn now torn
    → EndsNoLine torn → IsInputTaken w first audit torn contents start out
ends_torn w first now audit contents start out torn none p is unended = record {
  lines = p.underway.text;
  events = p.events;
  is_text = text_then first now p.underway.text torn p.underway.consumed is;
  written = p.underway.written;
  none_held = none;
  put = p.put;
  unended = unended;
}

-- ---- a line that ends in LF

last_of : (q : List ℕ) → get_or (q ++ 10 ∷ []) (length q) 0 ≡ 10
last_of [] = refl
last_of (x ∷ q) = last_of q

-- any bytes may follow the line
pub follows : (line after : List ℕ) → IsLine line → EndsLine line → MayFollow line after
follows line after is end =
    let size : length line ≡ length end.0 + 1 = ap length end.1 ∙ length-append end.0 (10 ∷ []) in
    let last : get_or line (length line - 1) 0 ≡ 10 = ap (λ (n : ℕ). get_or line n 0) (omega (arith, size)) ∙ ap (λ (l : List ℕ). get_or l (length end.0) 0) end.1 ∙ last_of end.0 in
    (through_part 10 line after is.stops (λ some. last) (λ none. absurd (omega (arith, none, size)))).0

-- the line after the lines that were taken is invalid
pub line_fault : (text line rest : List ℕ) (audit : TextAudit) (why : ReadFault) → AreTaken text audit → IsLine line → EndsLine line
    → ((text rest : List ℕ) → AreTaken text audit → IsLine line → MayFollow line rest → Reads (text ++ (line ++ rest)) (Err why)) → FaultsUncut (text ++ (line ++ rest)) why
line_fault text line rest audit why taken is end step =
    let ended : EndsLine (text ++ line) = (text ++ end.0, ap (λ (x : List ℕ). text ++ x) end.1 ∙ sym (append_assoc text end.0 (10 ∷ []))) in
    subst (λ (x : List ℕ). FaultsUncut x why) (append_assoc text line rest)
    (line_uncut (text ++ line) rest why ended (λ more. subst (λ (x : List ℕ). Reads x (Err why)) (sym (append_assoc text line more)) (step text more taken is (follows line more is end))))

fails : (w : Wanted) (first now after : Option (List ℕ)) (line events : List ℕ) (audit : TextAudit) (why : ReadFault) → IsUnderway w first now audit events → IsRead now after line
    → ((text rest : List ℕ) → AreTaken text audit → IsLine line → MayFollow line rest → Reads (text ++ (line ++ rest)) (Err why)) → FaultsLine first (fault.Record why)
fails w None now after line events audit why u read step = (u.text ++ (line ++ []), tt, line_fault u.text line [] audit why u.written.taken read.is_line read.ended step)
fails w (Some all) None after line events audit why u read step = absurd u.consumed
fails w (Some all) (Some xs) None line events audit why u read step = absurd read.consumed
fails w (Some all) (Some xs) (Some rest) line events audit why u read step =
    (u.text ++ (line ++ rest), sym (u.consumed ∙ ap (λ (x : List ℕ). u.text ++ x) read.consumed), line_fault u.text line rest audit why u.written.taken read.is_line read.ended step)

of_reading : (text : List ℕ) (why : ProgramError) → IsOfReading why → Faults text why
of_reading text fault.Read h = tt
of_reading text fault.NoMemory h = tt
of_reading text why h = absurd h

reading_whole : (text : List ℕ) (why : ProgramError) → IsOfReading why → FaultsWhole text why
reading_whole text fault.Read h = tt
reading_whole text fault.NoMemory h = tt
reading_whole text why h = absurd h

-- reading failed, or memory was refused
pub stops : (first : Option (List ℕ)) (why : ProgramError) → IsOfReading why → FaultsLine first why
stops None why h = ([], tt, reading_whole [] why h)
stops (Some all) why h = (all, refl, reading_whole all why h)

-- a line is invalid, or reading failed after it
pub fails_so : (w : Wanted) (first now after : Option (List ℕ)) (line events : List ℕ) (audit : TextAudit) (what : ReadFault) (why : ProgramError) → IsOfLine what why → IsUnderway w first now audit events → IsRead now after line
    → ((text rest : List ℕ) → AreTaken text audit → IsLine line → MayFollow line rest → Reads (text ++ (line ++ rest)) (Err what)) → FaultsLine first why
fails_so w first now after line events audit what why (inl is) u read step = subst (FaultsLine first) (sym is) (fails w first now after line events audit what u read step)
fails_so w first now after line events audit what why (inr h) u read step = stops first why h

-- a line in the reader's buffer is invalid, or reading failed
pub fails_held : (w : Wanted) (first now : Option (List ℕ)) (audit : TextAudit) (events : List ℕ) (what : ReadFault) (why : ProgramError) → IsOfLine what why → IsUnderway w first now audit events → IsAtFault now audit what → FaultsLine first why
fails_held w first now audit events what why (inl is) u fault = subst (FaultsLine first) (sym is) (fault w first events u)
fails_held w first now audit events what why (inr h) u fault = stops first why h

-- ---- one line

through : (old new : Option (List ℕ)) (line : List ℕ) → IfSome old (λ xs. line ≡ take_through 10 xs) → Consumes old new line → IsBefore old line new
through None new line h k = tt
through (Some xs) None line h k = tt
through (Some xs) (Some ys) line h k = ap (take_through 10) (sym k) ∙ sym h

-- if the last byte is not LF, the bytes do not end with a complete line
unended : (xs : List ℕ) → StopsAt xs 10 → slice_get xs (length xs - 1) ≢ Some 10 → EndsNoLine xs
unended [] stops_at last = All-nil (λ b. b ≢ 10)
unended (x ∷ []) stops_at last = All-cons (λ b. b ≢ 10) x [] (λ is. last (ap Some is)) (All-nil (λ b. b ≢ 10))
unended (x ∷ y ∷ ys) stops_at last =
    let short : length (x ∷ y ∷ ys) - 1 ≡ suc (length (y ∷ ys) - 1) = omega arith in
    let all = subst (λ (n : ℕ). All (λ z. z ≢ 10) (take n (x ∷ y ∷ ys))) short stops_at in
    All-cons (λ b. b ≢ 10) x (y ∷ ys) (All-head (λ z. z ≢ 10) x (take (length (y ∷ ys) - 1) (y ∷ ys)) all)
    (unended (y ∷ ys) (All-tail (λ z. z ≢ 10) x (take (length (y ∷ ys) - 1) (y ∷ ys)) all) (subst (λ (n : ℕ). slice_get (x ∷ y ∷ ys) n ≢ Some 10) short last))

whole_when : (x : ℕ) (xs : List ℕ) (b : Bool) → (x == 10) ≡ b → (EndsNoLine (take_through 10 xs) → take_through 10 xs ≡ xs) → EndsNoLine (cond b (x ∷ []) (x ∷ take_through 10 xs))
    → cond b (x ∷ []) (x ∷ take_through 10 xs) ≡ x ∷ xs
whole_when x xs true is later h = absurd (All-head (λ z. z ≢ 10) x [] h (eqb-true x 10 is))
whole_when x xs false is later h = ap (λ (zs : List ℕ). x ∷ zs) (later (All-tail (λ z. z ≢ 10) x (take_through 10 xs) h))

whole_through : (xs : List ℕ) → EndsNoLine (take_through 10 xs) → take_through 10 xs ≡ xs
whole_through [] h = refl
whole_through (x ∷ xs) h = whole_when x xs (x == 10) refl (λ later. whole_through xs later) h

rest_is : (old : Option (List ℕ)) (line : List ℕ) → EndsNoLine line → IfSome old (λ xs. line ≡ take_through 10 xs) → IsTextIn old line
rest_is None line h is = tt
rest_is (Some xs) line h is = is ∙ whole_through xs (subst EndsNoLine is h)

-- if the last byte is LF, the bytes end with a complete line
last_ends : (xs : List ℕ) → slice_get xs (length xs - 1) ≡ Some 10 → EndsLine xs
last_ends [] last = absurd cc
last_ends (x ∷ []) last =
    let same : x ≡ 10 = cc in
    ([], ap (λ (z : ℕ). z ∷ []) same)
last_ends (x ∷ y ∷ ys) last =
    let short : length (x ∷ y ∷ ys) - 1 ≡ suc (length (y ∷ ys) - 1) = omega arith in
    let later = last_ends (y ∷ ys) (subst (λ (n : ℕ). slice_get (x ∷ y ∷ ys) n ≡ Some 10) short last) in
    (x ∷ later.0, ap (λ (l : List ℕ). x ∷ l) later.1)

ended_some : (xs q : List ℕ) → xs ≡ q ++ 10 ∷ [] → xs ≢ []
ended_some xs [] is none = absurd cc
ended_some xs (x ∷ q) is none = absurd cc

pub next_is : (b : Bool) (old new : Option (List ℕ)) (start line : List ℕ) → start ≡ [] → StopsAt (appended_bytes start line) 10 → IfSome old (λ xs. line ≡ start ++ take_through 10 xs) → Consumes old new (appended_bytes start line)
    → (IsTrue b → slice_get line (length line - 1) ≡ Some 10) → (b ≡ false → slice_get line (length line - 1) ≢ Some 10) → IsNextLine b old new line
next_is true old new [] line empty stops_at through_lf consumed last torn =
    let end = last_ends line (last refl) in
    record {
      is_line = record { some = ended_some line end.0 end.1; stops = stops_at };
      ended = end;
      consumed = consumed;
      before = through old new line through_lf consumed;
    }
next_is false old new [] line empty stops_at through_lf consumed last torn =
    let ends_no = unended line stops_at (torn refl) in
    (rest_is old line ends_no through_lf, ends_no)
next_is b old new (x ∷ xs) line empty stops_at through_lf consumed last torn = absurd cc

-- ---- the bytes after the last LF

pub some_of : (torn : List ℕ) → false ≡ (length torn == 0) → torn ≢ []
some_of [] is none = absurd cc
some_of (x ∷ xs) is none = cc

pub last_line : (torn : List ℕ) → torn ≢ [] → EndsNoLine torn → IsLine torn
last_line torn some h = record { some = some; stops = All-take (λ b. b ≢ 10) (length torn - 1) torn h }

pub fails_last : (torn : List ℕ) (audit : TextAudit) (what : ReadFault) (why : ProgramError) → IsOfLine what why → torn ≢ [] → EndsNoLine torn
    → ((text rest : List ℕ) → AreTaken text audit → IsLine torn → MayFollow torn rest → Reads (text ++ (torn ++ rest)) (Err what)) → FaultsLast audit torn why
fails_last torn audit what why (inl is) some h step = λ lines taken.
    let line = last_line torn some h in
    subst (Faults (lines ++ torn)) (sym is) (subst (λ (x : List ℕ). Reads (lines ++ x) (Err what)) (append-nil torn) (step lines [] taken line (nothing_more torn line)))
fails_last torn audit what why (inr reading) some h step = λ lines taken. of_reading (lines ++ torn) why reading
