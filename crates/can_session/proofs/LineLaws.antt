-- The lines that an input returns are the lines of the text that its reader had.
use Rattle.std.proofs.Common.{◌≡◌, ℕ, suc, ◌+◌, ◌<◌, false, inl, inr, List, [], ◌∷◌, ◌++◌, length, take, drop, Option, Some, None, refl, sym, ap, subst, ◌∙◌, append_assoc, append-nil, zero-add, arith, if◌then◌else◌}
use Rattle.std.specs.Prelude.{count_by}
use Rattle.std.specs.List.{list_any, AllByRecursion}
use Rattle.std.specs.Io.KnownBytes.{Consumes, Keeps, IsAtEnd, prepend_known}
use Rattle.std.proofs.lemmas.Bool.{or_parts}
use Rattle.std.proofs.lemmas.List.Sums.{sum_by-cons}
use Rattle.std.proofs.lemmas.List.{take-append-drop, take_at, length-append, length-take-le}
use Rattle.can_session.specs.declared.lines.InputFault.{InputFault}
use Rattle.can_session.specs.declared.lines.InputFault.TheVariants.{LineTooLong, TooLong, Read}
use Rattle.can_session.specs.Lines.{is_lf, with_byte, lines_of_text, whole_lines, spelled, Input, left_of, IsInputLine, BeginsTooLong, IsWithinLimits, IsOver, GivesBytes, TakesInputLine, FindsEnd, Waits, Overruns, Stops, GivesLines, Given, ReadsOn, ReadsOut, ReadsOver, ComesToLong, StopsAfter}

abbrev Unbroken : List ℕ → Type 0
Unbroken line = list_any is_lf line ≡ false

-- if the first byte is not LF, it belongs to the first line
goes_on : (b : ℕ) (bs : List ℕ) → is_lf b ≡ false → lines_of_text (b ∷ bs) ≡ with_byte b (lines_of_text bs)
goes_on b bs h = ap (λ t. if t then [] ∷ lines_of_text bs else with_byte b (lines_of_text bs)) h

-- bytes up to the first LF are the first line
first_line : (line rest : List ℕ) → Unbroken line → lines_of_text (line ++ 10 ∷ rest) ≡ line ∷ lines_of_text rest
first_line [] rest h = refl
first_line (b ∷ bs) rest h =
    let parts = or_parts (is_lf b) (list_any is_lf bs) h in
    goes_on b (bs ++ 10 ∷ rest) parts.0 ∙ ap (with_byte b) (first_line bs rest parts.1)

-- bytes without LF are the start of the first line
front_line : (b : ℕ) (bs rest : List ℕ) → Unbroken (b ∷ bs) → (line : List ℕ) × (more : List (List ℕ)) × (lines_of_text ((b ∷ bs) ++ rest) ≡ ((b ∷ bs) ++ line) ∷ more)
front_line b [] rest h =
    let parts = or_parts (is_lf b) (list_any is_lf []) h in
    elim (lines_of_text rest) as (λ ls. lines_of_text rest ≡ ls → (line : List ℕ) × (more : List (List ℕ)) × (lines_of_text (b ∷ rest) ≡ (b ∷ line) ∷ more)) [
      | [] ↦ λ e. ([], [], goes_on b rest parts.0 ∙ ap (with_byte b) e)
      | l ∷ ls ↦ λ e. (l, ls, goes_on b rest parts.0 ∙ ap (with_byte b) e)
    ] refl
front_line b (c ∷ cs) rest h =
    let parts = or_parts (is_lf b) (list_any is_lf (c ∷ cs)) h in
    let again = front_line c cs rest parts.1 in
    (again.0, again.1, goes_on b ((c ∷ cs) ++ rest) parts.0 ∙ ap (with_byte b) again.2)

-- bytes without LF at the end of a text are its last line
last_line : (line : List ℕ) → Unbroken line → 0 < length line → lines_of_text line ≡ line ∷ []
last_line [] h pos = absurd (omega (arith, pos))
last_line (b ∷ []) h pos = let parts = or_parts (is_lf b) (list_any is_lf []) h in goes_on b [] parts.0
last_line (b ∷ (c ∷ cs)) h pos =
    let parts = or_parts (is_lf b) (list_any is_lf (c ∷ cs)) h in
    goes_on b (c ∷ cs) parts.0 ∙ ap (with_byte b) (last_line (c ∷ cs) parts.1 (omega arith))

-- lines that each end with LF are the first lines of a text
pub first_lines : (lines : List (List ℕ)) (rest : List ℕ) → AllByRecursion Unbroken lines → lines_of_text (spelled lines ++ rest) ≡ lines ++ lines_of_text rest
first_lines [] rest h = refl
first_lines (line ∷ lines) rest h =
    ap lines_of_text (append_assoc (line ++ 10 ∷ []) (spelled lines) rest ∙ append_assoc line (10 ∷ []) (spelled lines ++ rest))
    ∙ first_line line (spelled lines ++ rest) h.0 ∙ ap (λ l. line ∷ l) (first_lines lines rest h.1)

-- how many LFs there are after one more byte is added at the front
count_first : (b : ℕ) (bs : List ℕ) → count_by is_lf (b ∷ bs) ≡ (if is_lf b then 1 else 0) + count_by is_lf bs
count_first b bs = sum_by-cons (λ x. if is_lf x then 1 else 0) b bs

no_lf : (bytes : List ℕ) → Unbroken bytes → count_by is_lf bytes ≡ 0
no_lf [] h = refl
no_lf (b ∷ bs) h =
    let parts = or_parts (is_lf b) (list_any is_lf bs) h in
    count_first b bs ∙ ap (λ t. (if t then 1 else 0) + count_by is_lf bs) parts.0 ∙ ap (λ n. 0 + n) (no_lf bs parts.1)

one_lf : (line rest : List ℕ) → Unbroken line → count_by is_lf (line ++ 10 ∷ rest) ≡ suc (count_by is_lf rest)
one_lf [] rest h = count_first 10 rest ∙ omega arith
one_lf (b ∷ bs) rest h =
    let parts = or_parts (is_lf b) (list_any is_lf bs) h in
    count_first b (bs ++ 10 ∷ rest) ∙ ap (λ t. (if t then 1 else 0) + count_by is_lf (bs ++ 10 ∷ rest)) parts.0 ∙ ap (λ n. 0 + n) (one_lf bs rest parts.1) ∙ zero-add _

-- there are as many LFs as complete lines
lf_count : (lines : List (List ℕ)) (held : List ℕ) → AllByRecursion Unbroken lines → Unbroken held → count_by is_lf (spelled lines ++ held) ≡ length lines
lf_count [] held h k = no_lf held k
lf_count (line ∷ lines) held h k =
    ap (count_by is_lf) (append_assoc (line ++ 10 ∷ []) (spelled lines) held ∙ append_assoc line (10 ∷ []) (spelled lines ++ held))
    ∙ one_lf line (spelled lines ++ held) h.0 ∙ ap suc (lf_count lines held h.1 k)

-- these are all lines that end with LF among the bytes that were read
all_whole : (lines : List (List ℕ)) (held : List ℕ) → AllByRecursion Unbroken lines → Unbroken held → lines ≡ whole_lines (spelled lines ++ held)
all_whole lines held h k =
    let text = spelled lines ++ held in
    sym (ap (λ n. take n (lines_of_text text)) (lf_count lines held h k) ∙ ap (take (length lines)) (first_lines lines held h) ∙ take_at lines (lines_of_text held) (length lines) refl)

-- the text of these lines followed by one more line
spelled_more : (lines : List (List ℕ)) (line rest : List ℕ) → spelled (lines ++ line ∷ []) ++ rest ≡ spelled lines ++ ((line ++ 10 ∷ []) ++ rest)
spelled_more [] line rest = ap (λ l. l ++ rest) (append-nil (line ++ 10 ∷ []))
spelled_more (l ∷ ls) line rest = append_assoc (l ++ 10 ∷ []) (spelled (ls ++ line ∷ [])) rest ∙ ap (λ t. (l ++ 10 ∷ []) ++ t) (spelled_more ls line rest) ∙ sym (append_assoc (l ++ 10 ∷ []) (spelled ls) _)

unbroken_more : (lines : List (List ℕ)) (line : List ℕ) → AllByRecursion Unbroken lines → Unbroken line → AllByRecursion Unbroken (lines ++ line ∷ [])
unbroken_more [] line h k = (k, tt)
unbroken_more (l ∷ ls) line h k = (h.0, unbroken_more ls line h.1 k)

spelled_push : (lines : List (List ℕ)) (line : List ℕ) → spelled (lines ++ line ∷ []) ≡ spelled lines ++ (line ++ 10 ∷ [])
spelled_push lines line = sym (append-nil _) ∙ spelled_more lines line [] ∙ ap (λ l. spelled lines ++ l) (append-nil (line ++ 10 ∷ []))

-- the bytes that an input returns are at the start of its remaining bytes
after : (rest bytes : List ℕ) (o n : Option (List ℕ)) → o ≡ Some rest → Consumes o n bytes → (left : List ℕ) × (n ≡ Some left) × (rest ≡ bytes ++ left)
after rest bytes None n e h = cc
after rest bytes (Some x) None e h = absurd h
after rest bytes (Some x) (Some y) e h = let same : rest ≡ x = cc in (y, refl, same ∙ h)

-- the remaining bytes stay the same
stays : (rest : List ℕ) (o n : Option (List ℕ)) → o ≡ Some rest → Keeps o n → n ≡ Some rest
stays rest None n e h = cc
stays rest (Some x) None e h = absurd h
stays rest (Some x) (Some y) e h = ap Some h ∙ e

-- the held bytes are at the start of the remaining bytes
held_first : (rest held : List ℕ) (coming : Option (List ℕ)) → prepend_known held coming ≡ Some rest → (more : List ℕ) × (rest ≡ held ++ more)
held_first rest held None e = cc
held_first rest held (Some more) e = (more, cc)

nothing_left : (left held : List ℕ) (coming : Option (List ℕ)) → held ≡ [] → IsAtEnd coming → prepend_known held coming ≡ Some left → left ≡ []
nothing_left left held None h k e = cc
nothing_left left held (Some more) h k e = let is : left ≡ held ++ more = cc in is ∙ ap (λ l. l ++ more) h ∙ k

-- if a text begins with more than 4,096 bytes without LF, its first line is too long
long_line : (front rest : List ℕ) → Unbroken front → 4096 < length front → (line : List ℕ) × (more : List (List ℕ)) × (lines_of_text (front ++ rest) ≡ line ∷ more) × (4096 < length line)
long_line [] rest h long = absurd (omega (arith, long))
long_line (b ∷ bs) rest h long =
    let first = front_line b bs rest h in
    ((b ∷ bs) ++ first.0, first.1, first.2, omega (arith, long, length-append (b ∷ bs) first.0))

-- at the end of an input, all of its text was returned
pub all_given : (text : List ℕ) (lines : List (List ℕ)) (old new : Input) → GivesLines text lines old → GivesBytes old new new.line → IsOver new → new.given ≡ length text
all_given text lines old new so gives over =
    let left = after so.rest new.line (left_of old) (left_of new) so.left gives.taken in
    let none = nothing_left left.0 new.held new.coming over.held over.coming left.1 in
    let is : so.rest ≡ new.line = left.2 ∙ ap (λ l. new.line ++ l) none ∙ append-nil new.line in
    let len : length text ≡ length (spelled lines) + length new.line = ap length (so.split ∙ ap (λ l. spelled lines ++ l) is) ∙ length-append (spelled lines) new.line in
    omega (arith, len, gives.counted, so.counted)

pub next : (text : List ℕ) (lines : List (List ℕ)) (old new : Input) → Given text lines old → TakesInputLine old new → Given text (lines ++ new.line ∷ []) new
next text lines old new (inl so) (going, line, inl gives) =
    let left = after so.rest (new.line ++ 10 ∷ []) (left_of old) (left_of new) so.left gives.taken in
    let len : length (spelled (lines ++ new.line ∷ [])) ≡ length (spelled lines) + length (new.line ++ 10 ∷ []) =
    ap length (spelled_push lines new.line) ∙ length-append (spelled lines) (new.line ++ 10 ∷ []) in
    inl (record {
      unbroken = unbroken_more lines new.line so.unbroken line.unbroken;
      rest = left.0;
      left = left.1;
      split = so.split ∙ ap (λ l. spelled lines ++ l) left.2 ∙ sym (spelled_more lines new.line left.0);
      counted = omega (arith, len, gives.counted, so.counted);
    })
next text lines old new (inl so) (going, line, inr last) =
    let left = after so.rest new.line (left_of old) (left_of new) so.left last.0.taken in
    let none = nothing_left left.0 new.held new.coming last.2.held last.2.coming left.1 in
    let is : so.rest ≡ new.line = left.2 ∙ ap (λ l. new.line ++ l) none ∙ append-nil new.line in
    inr (record {
      ended = last.2.ended;
      all = sym (ap lines_of_text so.split ∙ first_lines lines so.rest so.unbroken ∙ ap (λ l. lines ++ lines_of_text l) is ∙ ap (λ l. lines ++ l) (last_line new.line line.unbroken last.1));
      counted = all_given text lines old new so last.0 last.2;
    })
next text lines old new (inr done) (going, line, gives) = let no = done.ended in cc

pub forward : (old new : Input) → TakesInputLine old new → old.given < new.given
forward old new (going, line, inl gives) = omega (arith, gives.counted, length-append new.line (10 ∷ []))
forward old new (going, line, inr last) = omega (arith, last.0.counted, last.1)

pub end : (text : List ℕ) (lines : List (List ℕ)) (old new : Input) → Given text lines old → FindsEnd old new → (lines ≡ lines_of_text text) × (new.given ≡ length text)
end text lines old new (inl so) (gives, over) =
    let left = after so.rest [] (left_of old) (left_of new) so.left gives.taken in
    let none : so.rest ≡ [] = left.2 ∙ nothing_left left.0 new.held new.coming over.held over.coming left.1 in
    let len : length text ≡ length (spelled lines) = ap length (so.split ∙ ap (λ l. spelled lines ++ l) none ∙ append-nil (spelled lines)) in (
      sym (ap lines_of_text so.split ∙ first_lines lines so.rest so.unbroken ∙ ap (λ l. lines ++ lines_of_text l) none ∙ append-nil lines),
      omega (arith, len, gives.counted, so.counted),
    )
end text lines old new (inr done) (gives, over) = (done.all, omega (arith, done.counted, gives.counted))

-- the part of a text that a reader returned, if this part ends with the held bytes
gave : (text front rest held : List ℕ) (coming : Option (List ℕ)) → text ≡ front ++ rest → prepend_known held coming ≡ Some rest → Consumes (Some text) coming (front ++ held)
gave text front rest held None split e = cc
gave text front rest held (Some more) split e = let is : rest ≡ held ++ more = cc in split ∙ ap (λ l. front ++ l) is ∙ sym (append_assoc front held more)

reads_on : (text : List ℕ) (lines : List (List ℕ)) (old new : Input) → GivesLines text lines old → Waits old new → IsInputLine new.held → IsWithinLimits new → ReadsOn text lines new
reads_on text lines old new so waits line within =
    let len : length (spelled lines ++ new.held) ≡ length (spelled lines) + length new.held = length-append (spelled lines) new.held in
    record {
      read = spelled lines ++ new.held;
      taken = gave text (spelled lines) so.rest new.held new.coming so.split (stays so.rest (left_of old) (left_of new) so.left waits.same);
      within = omega (arith, len, within.bytes, waits.given, so.counted);
      whole = all_whole lines new.held so.unbroken line.unbroken;
      short = omega (arith, len, line.short);
    }

reads_out : (text : List ℕ) (lines : List (List ℕ)) (old new : Input) → GivesLines text lines old → Waits old new → new.reads ≡ 16777216 → IsInputLine new.held → IsWithinLimits new → ReadsOut text lines new
unfolding reads_on
reads_out text lines old new so waits spent line within =
    let len : length (spelled lines ++ new.held) ≡ length (spelled lines) + length new.held = length-append (spelled lines) new.held in
    let full : length (spelled lines ++ new.held) ≡ 16777216 = omega (arith, len, within.bytes, within.reads, spent, waits.given, so.counted) in
    record {
      on = reads_on text lines old new so waits line within;
      full = full;
      reads = spent;
    }

reads_over : (text : List ℕ) (lines : List (List ℕ)) (old new : Input) → GivesLines text lines old → Overruns old new → IsInputLine new.held → ReadsOver text lines new
reads_over text lines old new so over line =
    let left = after so.rest (new.held ++ over.byte ∷ []) (left_of old) new.coming so.left over.taken in
    let len : length (spelled lines ++ new.held) ≡ length (spelled lines) + length new.held = length-append (spelled lines) new.held in
    let split : text ≡ ((spelled lines ++ new.held) ++ over.byte ∷ []) ++ left.0 =
    so.split ∙ ap (λ l. spelled lines ++ l) left.2 ∙ sym (append_assoc (spelled lines) (new.held ++ over.byte ∷ []) left.0)
    ∙ ap (λ l. l ++ left.0) (sym (append_assoc (spelled lines) new.held (over.byte ∷ []))) in
    record {
      read = spelled lines ++ new.held;
      byte = over.byte;
      taken = subst (λ (o : Option (List ℕ)). Consumes (Some text) o ((spelled lines ++ new.held) ++ over.byte ∷ [])) (sym left.1) split;
      full = omega (arith, len, over.full, over.given, so.counted);
      whole = all_whole lines new.held so.unbroken line.unbroken;
      short = omega (arith, len, line.short);
    }

comes_to_long : (text : List ℕ) (lines : List (List ℕ)) (old new : Input) → GivesLines text lines old → Waits old new → BeginsTooLong new.held → IsWithinLimits new → ComesToLong text lines
comes_to_long text lines old new so waits long within =
    let more = held_first so.rest new.held new.coming (stays so.rest (left_of old) (left_of new) so.left waits.same) in
    let front = take 4097 new.held in
    let behind = drop 4097 new.held ++ more.0 in
    let parts : so.rest ≡ front ++ behind = more.1 ∙ ap (λ l. l ++ more.0) (sym (take-append-drop 4097 new.held)) ∙ append_assoc front (drop 4097 new.held) more.0 in
    let first = long_line front behind long.unbroken (omega (arith, long.long, length-take-le 4097 new.held (omega (arith, long.long)))) in
    record {
      line = first.0;
      more = first.1;
      next = ap lines_of_text so.split ∙ first_lines lines so.rest so.unbroken ∙ ap (λ l. lines ++ lines_of_text l) parts ∙ ap (λ l. lines ++ l) first.2;
      long = first.3;
      within = omega (arith, within.bytes, long.long, waits.given, so.counted);
    }

pub stop : (text : List ℕ) (lines : List (List ℕ)) (old new : Input) (fault : InputFault) → Given text lines old → Stops fault old new → IsWithinLimits new → StopsAfter fault text lines new
stop text lines old new LineTooLong (inl so) (going, told, (waits, long)) within = comes_to_long text lines old new so waits long within
stop text lines old new TooLong (inl so) (going, told, (line, inl spent)) within = inl (reads_out text lines old new so spent.0 spent.1 line within)
stop text lines old new TooLong (inl so) (going, told, (line, inr over)) within = inr (reads_over text lines old new so over line)
stop text lines old new Read (inl so) (going, told, (line, failed)) within = (reads_on text lines old new so failed.0 line within, failed.1)
stop text lines old new fault (inr done) (going, told, stops) within = let no = done.ended in cc

-- two parts of a text that a reader may have returned have the same length
same_length : (text a b : List ℕ) (coming : Option (List ℕ)) → Consumes (Some text) coming a → Consumes (Some text) coming b → length a ≡ length b
same_length text a b None h k = absurd h
same_length text a b (Some rest) h k =
    let one : length text ≡ length a + length rest = ap length h ∙ length-append a rest in
    let two : length text ≡ length b + length rest = ap length k ∙ length-append b rest in
    omega (arith, one, two)

pub apart : (text : List ℕ) (lines others : List (List ℕ)) (now : Input) → StopsAfter Read text lines now → ¬ StopsAfter TooLong text others now
apart text lines others now (on, few) (inl out) = omega (arith, few, out.reads)
apart text lines others now (on, few) (inr over) =
    let same = same_length text on.read (over.read ++ over.byte ∷ []) now.coming on.taken over.taken in
    omega (arith, same, length-append over.read (over.byte ∷ []), over.full, on.within)
