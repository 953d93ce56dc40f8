use Rattle.std.specs.Prelude.{◌≡◌, ℕ, ◌+◌, ◌<◌, ◌≤◌, Bool, true, false, MatchBool, ◌==◌, ◌⊎◌, if◌then◌else◌}
use Rattle.std.specs.Prelude.{List, [], ◌∷◌, ◌++◌, length, take, drop, count_by, Option, Some, None}
use Rattle.std.specs.List.{list_any, flat_map, AllByRecursion}
use Rattle.std.specs.Io.KnownBytes.{Consumes, Keeps, IsAtEnd, prepend_known}
use Rattle.can_session.specs.declared.lines.InputFault.{InputFault}
use Rattle.can_session.specs.declared.lines.InputFault.TheVariants.{LineTooLong, TooLong, Read}

-- The lines of a text, and an input that is read line by line (own choice).

-- whether the byte is LF, which ends a line
abbrev pub is_lf : ℕ → Bool
is_lf b = b == 10

-- the lines with this byte at the front of the first line, or as the only line if there are no lines
abbrev pub with_byte : ℕ → List (List ℕ) → List (List ℕ)
with_byte b [] = (b ∷ []) ∷ []
with_byte b (line ∷ lines) = (b ∷ line) ∷ lines

-- the lines of a text, without their LFs. Each LF ends a line, and the bytes after the last LF are a line if there are
-- any.
abbrev pub lines_of_text : List ℕ → List (List ℕ)
lines_of_text [] = []
lines_of_text (b ∷ bs) = if is_lf b then [] ∷ lines_of_text bs else with_byte b (lines_of_text bs)

-- the lines of a text that end with LF: one for each LF
abbrev pub whole_lines : List ℕ → List (List ℕ)
whole_lines text = take (count_by is_lf text) (lines_of_text text)

-- the bytes may be a line: there is no LF and there are at most 4,096 bytes
pub record IsInputLine (bytes : List ℕ) : Type 0 where
  pub unbroken : list_any is_lf bytes ≡ false
  pub short : length bytes ≤ 4096

-- the text begins with a line that is too long: its first 4,097 bytes contain no LF
pub record BeginsTooLong (text : List ℕ) : Type 0 where
  pub long : 4096 < length text
  pub unbroken : list_any is_lf (take 4097 text) ≡ false

-- the state of an input that is read line by line: the current line, the number of bytes returned as lines with their
-- LFs, the bytes that were read but not returned yet, the bytes that the reader still has, if they are known, the
-- number of reads that returned bytes, whether the input has ended, and the fault that ended it, if any
pub record Input : Type 0 where
  pub line : List ℕ
  pub given : ℕ
  pub held : List ℕ
  pub coming : Option (List ℕ)
  pub reads : ℕ
  pub ended : Bool
  pub fault : Option InputFault

-- an input before its first read
abbrev pub unread : Option (List ℕ) → Input
unread coming = record { line = []; given = 0; held = []; coming = coming; reads = 0; ended = false; fault = None }

-- the input after it returned the next line, which has `line` bytes without its LF and `width` bytes with it
abbrev pub after_line : ℕ → ℕ → Input → Input
after_line line width i = record i { line = take line i.held; given = i.given + width; held = drop width i.held }

-- the input after it returned all held bytes as the last line
abbrev pub after_last : Input → Input
after_last i = record i { line = i.held; given = i.given + length i.held; held = []; ended = true }

-- the bytes that are not returned yet, if they are known
abbrev pub left_of : Input → Option (List ℕ)
left_of i = prepend_known i.held i.coming

-- the input is within its limits: each counted read returned at least one byte, and no bytes remain after the end
pub record IsWithinLimits (i : Input) : Type 0 where
  pub bytes : i.given + length i.held ≤ 16777216
  pub reads : i.reads ≤ i.given + length i.held
  pub over : i.ended ≡ true → (i.held ≡ []) × IsAtEnd i.coming

-- the input has ended
pub record IsOver (i : Input) : Type 0 where
  pub ended : i.ended ≡ true
  pub held : i.held ≡ []
  pub coming : IsAtEnd i.coming

-- the number of bytes read from an input: bytes returned as lines and bytes still held
abbrev pub came : Input → ℕ
came i = i.given + length i.held

-- each read counted between the two states returned at least one byte
pub record Counts (old new : Input) : Type 0 where
  pub more : old.reads ≤ new.reads
  pub bytes : new.reads + came old ≤ old.reads + came new

-- the input returns these remaining bytes without a fault
pub record GivesBytes (old new : Input) (bytes : List ℕ) : Type 0 where
  pub taken : Consumes (left_of old) (left_of new) bytes
  pub counted : new.given ≡ old.given + length bytes
  pub reads : Counts old new
  pub fault : new.fault ≡ old.fault

-- the input had not ended, and the next line is now its current line: the line ended with LF, or it is the last line
-- and not empty
abbrev pub TakesInputLine : Input → Input → Type 0
TakesInputLine old new =
    (old.ended ≡ false)
    × IsInputLine new.line
    × (GivesBytes old new (new.line ++ 10 ∷ []) ⊎ (GivesBytes old new new.line × (0 < length new.line) × IsOver new))

-- no line remained, and the input has ended
abbrev pub FindsEnd : Input → Input → Type 0
FindsEnd old new = GivesBytes old new [] × IsOver new

-- whether a next line was found, and the resulting state
abbrev pub ComesNext : Bool → Input → Input → Type 0
ComesNext found old new = MatchBool found (TakesInputLine old new) (FindsEnd old new)

-- the input returns no bytes: the remaining bytes stay the same
pub record Waits (old new : Input) : Type 0 where
  pub same : Keeps (left_of old) (left_of new)
  pub given : new.given ≡ old.given
  pub reads : Counts old new

-- the reader returned one byte more than an input may contain
pub record Overruns (old new : Input) : Type 0 where
  pub byte : ℕ
  pub taken : Consumes (left_of old) new.coming (new.held ++ byte ∷ [])
  pub given : new.given ≡ old.given
  pub reads : Counts old new
  pub full : new.given + length new.held ≡ 16777216

-- a read was not made or failed: the limit on reads was reached, the input has one byte too many, or the reader failed
abbrev pub Fails : InputFault → Input → Input → Type 0
Fails LineTooLong old new = ⊥
Fails TooLong old new = (Waits old new × (new.reads ≡ 16777216)) ⊎ Overruns old new
Fails Read old new = Waits old new × (new.reads < 16777216)

-- the reason why there is no next line: the held bytes begin with a line that is too long, or they contain no LF and no
-- more bytes can be read
abbrev pub Halts : InputFault → Input → Input → Type 0
Halts LineTooLong old new = Waits old new × BeginsTooLong new.held
Halts fault old new = IsInputLine new.held × Fails fault old new

-- the input had not ended, and it has no next line: it returns this fault
abbrev pub Stops : InputFault → Input → Input → Type 0
Stops fault old new = (old.ended ≡ false) × (new.fault ≡ Some fault) × Halts fault old new

-- the input returned this fault before and returns it again
abbrev pub Repeats : InputFault → Input → Input → Type 0
Repeats fault old new = (old.fault ≡ Some fault) × (new ≡ old)

-- one read appends this many bytes to the held bytes
pub record Fills (old new : Input) (count : ℕ) : Type 0 where
  pub waits : Waits old new
  pub bytes : List ℕ
  pub counted : length bytes ≡ count
  pub behind : new.held ≡ old.held ++ bytes
  pub reads : 0 < count → new.reads ≡ old.reads + 1
  pub ended : new.ended ≡ old.ended
  pub fault : new.fault ≡ old.fault
  pub end : count ≡ 0 → IsAtEnd new.coming

-- the text of these lines, each followed by LF
abbrev pub spelled : List (List ℕ) → List ℕ
spelled lines = flat_map (λ line. line ++ 10 ∷ []) lines

-- the input returned these lines of a text, each ended by LF, and the rest of the text remains
pub record GivesLines (text : List ℕ) (lines : List (List ℕ)) (now : Input) : Type 0 where
  pub unbroken : AllByRecursion (λ line. list_any is_lf line ≡ false) lines
  pub rest : List ℕ
  pub left : left_of now ≡ Some rest
  pub split : text ≡ spelled lines ++ rest
  pub counted : now.given ≡ length (spelled lines)

-- the input returned all lines of a text and has ended
pub record HasEnded (text : List ℕ) (lines : List (List ℕ)) (now : Input) : Type 0 where
  pub ended : now.ended ≡ true
  pub all : lines ≡ lines_of_text text
  pub counted : now.given ≡ length text

-- the lines of a text that an input returned, up to and including its current line
abbrev pub Given : List ℕ → List (List ℕ) → Input → Type 0
Given text lines now = GivesLines text lines now ⊎ HasEnded text lines now

-- the reader returned the first part of a text, at most 16,777,216 bytes, and still has the rest. The input returned
-- all lines that end with LF in this part, and at most 4,096 bytes follow these lines.
pub record ReadsOn (text : List ℕ) (lines : List (List ℕ)) (now : Input) : Type 0 where
  pub read : List ℕ
  pub taken : Consumes (Some text) now.coming read
  pub within : length read ≤ 16777216
  pub whole : lines ≡ whole_lines read
  pub short : length read ≤ length (spelled lines) + 4096

-- the reader returned the first 16,777,216 bytes of a text in 16,777,216 reads
pub record ReadsOut (text : List ℕ) (lines : List (List ℕ)) (now : Input) : Type 0 where
  pub on : ReadsOn text lines now
  pub full : length on.read ≡ 16777216
  pub reads : now.reads ≡ 16777216

-- the reader returned the first 16,777,216 bytes of a text and one more byte. The input returned all lines that end
-- with LF before that byte, and at most 4,096 bytes follow these lines.
pub record ReadsOver (text : List ℕ) (lines : List (List ℕ)) (now : Input) : Type 0 where
  pub read : List ℕ
  pub byte : ℕ
  pub taken : Consumes (Some text) now.coming (read ++ byte ∷ [])
  pub full : length read ≡ 16777216
  pub whole : lines ≡ whole_lines read
  pub short : length read ≤ length (spelled lines) + 4096

-- the line after these lines is too long, and its 4,097th byte is within the size limit of an input
pub record ComesToLong (text : List ℕ) (lines : List (List ℕ)) : Type 0 where
  pub line : List ℕ
  pub more : List (List ℕ)
  pub next : lines_of_text text ≡ lines ++ line ∷ more
  pub long : 4096 < length line
  pub within : length (spelled lines) + 4097 ≤ 16777216

-- the lines of a text that were returned before a fault: the next line is too long, the size limit is reached, or the
-- reader failed
abbrev pub StopsAfter : InputFault → List ℕ → List (List ℕ) → Input → Type 0
StopsAfter LineTooLong text lines now = ComesToLong text lines
StopsAfter TooLong text lines now = ReadsOut text lines now ⊎ ReadsOver text lines now
StopsAfter Read text lines now = ReadsOn text lines now × (now.reads < 16777216)
