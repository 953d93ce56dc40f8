use Rattle.std.specs.Prelude.{◌≡◌, ℕ, ◌-◌, ◌==◌, Bool, true, false, ◌||◌, if◌then◌else◌}
use Rattle.std.specs.Prelude.{List, [], ◌∷◌, ◌++◌, get_or, slice_set, replicate}
use Rattle.std.specs.List.{flat_map, AllByRecursion}
use Rattle.can_proto.specs.Messages.{has_mark}
use Rattle.can_proto.specs.Words.{is_blank}
use Rattle.can_session.specs.declared.ignored_input.IgnoredInput.{IgnoredInput}

-- Bytes outside messages that were fed to sessions (own choice).

-- whether a message is open (begun but not ended) after these bytes; `begun` says whether one was open before them
abbrev pub begun_after : Bool → List ℕ → Bool
begun_after begun [] = begun
begun_after begun (b ∷ bs) = begun_after (if b == 60 then true else if b == 62 then false else begun) bs

-- whether some of these bytes are outside messages and not blank, or are a `<` inside an open message
abbrev pub has_outside : Bool → List ℕ → Bool
has_outside begun [] = false
has_outside false (b ∷ bs) = if b == 60 then has_outside true bs else if is_blank b then has_outside false bs else true
has_outside true (b ∷ bs) = if b == 60 then true else has_outside (if b == 62 then false else true) bs

-- one part of a stream: a blank between messages, or a message with these bytes between `<` and `>`
pub data Part : Type 0 where
  Gap : ℕ → Part
  Whole : List ℕ → Part

-- the bytes of a part
abbrev pub part_text : Part → List ℕ
part_text (Gap b) = b ∷ []
part_text (Whole inside) = 60 ∷ inside ++ 62 ∷ []

-- a valid part: a byte that is a blank, or a message without `<` or `>` inside
abbrev pub IsPart : Part → Type 0
IsPart (Gap b) = is_blank b ≡ true
IsPart (Whole inside) = has_mark inside ≡ false

-- the bytes after the last part: either none or an open message
abbrev pub IsTail : Bool → List ℕ → Type 0
IsTail false tail = tail ≡ []
IsTail true tail = (inside : List ℕ) × (tail ≡ 60 ∷ inside) × (has_mark inside ≡ false)

-- the bytes are messages with only blanks between them; if `begun` is true, an open message follows
pub record AreMessagesInOrder (bytes : List ℕ) (begun : Bool) : Type 0 where
  pub parts : List Part
  pub tail : List ℕ
  pub good : AllByRecursion IsPart parts
  pub last : IsTail begun tail
  pub whole : bytes ≡ flat_map part_text parts ++ tail

-- the flag of session `s`
abbrev pub is_set : List Bool → ℕ → Bool
is_set flags s = get_or flags (s - 1) false

-- which sessions have an open message after session `s` was fed these bytes
abbrev pub begun_then : List Bool → ℕ → List ℕ → List Bool
begun_then begun s bytes = slice_set begun (s - 1) (begun_after (is_set begun s) bytes)

-- which sessions were fed bytes outside messages, after session `s` was fed these bytes
abbrev pub outside_then : List Bool → List Bool → ℕ → List ℕ → List Bool
outside_then outside begun s bytes = slice_set outside (s - 1) (is_set outside s || has_outside (is_set begun s) bytes)

-- the state before any session was fed
abbrev pub none_ignored : IgnoredInput
none_ignored = record { begun = replicate 64 false; outside = replicate 64 false }

-- the state of all sessions after session `s` was fed these bytes
abbrev pub ignored_then : IgnoredInput → ℕ → List ℕ → IgnoredInput
ignored_then u s bytes = record { begun = begun_then u.begun s bytes; outside = outside_then u.outside u.begun s bytes }
