use Rattle.std.specs.Prelude.{ℕ, Bool, if◌then◌else◌, List, [], ◌∷◌, ◌++◌, ◌≡◌, ◌≤◌, length, take, drop}
use Rattle.can_proto.specs.declared.message.Incoming.{Incoming}
use Rattle.can_proto.specs.declared.scanning.RunStart.{RunStart}
use Rattle.can_proto.specs.declared.scanning.RunStart.TheVariants.{Outside, Carried, At}
use Rattle.can_proto.specs.Messages.{messages_of, kept_of}

-- Definitions for the parts of a message reader.

-- the text that a reader keeps: `<` and the bytes after it if it is reading a run, otherwise no text
abbrev pub text_kept : Bool → List ℕ → List ℕ
text_kept is_open inside = if is_open then 60 ∷ inside else []

-- the text that a reader keeps at index `i` of a piece, given the place at which its run began
abbrev pub text_kept_at : List ℕ → List ℕ → ℕ → RunStart → List ℕ
text_kept_at held piece i Outside = []
text_kept_at held piece i Carried = 60 ∷ (held ++ take i piece)
text_kept_at held piece i (At start) = 60 ∷ drop start (take i piece)

-- the run does not begin after index `i`
abbrev pub IsWithin : RunStart → ℕ → Type 0
IsWithin (At start) i = start ≤ i
IsWithin _ i = Unit {0}

-- reading a piece from index `i` to `end` adds the messages that end in this range, and the run at `end` begins at
-- `next`
abbrev pub ReadsUpTo : List ℕ → List ℕ → ℕ → RunStart → ℕ → List Incoming → List Incoming → RunStart → Type 0
ReadsUpTo held piece i place end before after next =
    (after ≡ before ++ messages_of (text_kept_at held piece i place ++ drop i (take end piece)))
    × (text_kept_at held piece end next ≡ kept_of (text_kept_at held piece i place ++ drop i (take end piece)))
    × IsWithin next end

-- a reader that kept this text reads these items from a piece, and the run at the end of the piece begins at `place`
pub record Scans (kept held piece : List ℕ) (items : List Incoming) (place : RunStart) : Type 0 where
  pub given : items ≡ messages_of (kept ++ piece)
  pub keeps : text_kept_at held piece (length piece) place ≡ kept_of (kept ++ piece)
  pub within : IsWithin place (length piece)
