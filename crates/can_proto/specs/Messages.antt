use Rattle.std.specs.Prelude.{◌≡◌, ℕ, Bool, true, false, not, ◌&&◌, ◌||◌, ◌==◌}
use Rattle.std.specs.Prelude.{nat_lt, if◌then◌else◌, List, [], ◌∷◌, ◌++◌, ◌≤◌, length}
use Rattle.can_proto.specs.declared.message.Incoming.{Incoming}
use Rattle.can_proto.specs.declared.message.Incoming.TheVariants.{Message, TooLong}

-- The messages in a stream of bytes. Each `<` may begin a message (socketcand's protocol has these marks; the limit and
-- the rules that end a message early are own choice).

-- whether the byte is the mark `<`
abbrev pub is_open_mark : ℕ → Bool
is_open_mark b = b == 60

-- whether the byte is the mark `>`
abbrev pub is_close_mark : ℕ → Bool
is_close_mark b = b == 62

-- whether the byte is a mark: `<` or `>`
abbrev pub is_mark : ℕ → Bool
is_mark b = is_open_mark b || is_close_mark b

-- the bytes before the next mark, or all bytes if there is no mark
abbrev pub run_of : List ℕ → List ℕ
run_of [] = []
run_of (b ∷ bs) = if is_mark b then [] else b ∷ run_of bs

-- whether the first mark in the bytes is `>`
abbrev pub is_closed : List ℕ → Bool
is_closed [] = false
is_closed (b ∷ bs) = if is_close_mark b then true else if is_open_mark b then false else is_closed bs

-- the largest number of bytes in a message (own choice)
abbrev pub limit : ℕ
limit = 1024

-- the message that a `<` begins, given the bytes after the `<`
abbrev pub given_by : List ℕ → List Incoming
given_by bytes =
    if nat_lt limit (length (run_of bytes)) then TooLong ∷ []
    else if is_closed bytes then Message (run_of bytes) ∷ []
    else []

-- the messages of a stream in order: at most one for each `<`
abbrev pub messages_of : List ℕ → List Incoming
messages_of [] = []
messages_of (b ∷ bs) = if is_open_mark b then given_by bs ++ messages_of bs else messages_of bs

-- whether the bytes contain a `<`
abbrev pub has_open_mark : List ℕ → Bool
has_open_mark [] = false
has_open_mark (b ∷ bs) = is_open_mark b || has_open_mark bs

-- whether the bytes contain a mark
abbrev pub has_mark : List ℕ → Bool
has_mark [] = false
has_mark (b ∷ bs) = is_mark b || has_mark bs

-- a `<` and the bytes after it, if they may still become a message
abbrev pub left_by : List ℕ → List ℕ
left_by bytes = if is_closed bytes || nat_lt limit (length (run_of bytes)) then [] else 60 ∷ run_of bytes

-- the text of a stream that a reader keeps: the last `<` and the bytes after it, if they may still become a message
abbrev pub kept_of : List ℕ → List ℕ
kept_of [] = []
kept_of (b ∷ bs) = if is_open_mark b && not (has_open_mark bs) then left_by bs else kept_of bs

-- the messages that a reader finds in these pieces, one after another, if it kept the text `before`
abbrev pub given_from : List ℕ → List (List ℕ) → List Incoming
given_from before [] = []
given_from before (piece ∷ pieces) = messages_of (before ++ piece) ++ given_from (kept_of (before ++ piece)) pieces

-- a text that a reader may keep: empty, or `<` and at most 1,024 bytes without a mark
abbrev pub MayBeKept : List ℕ → Type 0
MayBeKept [] = Unit {0}
MayBeKept (b ∷ run) = (b ≡ 60) × (has_mark run ≡ false) × (length run ≤ limit)
