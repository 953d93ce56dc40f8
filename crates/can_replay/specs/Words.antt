use Rattle.std.specs.Prelude.{ℕ, ◌==◌, ◌&&◌, List, [], ◌∷◌, ◌++◌, codes, decimal, if◌then◌else◌}
use Rattle.std.specs.Prelude.{Option, Some, None}
use Rattle.std.specs.List.{flat_map}
use Rattle.can_confine.specs.Confinement.{ErrorCounts}
use Rattle.can_fault.specs.declared.verdict.Verdict.{Verdict}
use Rattle.can_attempt.specs.declared.class.Class.{Class}
use Rattle.can_frame.specs.declared.item.Item.{Item}
use Rattle.can_frame.specs.declared.item.Item.TheVariants as item
use Rattle.can_frame.specs.FrameText.{frame_spelling}
use Rattle.can_frame.specs.Frames.{CanFrame}
use Rattle.can_wire.specs.FrameBits.{frame_bits_of}
use Rattle.can_wire.specs.Timings.{BusTiming, attempt_nanos_of, frame_nanos_of}

-- The parts of a line of events, which show the effects of an entry (own choice).

-- These words, with a space before each word.
unfoldable pub parted : List (List ℕ) → List ℕ
parted words = flat_map (λ (w : List ℕ). 32 ∷ w) words

-- A part of a line: a semicolon, followed by the words.
abbrev pub part : List (List ℕ) → List ℕ
part words = 59 ∷ parted words

-- A part that begins with this name, or nothing if there are no words.
abbrev pub part_named : List ℕ → List (List ℕ) → List ℕ
part_named name [] = []
part_named name (w ∷ ws) = part (name ∷ w ∷ ws)

-- A part with this name and this number, or nothing if there is no number.
unfoldable pub numbered : List ℕ → Option ℕ → List ℕ
numbered name None = []
numbered name (Some n) = part (name ∷ decimal n ∷ [])

-- The part with the error counts of interface i after an entry, if the entry changed them.
unfoldable pub counts_part : ℕ → ErrorCounts → ErrorCounts → List ℕ
counts_part i before after =
    if (before.tec == after.tec) && (before.rec == after.rec) then []
    else part (codes "counts" ∷ decimal i ∷ decimal after.tec ∷ decimal after.rec ∷ [])

-- The part with the number of frames that interface i lost, if it lost any.
unfoldable pub lost_part : ℕ → ℕ → List ℕ
lost_part i n = if n == 0 then [] else part (codes "lost" ∷ decimal i ∷ decimal n ∷ [])

-- The word for an item that was queued on socket s: the socket's number. If the item is an error message frame, a colon
-- and the frame follow.
abbrev pub put_word : ℕ → Item → List ℕ
put_word s (item.Data f) = decimal s
put_word s (item.Error e) = decimal s ++ 58 ∷ frame_spelling (item.Error e)

-- The word for the items that were dropped because socket s had no room, if there are any: the socket's number, a colon
-- and how many items.
abbrev pub dropped_words : ℕ → ℕ → List (List ℕ)
dropped_words s n = if n == 0 then [] else (decimal s ++ 58 ∷ decimal n) ∷ []

-- The words for the times and the bits of a tried frame: the nanoseconds to its end of frame, the nanoseconds until the
-- next attempt may begin, and how many bits are sent at the nominal and at the data bit rate.
abbrev pub wire_words : BusTiming → CanFrame → Class → Verdict → List (List ℕ)
wire_words t f class v =
    codes "wire" ∷ decimal (frame_nanos_of t f) ∷ decimal (attempt_nanos_of t f class v)
    ∷ decimal (frame_bits_of f).nominal ∷ decimal (frame_bits_of f).fast ∷ []
