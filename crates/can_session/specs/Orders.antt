use Rattle.std.specs.Prelude.{ℕ, Bool, true, ◌+◌, ◌&&◌, ◌==◌, nat_le, if◌then◌else◌, List, []}
use Rattle.std.specs.Prelude.{◌∷◌, take, drop, slice_index, position, codes, Option, Some, None}
use Rattle.std.specs.Option.{option_map, option_and_then}
use Rattle.can_frame.specs.Moments.{moment_in}
use Rattle.can_frame.specs.Numbers.{number_in}
use Rattle.can_proto.specs.Verbs.{is_word}
use Rattle.can_session.specs.declared.order.Order.{Order}
use Rattle.can_session.specs.declared.order.Order.TheVariants.{Nothing, At, Session, Feed}
use Rattle.can_session.specs.declared.order.Order.TheVariants.{Drain, End, Attempt, Run, Fault, Down, Up}

-- The commands in the lines of the bench's input (own choice).

-- the effect of a line: it sets a moment in microseconds; starts, feeds, drains or ends a session; makes one attempt,
-- or all attempts that begin before a moment; adds a fault rule; or takes a named interface down or brings it up
pub data Effect : Type 0 where
  Does_nothing : Effect
  Sets : ℕ → Effect
  Starts : ℕ → Effect
  Feeds : ℕ → List ℕ → Effect
  Drains : ℕ → Effect
  Ends : ℕ → Effect
  Attempts : Effect
  Runs : ℕ → Effect
  Injects : List ℕ → Effect
  TakesDown : List ℕ → Effect
  BringsUp : List ℕ → Effect

-- the effect of an order
abbrev pub effect_of : Order → Effect
effect_of Nothing = Does_nothing
effect_of (At moment) = Sets moment
effect_of (Session session) = Starts session
effect_of (Feed session bytes) = Feeds session bytes.now
effect_of (Drain session) = Drains session
effect_of (End session) = Ends session
effect_of Attempt = Attempts
effect_of (Run moment) = Runs moment
effect_of (Fault rule) = Injects rule.now
effect_of (Down name) = TakesDown name.now
effect_of (Up name) = BringsUp name.now

-- the bytes before the first occurrence of this byte, and the bytes after it
abbrev pub parted : ℕ → List ℕ → Option (List ℕ × List ℕ)
parted mark text = option_map (λ n. (take n text, drop (n + 1) text)) (position (λ b. b == mark) text)

-- the session number, if this number is from 1 to 64
abbrev pub session_number : ℕ → Option ℕ
session_number n = if nat_le 1 n && nat_le n 64 then Some n else None

-- the session number that a word spells, in decimal without leading zeros
abbrev pub session_of : List ℕ → Option ℕ
session_of word = if slice_index word 0 == 48 then None else option_and_then session_number (number_in 10 2 word)

-- the effect of `feed`, given the session number and the bytes after the next space
abbrev pub fed_by : List ℕ × List ℕ → Option Effect
fed_by (session, bytes) = option_map (λ s. Feeds s bytes) (session_of session)

-- the effect of a line with a space, given the word before the first space and the bytes after it
abbrev pub asked_by_word : List ℕ × List ℕ → Option Effect
asked_by_word (word, rest) =
    if is_word word (codes "at") then option_map Sets (moment_in rest) else
    if is_word word (codes "session") then option_map Starts (session_of rest) else
    if is_word word (codes "feed") then option_and_then fed_by (parted 32 rest) else
    if is_word word (codes "drain") then option_map Drains (session_of rest) else
    if is_word word (codes "end") then option_map Ends (session_of rest) else
    if is_word word (codes "run") then option_map Runs (moment_in rest) else
    if is_word word (codes "fault") then Some (Injects rest) else
    if is_word word (codes "down") then Some (TakesDown rest) else
    if is_word word (codes "up") then Some (BringsUp rest) else None

-- whether the line is empty or begins with `#`
abbrev pub is_remark : List ℕ → Bool
is_remark [] = true
is_remark (b ∷ bs) = b == 35

-- the effect of a line, or `None` if the line is wrong
abbrev pub order_of : List ℕ → Option Effect
order_of line =
    if is_remark line then Some Does_nothing else
    if is_word line (codes "attempt") then Some Attempts else option_and_then asked_by_word (parted 32 line)
