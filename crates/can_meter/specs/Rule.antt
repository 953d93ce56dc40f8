use Rattle.std.specs.Prelude.{◌≡◌, ℕ, ◌<◌, List, [], ◌∷◌, length, slice_index}
use mathlib.Core.List.{IsSuffix}
use mathlib.Core.Option.{some}
use lib.ListN.{get_elem?}
use Rattle.atomic_table.specs.Table.{Me, Step}
use Rattle.atomic_table.specs.Seated.{TableId}
use Rattle.can_meter.specs.declared.status.Status.{Status}
use Rattle.can_meter.specs.declared.rule.View.{View}
use Rattle.can_meter.specs.declared.rule.View.TheVariants.{Keeps, Watches, Spent}
use Rattle.can_meter.specs.Publications.{newest, published, with_list, with_newest, longer_lists, AreEndsOf}
use Rattle.can_meter.specs.Words.{meant, Fits}

-- The rule that holds for a meter's words and seats between any two steps, and the result of each step. No caller's
-- contract mentions it.

-- each publication fits in a word, and its record is longer than the record of the publication before it
abbrev pub AreRising : List Status → Type 0
AreRising [] = Unit {0}
AreRising (p ∷ ps) = ((newest ps).at < p.at) × Fits p × AreRising ps

-- each of these older lists has only ends of the present lists
abbrev pub AllEnd : List (List (List Status)) → List (List Status) → Type 0
AllEnd [] lists = Unit {0}
AllEnd (older ∷ olds) lists = AreEndsOf older lists × AllEnd olds lists

-- The one keeper knows all publications, and a gauge knows an end of each list. The lists that a seat took in are ends
-- too.
abbrev pub KnowsPublications : ℕ → List (List Status) → ℕ → View → Type 0
KnowsPublications keeper all seat (Keeps lists olds) = (seat ≡ keeper) × (lists ≡ all) × AllEnd olds all
KnowsPublications keeper all seat (Watches lists olds) = AreEndsOf lists all × AllEnd olds all
KnowsPublications keeper all seat Spent = Unit {0}

-- each word stores the newest publication of its interface, publications rise, and each seat knows its part
abbrev pub Metered : ℕ → List ℕ → List View → Type 0
Metered count words views =
    (keeper : ℕ) × (all : List (List Status))
    × (length words ≡ count)
    × ((i : ℕ) → i < count → meant (slice_index words i) ≡ newest (published all i))
    × ((i : ℕ) → AreRising (published all i))
    × ((seat : ℕ) (v : View) → get_elem? views seat ≡ some v → KnowsPublications keeper all seat v)

-- the lists that a seat knows
abbrev pub seat_lists : View → List (List Status)
seat_lists (Keeps lists olds) = lists
seat_lists (Watches lists olds) = lists
seat_lists Spent = []

-- the older lists: those that the seat took in, and a gauge's own lists before it took them in
abbrev pub olds_of : View → List (List (List Status))
olds_of (Keeps lists olds) = olds
olds_of (Watches lists olds) = olds
olds_of Spent = []

-- a gauge that knows the same lists as this seat
abbrev pub watcher : View → View
watcher v = Watches (seat_lists v) []

-- a gauge that knows no publication
abbrev pub new_gauge : View → View
new_gauge v = Watches [] []

-- a seat after it took in another seat's lists: a keeper's lists stay the same, a gauge has the longer list of each
-- interface
abbrev pub seat_taken_in : View → View → View
seat_taken_in (Keeps lists olds) w = Keeps lists (seat_lists w ∷ olds)
seat_taken_in (Watches lists olds) w = Watches (longer_lists lists (seat_lists w)) (lists ∷ seat_lists w ∷ olds)
seat_taken_in Spent w = Spent

-- a seat after its older lists were returned: it has none any more
abbrev pub without_old_lists : View → View
without_old_lists (Keeps lists olds) = Keeps lists []
without_old_lists (Watches lists olds) = Watches lists []
without_old_lists Spent = Spent

-- A load: the gauge's list of this interface may get more publications in front. The word that was found stores the
-- newest one.
abbrev pub LoadsPublications : {S : Type 0} → Step S → Me S View → ℕ → Me S View → Type 0
LoadsPublications s v found w =
    (seen : List Status)
    × (w.0 ≡ Watches (with_list (seat_lists v.0) s.word seen) []) × (w.1 ≡ v.1)
    × IsSuffix (published (seat_lists v.0) s.word) seen × AreRising seen × (meant found ≡ newest seen)

-- a load that returns the older lists: they are ends of the seat's own lists
abbrev pub ReturnsOldLists : {S : Type 0} → Step S → Me S View → ℕ → Me S View → Type 0
ReturnsOldLists s v found w = (w.0 ≡ without_old_lists v.0) × (w.1 ≡ v.1) × AllEnd (olds_of v.0) (seat_lists v.0)

-- a store: the publication in the word becomes the newest of the keeper's list of this interface
abbrev pub Stores : {S : Type 0} → Step S → Me S View → ℕ → Me S View → Type 0
Stores s v found w = (w.0 ≡ Keeps (with_newest (seat_lists v.0) s.word (meant found)) []) × (w.1 ≡ v.1)

-- a table identity that means no table
abbrev pub no_table : TableId
no_table = record { words = 0; slots = 0; views_name = 0; atom = 0; block = 0; offset = 0; slot_names = [] }

-- a seat at the meter's table with the view v and no slot; the key is the number of the meter's words
pub record IsSeated {S : Type 0} (table : TableId) (key : ℕ) (seat : TableId) (me : Me S View) (meter : TableId)
    (v : View) : Type 0 where
  pub table_is : table ≡ meter
  pub key_is : key ≡ meter.words
  pub seat_is : seat ≡ meter
  pub not_empty : 0 < meter.words
  pub me_is : me ≡ (v, [])
