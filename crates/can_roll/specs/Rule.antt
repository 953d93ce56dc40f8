-- The rule that the table of a roll always obeys, and the effect of each kind of step on the views and on what is still
-- to be returned.
use Rattle.std.specs.Prelude.{◌≡◌, ℕ, ◌<◌, List, [], ◌∷◌, ◌++◌, length}
use mathlib.Core.Option.{some}
use lib.ListN.{get_elem?}
use Rattle.atomic_table.specs.Table.{Me, Step}
use Rattle.atomic_table.specs.Seated.{TableId}
use Rattle.can_event.specs.declared.entry.Entry.{Entry}
use Rattle.can_roll.specs.declared.rule.View.{View}
use Rattle.can_roll.specs.declared.rule.View.TheVariants.{OfRoll, OfSlip, Spent}
use Rattle.can_roll.specs.Lists.{row, added_all, last_pass, without_last, NotIn, Distinct, AllBelow}

-- ---- the rule

-- The calls that the last called-in pass brought are the calls in the roll's list of that pass. Nothing is claimed
-- after the brought calls are returned.
abbrev pub IsBrought : List (List Entry) → List ℕ → List (List Entry) → Type 0
IsBrought lists called [] = Unit {0}
IsBrought lists called (calls ∷ more) = row lists (last_pass called) ≡ calls

-- The facts that the view at seat `by` guarantees if the roll is at seat `seat`. Only seat `seat` has a roll's view. A
-- slip has the same calls as the roll's list of its pass, and the pass has entered and is not called in. A spent view
-- guarantees nothing.
abbrev pub Knows : ℕ → List (List Entry) → List ℕ → List (List Entry) → ℕ → View → Type 0
Knows seat lists called brought by (OfRoll lists' called' brought') =
    (by ≡ seat) × (lists' ≡ lists) × (called' ≡ called) × (brought' ≡ brought)
Knows seat lists called brought by (OfSlip p calls) = (row lists p ≡ calls) × (p < length lists) × NotIn p called
Knows seat lists called brought by Spent = Unit {0}

-- No two seats have a slip of the same pass.
abbrev pub Apart : List View → Type 0
Apart views =
    (i j p : ℕ) (xs ys : List Entry) → get_elem? views i ≡ some (OfSlip p xs)
    → get_elem? views j ≡ some (OfSlip p ys) → i ≡ j

-- The rule of the table. Its word is 0, no pass is called in twice, and each called-in pass has entered. The brought
-- calls are the roll's, each seat's view agrees with the roll's lists, and no two slips have the same pass.
abbrev pub IsRolled : List ℕ → List View → Type 0
IsRolled words views =
    (seat : ℕ) × (lists : List (List Entry)) × (called : List ℕ) × (brought : List (List Entry))
    × (words ≡ 0 ∷ []) × Distinct called × AllBelow (length lists) called × IsBrought lists called brought
    × ((by : ℕ) (v : View) → get_elem? views by ≡ some v → Knows seat lists called brought by v)
    × Apart views

-- ---- the steps

-- The roll's view after `enter`: it has one more list, which is empty.
abbrev pub pass_entered : View → View
pass_entered (OfRoll lists called brought) = OfRoll (lists ++ [] ∷ []) called brought
pass_entered (OfSlip p calls) = OfSlip p calls
pass_entered Spent = Spent

-- The view of the slip that `enter` gives to the next pass: it has no calls.
abbrev pub newcomer : View → View
newcomer (OfRoll lists called brought) = OfSlip (length lists) []
newcomer (OfSlip p calls) = Spent
newcomer Spent = Spent

-- The roll's view after a pass is called in. The pass is appended to the called-in passes and brings its calls.
abbrev pub called_in : View → View → View
called_in (OfRoll lists called brought) (OfSlip p calls) = OfRoll lists (called ++ p ∷ []) (calls ∷ [])
called_in (OfRoll lists called brought) (OfRoll lists' called' brought') = OfRoll lists called brought
called_in (OfRoll lists called brought) Spent = OfRoll lists called brought
called_in (OfSlip p calls) other = OfSlip p calls
called_in Spent other = Spent

-- The roll's view after the brought calls are returned: the view no longer has them.
abbrev pub returned : View → View
returned (OfRoll lists called brought) = OfRoll lists called []
returned (OfSlip p calls) = OfSlip p calls
returned Spent = Spent

-- The facts that returning a pass shows. The brought calls are in the roll's list of the pass, and the pass has entered
-- and was not called in before.
abbrev pub Shows : View → Type 0
Shows (OfRoll lists called (calls ∷ more)) =
    (row lists (last_pass called) ≡ calls)
    × (last_pass called < length lists)
    × NotIn (last_pass called) (without_last called)
Shows (OfRoll lists called []) = Unit {0}
Shows (OfSlip p calls) = Unit {0}
Shows Spent = Unit {0}

-- The load step that returns the brought calls.
abbrev pub Returns : {S : Type 0} → Step S → Me S View → ℕ → Me S View → Type 0
Returns step old found new = (new.0 ≡ returned old.0) × (new.1 ≡ old.1) × Shows old.0

-- The roll's view after these calls, newest first, are added to the last called-in pass.
abbrev pub calls_noted : List Entry → View → View
calls_noted more (OfRoll lists called brought) = OfRoll (added_all lists (last_pass called) more) called brought
calls_noted more (OfSlip p calls) = OfSlip p calls
calls_noted more Spent = Spent

-- The load step that adds these calls to the last called-in pass.
abbrev pub Notes : List Entry → {S : Type 0} → Step S → Me S View → ℕ → Me S View → Type 0
Notes more step old found new = (new.0 ≡ calls_noted more old.0) × (new.1 ≡ old.1)

-- The roll's view after the last called-in pass is sent out.
abbrev pub sent_out : View → View
sent_out (OfRoll lists called brought) = OfRoll lists (without_last called) brought
sent_out (OfSlip p calls) = OfSlip p calls
sent_out Spent = Spent

-- The view of the slip of pass p, which has the calls in the roll's list of p.
abbrev pub slip_view : List (List Entry) → ℕ → View
slip_view lists p = OfSlip p (row lists p)

-- The view of the slip that a pass gets when it is sent out again.
abbrev pub slip_sent : View → View
slip_sent (OfRoll lists called brought) = slip_view lists (last_pass called)
slip_sent (OfSlip p calls) = Spent
slip_sent Spent = Spent

-- ---- readings of a view

-- The calls of each pass in a roll's view.
abbrev pub lists_of : View → List (List Entry)
lists_of (OfRoll lists called brought) = lists
lists_of (OfSlip p calls) = []
lists_of Spent = []

-- The called-in passes in a roll's view.
abbrev pub called_of : View → List ℕ
called_of (OfRoll lists called brought) = called
called_of (OfSlip p calls) = []
called_of Spent = []

-- The calls in a slip's view.
abbrev pub calls_of : View → List Entry
calls_of (OfSlip p calls) = calls
calls_of (OfRoll lists called brought) = []
calls_of Spent = []

-- The first view in a list, or a spent view if the list is empty. A badge has at most one view.
abbrev pub view_in : List View → View
view_in [] = Spent
view_in (v ∷ vs) = v

-- The table and the seat both have the name `name`, and the table has one word.
abbrev pub IsAtTable : TableId → TableId → TableId → Type 0
IsAtTable name table seat = (table ≡ name) × (seat ≡ name) × (name.words ≡ 1)

-- A roll's seat between two calls. Its view is a roll's view with this number of passes, and nothing is still to be
-- returned.
abbrev pub IsRollSeat : {S : Type 0} → Me S View → ℕ → Type 0
IsRollSeat me passes = (me ≡ (OfRoll (lists_of me.0) (called_of me.0) [], [])) × (length (lists_of me.0) ≡ passes)

-- The badge of a slip of this pass, at the table with the name `name`.
abbrev pub IsSlipBadge : TableId → ℕ → TableId → List View → Type 0
IsSlipBadge name pass table views = (table ≡ name) × (views ≡ OfSlip pass (calls_of (view_in views)) ∷ [])

-- The name of a table that does not exist.
abbrev pub no_table : TableId
no_table = record { words = 0; slots = 0; views_name = 0; atom = 0; block = 0; offset = 0; slot_names = [] }

-- The names of the table of a roll and of the table of its scroll.
pub record RollId : Type 0 where
  pub passes : TableId
  pub scroll : TableId

-- Names of tables that do not exist.
abbrev pub no_roll : RollId
no_roll = record { passes = no_table; scroll = no_table }

-- The names of a roll at the scroll's table. The roll's only pass is the scroll.
abbrev pub at_scroll : RollId → RollId
at_scroll id = record { passes = id.scroll; scroll = no_table }
