-- Rolls, slips and scrolls, as contracts see them.
use Rattle.std.specs.Prelude.{ℕ, List, [], ◌∷◌, ◌++◌}
use Rattle.can_event.specs.declared.entry.Entry.{Entry}
use Rattle.can_roll.specs.Lists.{call_added, added_all}

-- A roll: its number, the calls of each pass, and the called-in passes in the order in which they were called in.
pub record RollSeen : Type 0 where
  pub number : ℕ
  pub lists : List (List Entry)
  pub called : List ℕ

-- The roll with this number, these calls and these called-in passes.
abbrev pub roll_seen : ℕ → List (List Entry) → List ℕ → RollSeen
roll_seen number lists called = record { number = number; lists = lists; called = called }

-- The roll with one more pass, which has not made a call yet.
abbrev pub roll_with_pass : RollSeen → RollSeen
roll_with_pass roll = roll_seen roll.number (roll.lists ++ [] ∷ []) roll.called

-- The roll after one call is added in front of the calls of pass p.
abbrev pub with_call : ℕ → Entry → RollSeen → RollSeen
with_call p call roll = roll_seen roll.number (call_added roll.lists p call) roll.called

-- The roll after these calls, newest first, are added in front of the calls of pass p.
abbrev pub with_calls : ℕ → List Entry → RollSeen → RollSeen
with_calls p calls roll = roll_seen roll.number (added_all roll.lists p calls) roll.called

-- The roll after pass p is called in.
abbrev pub with_called_in : ℕ → RollSeen → RollSeen
with_called_in p roll = roll_seen roll.number roll.lists (roll.called ++ p ∷ [])

-- A slip: the number of its roll, its pass, and the calls of the pass.
pub record SlipSeen : Type 0 where
  pub number : ℕ
  pub pass : ℕ
  pub calls : List Entry

-- The slip of this pass of the roll with this number, with these calls.
abbrev pub slip_seen : ℕ → ℕ → List Entry → SlipSeen
slip_seen number pass calls = record { number = number; pass = pass; calls = calls }

-- The slip after one call is added in front.
abbrev pub slip_with_call : Entry → SlipSeen → SlipSeen
slip_with_call call slip = slip_seen slip.number slip.pass (call ∷ slip.calls)

-- The slip after these calls, newest first, are added in front.
abbrev pub slip_with_calls : List Entry → SlipSeen → SlipSeen
slip_with_calls calls slip = slip_seen slip.number slip.pass (calls ++ slip.calls)

-- The entries handed out under a roll's number, oldest first. Both the scroll and the roll have such a view.
pub record ScrollSeen : Type 0 where
  pub number : ℕ
  pub entries : List Entry

-- The scroll view with this number and these entries.
abbrev pub scroll_seen : ℕ → List Entry → ScrollSeen
scroll_seen number entries = record { number = number; entries = entries }

-- The scroll view after one more block of entries is handed out.
abbrev pub scroll_with : List Entry → ScrollSeen → ScrollSeen
scroll_with block scroll = scroll_seen scroll.number (scroll.entries ++ block)
