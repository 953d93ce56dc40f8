use Rattle.std.specs.Prelude.{◌≡◌, ℕ, ◌==◌, ◌≤◌, List, [], ◌∷◌, length, if◌then◌else◌}
use Rattle.can_event.specs.declared.entry.Entry.{Entry}
use Rattle.can_record.specs.Journal.{Journal}
use Rattle.can_bus.specs.Legal.{IsLegal}
use Rattle.can_event.specs.Events.{IsLongConfig}
use Rattle.can_roll.specs.Lists.{row, AllBelow}
use Rattle.can_roll.specs.Seen.{RollSeen}

-- Histories, newest entry first, in which each entry is marked with the pass that made it (own).

-- The entries marked with pass p.
abbrev pub marked : ℕ → List ℕ → List Entry → List Entry
marked p [] past = []
marked p (m ∷ ms) [] = []
marked p (m ∷ ms) (e ∷ past) = if m == p then e ∷ marked p ms past else marked p ms past

-- Each entry is marked with the number of a pass, and the roll's list for each pass has exactly the entries of that
-- pass.
pub record IsMarked (lists : List (List Entry)) (marks : List ℕ) (past : List Entry) : Type 0 where
  pub long : length marks ≡ length past
  pub below : AllBelow (length lists) marks
  pub each : (p : ℕ) → row lists p ≡ marked p marks past

-- The state under the lock is consistent: the bus's history is legal, its entries can be marked so that they match the
-- roll, and no pass has been taken back.
pub record IsBooked (roll : RollSeen) (journal : Journal) : Type 0 where
  pub proper : IsLongConfig journal.config
  pub legal : IsLegal journal.config journal.history
  pub none_in : roll.called ≡ []
  pub few : length roll.lists ≤ 4096
  pub marks : List ℕ
  pub marked : IsMarked roll.lists marks journal.history
