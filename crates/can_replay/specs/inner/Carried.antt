use Rattle.std.specs.Prelude.{◌≡◌, ◌≢◌, ◌≤◌, ℕ, ◌⊎◌, List, ◌∷◌, length, Option}
use Rattle.can_event.specs.declared.bus_config.BusConfig.{BusConfig}
use Rattle.can_event.specs.declared.entry.Entry.{Entry}
use Rattle.can_event.specs.declared.reply.Reply.{Reply}
use Rattle.can_bus.specs.Lean.{Lean, IsAfter}
use Rattle.can_bus.specs.Legal.{legal_reply}
use Rattle.can_replay.specs.Audits.{allowed_after}
use Rattle.can_record_text.specs.declared.needs.Needs.{Needs}
use Rattle.can_record_text.specs.declared.version.Version.{Version}
use Rattle.can_record_text.specs.declared.version.Version.TheVariants as version
use Rattle.can_record_text.specs.Spelling.{entry_line, needs_of}
use Rattle.can_record_text.specs.Values.{HasLine}

-- Compares one entry's line with the line for the reply of a bus.

-- This line begins with the line of the next legal entry, and the bus carried out the entry's event. `needs` is the set
-- of features that a version must have to allow this entry.
pub record IsNext (c : BusConfig) (past : List Entry) (line : List ℕ) (needs : Needs) (bus : Lean) : Type 0 where
  pub entry : Entry
  pub rest : List ℕ
  pub good : HasLine version.Six c entry
  pub needed : needs ≡ needs_of entry
  pub is_line : line ≡ entry_line entry rest
  pub after : IsAfter bus (entry ∷ past)

-- The entry is wrong after this history, and `legal` is the reply that would be legal.
pub record IsWrongNext (c : BusConfig) (past : List Entry) (e : Entry) (legal : Option Reply) : Type 0 where
  pub wrong : (c.limit ≤ length past) ⊎ (e.reply ≢ legal_reply c past e.event)
  pub is_allowed : legal ≡ allowed_after c (length past) past e.event

-- If this line is the line of an entry, that entry is wrong.
abbrev pub IsOther : BusConfig → List Entry → List ℕ → Option Reply → Type 0
IsOther c past line legal =
    (v : Version) (e : Entry) (rest : List ℕ) → HasLine v c e → line ≡ entry_line e rest
    → IsWrongNext c past e legal
