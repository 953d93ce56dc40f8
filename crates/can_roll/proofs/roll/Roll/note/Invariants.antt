use Rattle.std.specs.Prelude.{[], ◌∷◌}
use Rattle.can_roll.proofs.roll.Roll.note.Given as goal

abbrev pub ghosts-note_last : goal.ghosts-note_last
ghosts-note_last g a = record { said = record { event = a.event.now; reply = a.reply.now } ∷ [] }
