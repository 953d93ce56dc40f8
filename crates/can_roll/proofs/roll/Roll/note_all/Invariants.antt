use Rattle.std.specs.Prelude.{reverse}
use Rattle.can_roll.proofs.roll.Roll.note_all.Given as goal

abbrev pub ghosts-note_all_last : goal.ghosts-note_all_last
ghosts-note_all_last g a = record { said = reverse a.calls.now.entries }
