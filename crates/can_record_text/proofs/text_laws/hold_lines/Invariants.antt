use Rattle.std.proofs.Common.{take, reverse}
use Rattle.std.specs.Prelude.{All}
use Rattle.can_record_text.specs.declared.version.Version.TheVariants as version
use Rattle.can_record_text.specs.Values.{HasLine}
use Rattle.can_record_text.proofs.text_laws.hold_lines.Given as goal

abbrev pub invariant-loop-place : goal.invariant-loop-place
invariant-loop-place l = All (HasLine version.Six l.config) (take l.place (reverse l.kept.history))
