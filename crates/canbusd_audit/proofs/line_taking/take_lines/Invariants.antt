use Rattle.std.proofs.Common.{◌≡◌, []}
use Rattle.can_replay.specs.declared.wanted.Wanted.{Wanted}
use Rattle.can_replay.specs.EventTexts.{HasWritten, has_events, held_events}
use Rattle.can_replay.specs.TextAudits.{bus_taken}
use Rattle.canbusd_audit.specs.Audited.{FitsBus, IsPut}
use Rattle.canbusd_audit.proofs.line_taking.take_lines.Given as goal

abbrev pub invariant-loop : goal.invariant-loop
invariant-loop g l = record {
  put : (w : Wanted) → HasWritten w [] [] l.fn.audit → IsPut w (g.R.Read.remaining l.fn.input) (g.R.Read.remaining l.input) l.audit g.W.Write.contents l.fn.output l.output;
  none : held_events l.audit.events ≡ [];
  fits : FitsBus l.fn.ifaces (bus_taken l.audit.phase);
  asked : has_events l.audit.events ≡ has_events l.fn.audit.events;
}
