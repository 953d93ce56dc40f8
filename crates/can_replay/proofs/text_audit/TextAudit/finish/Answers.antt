use Rattle.std.proofs.Common.{subst}
use Rattle.can_replay.specs.declared.text_audit.Phase.{Phase}
use Rattle.can_replay.specs.EventTexts.{AreWritten}
use Rattle.can_replay.proofs.EventLines.{ends_events}
use Rattle.can_replay.proofs.text_audit.TextAudit.finish.Goals as goal

pub returns-in-Entries-clause-events : goal.returns-in-Entries-clause-events
returns-in-Entries-clause-events c = λ w text cleared held written.
    let so = subst (λ (p : Phase). AreWritten w text cleared p held) c.in-Entries.is written in
    ends_events w text cleared c.in-Entries.audit held c.finish.result so (c.finish.ensures.whole text so.taken)
