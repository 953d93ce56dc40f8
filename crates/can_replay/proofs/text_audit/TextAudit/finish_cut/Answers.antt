use Rattle.std.proofs.Common.{subst}
use Rattle.can_replay.specs.declared.text_audit.Phase.{Phase}
use Rattle.can_replay.specs.EventTexts.{AreWritten}
use Rattle.can_replay.specs.TextAudits.{HasCome}
use Rattle.can_replay.proofs.EventLines.{ends_cut_events}
use Rattle.can_replay.proofs.Ending.{cut_first, cut_second}
use Rattle.can_replay.proofs.text_audit.TextAudit.finish_cut.Goals as goal

pub returns-in-Start-clause-told : goal.returns-in-Start-clause-told
returns-in-Start-clause-told c = λ text taken torn. cut_first text c.args.torn.now (subst (HasCome text) c.in-Start.is taken) torn

pub returns-in-Front-clause-told : goal.returns-in-Front-clause-told
returns-in-Front-clause-told c = λ text taken torn. cut_second c.in-Front.field-0 text c.args.torn.now (subst (HasCome text) c.in-Front.is taken) torn

pub returns-in-Entries-clause-events : goal.returns-in-Entries-clause-events
returns-in-Entries-clause-events c = λ w text cleared held written torn.
    let so = subst (λ (p : Phase). AreWritten w text cleared p held) c.in-Entries.is written in
    ends_cut_events w text c.args.torn.now cleared c.in-Entries.audit held c.finish_cut.result so (c.finish_cut.ensures.reached text so.taken torn)
