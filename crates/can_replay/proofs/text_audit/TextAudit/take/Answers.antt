use Rattle.std.proofs.Common.{OnOk, Ok, Err, Result, subst}
use Rattle.can_record_text.specs.declared.fault.ReadFault.{ReadFault}
use Rattle.can_replay.specs.declared.text_audit.Phase.{Phase}
use Rattle.can_replay.specs.EventTexts.{AreWritten}
use Rattle.can_replay.specs.TextAudits.{HasCome}
use Rattle.can_replay.proofs.EventLines.{goes_plain, goes_written}
use Rattle.can_replay.proofs.text_audit.TextAudit.take.Goals as goal

on_ok : (P Q : Type 0) (r : Result (Unit {0}) ReadFault) → (P → Q) → OnOk r P → OnOk r Q
on_ok P Q (Ok u) f h = f h
on_ok P Q (Err why) f h = tt

on_both : (P Q R : Type 0) (r : Result (Unit {0}) ReadFault) → (P → Q → R) → OnOk r P → OnOk r Q → OnOk r R
on_both P Q R (Ok u) f h k = f h k
on_both P Q R (Err why) f h k = tt

pub returns-in-None-clause-taken : goal.returns-in-None-clause-taken
returns-in-None-clause-taken c = on_ok _ _ c.carry.result (λ h text taken. h text (subst (HasCome text) c.in-Entries.is taken)) c.carry.ensures.taken

pub returns-in-None-clause-written : goal.returns-in-None-clause-written
returns-in-None-clause-written c = on_ok _ _ c.carry.result
    (λ h w cleared text written is.
    let so = subst (λ (p : Phase). AreWritten w text cleared p c.args.self.now.events) c.in-Entries.is written in
    goes_plain w text c.args.line.now cleared c.in-Entries.audit c.carry.new.self c.args.self.now.events c.in-None.is so (h text so.taken is)) c.carry.ensures.taken

pub returns-in-Some-clause-taken : goal.returns-in-Some-clause-taken
returns-in-Some-clause-taken c = on_ok _ _ c.carry-in-Some.result (λ h text taken. h text (subst (HasCome text) c.in-Entries.is taken)) c.carry-in-Some.ensures.taken

pub returns-in-Some-clause-written : goal.returns-in-Some-clause-written
returns-in-Some-clause-written c = on_both _ _ _ c.carry-in-Some.result
    (λ h writes w cleared text written is.
    let so = subst (λ (p : Phase). AreWritten w text cleared p c.args.self.now.events) c.in-Entries.is written in
    goes_written w text c.args.line.now cleared c.in-Entries.audit c.carry-in-Some.new.audit c.args.self.now.events c.in-Some.events c.carry-in-Some.new.self c.in-Some.is so (h text so.taken is) is writes)
    c.carry-in-Some.ensures.taken c.carry-in-Some.ensures.written
