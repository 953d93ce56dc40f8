use Rattle.std.proofs.Common.{◌+◌, ◌++◌, ℕ, Err, subst, sym}
use Rattle.can_record_text.specs.declared.fault.Unread.{Unread}
use Rattle.can_record_text.specs.RecordFaults.{IsFirstWrong}
use Rattle.can_replay.specs.inner.Steps.{Takes}
use Rattle.can_replay.proofs.Ending.{end_lacks, end_taken, goes_on}
use Rattle.can_replay.proofs.entry_audit.EntryAudit.carry.Goals as goal

pub returns-then-self-clause-fault : goal.returns-then-self-clause-fault
returns-then-self-clause-fault c = λ text after g is may.
    subst (λ (n : ℕ). IsFirstWrong (text ++ (c.args.line.now ++ after)) (n + 4)) (sym c.from.ensures) (goes_on text c.args.line.now after c.args.self.now g c.if-self.true is)

pub returns-in-Ok-clause-taken : goal.returns-in-Ok-clause-taken
returns-in-Ok-clause-taken c = λ text g is. c.in-Ok.ensures text g c.if-self.false is

pub returns-in-Err-Bad-clause-taken : goal.returns-in-Err-Bad-clause-taken
returns-in-Err-Bad-clause-taken c =
    let kept = subst (λ (w : Unread). Takes {A = Unit {0}} c.args.self.now c.carry_entry.new.self c.args.line.now (Err w)) c.in-Err-Bad.field-0-is c.in-Err-Bad.ensures in
    end_taken c.args.line.now c.args.self.now c.carry_entry.new.self c.end.new.self c.end.result kept.0 c.if-self.false c.end.ensures.few c.end.ensures.ended c.end.ensures.line

pub returns-in-Err-Bad-clause-fault : goal.returns-in-Err-Bad-clause-fault
returns-in-Err-Bad-clause-fault c =
    let kept = subst (λ (w : Unread). Takes {A = Unit {0}} c.args.self.now c.carry_entry.new.self c.args.line.now (Err w)) c.in-Err-Bad.field-0-is c.in-Err-Bad.ensures in
    end_lacks c.args.line.now c.args.self.now c.carry_entry.new.self c.end.result kept.0 c.if-self.false c.end.ensures.few kept.1 c.end.ensures.fault
