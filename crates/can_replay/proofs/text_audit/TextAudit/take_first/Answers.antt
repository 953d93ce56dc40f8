use Rattle.std.proofs.Common.{◌≡◌, ◌++◌, List, ℕ, Err, IfErr, Result, drop, inl, length, rules, subst, sym}
use Rattle.can_record_text.specs.declared.fault.ReadFault.{ReadFault}
use Rattle.can_record_text.specs.RecordFaults.{Reads}
use Rattle.can_record_text.specs.Spelling.{first_line}
use Rattle.can_replay.specs.TextAudits.{MayFollow}
use Rattle.can_replay.proofs.LineEnds.{cut_first, lacks_first}
use Rattle.can_replay.proofs.text_audit.TextAudit.take_first.Goals as goal

pub returns-clause-taken : goal.returns-clause-taken
returns-clause-taken c = λ is.
    let v = c.in_ok-first_version.field-0 in
    cut_first v c.args.line.now (drop (length (first_line v)) c.args.line.now) is c.in_ok-first_version.ensures.found

pub returns-clause-written : goal.returns-clause-written
returns-clause-written c = λ is w cleared complete wanted.
    let v = c.in_ok-first_version.field-0 in
    record {
      taken = cut_first v c.args.line.now (drop (length (first_line v)) c.args.line.now) is c.in_ok-first_version.ensures.found;
      complete = complete;
      wanted = wanted;
    }

pub returns-in_err-first_version-clause-fault : goal.returns-in_err-first_version-clause-fault
returns-in_err-first_version-clause-fault c =
    let line = c.args.line.now in
    let why = c.in_err-first_version.field-0.0 in
    let only = c.in_err-first_version.ensures.only in
    let told : c.from_residual.result ≡ Err why = search rules in
    subst (λ (r : Result (Unit {0}) ReadFault). IfErr r (λ w. (after : List ℕ) → MayFollow line after → Reads (line ++ after) (Err w))) (sym told)
    (λ after may. subst (λ (w : ReadFault). Reads (line ++ after) (Err w)) (sym only.0) (inl (lacks_first line after may only.1)))
