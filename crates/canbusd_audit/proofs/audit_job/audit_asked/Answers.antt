use Rattle.std.proofs.Common.{◌≡◌, Bool, true, false, List, [], None, ℕ, inl, inr, subst, sym}
use Rattle.canbusd_io.specs.declared.report.Report.{Report}
use Rattle.canbusd_io.specs.declared.program_error.ProgramError.{ProgramError}
use Rattle.canbusd_io.specs.declared.program_error.ProgramError.TheVariants as fault
use Rattle.canbusd_audit.specs.Audited.{Faults, FaultsFiles, FaultsWhole, IsUnread, Leaves, asks_events}
use Rattle.canbusd_audit.proofs.Telling.{cut_files_told, files_left, files_told, files_unread, files_written, nothing_left, passed_on, paths_of}
use Rattle.canbusd_audit.proofs.audit_job.audit_asked.Goals as goal

pub returns-then-options-clause-legal : goal.returns-then-options-clause-legal
returns-then-options-clause-legal g c =
    files_written c.args.options.now.is_cut c.args.asked c.args.ifaces _ g.W.Write.contents c.args.output.now c.audit_cut_lines.new.output c.audit_cut_lines.result c.if-options.true c.audit_cut_lines.ensures.legal

pub returns-then-options-clause-fault : goal.returns-then-options-clause-fault
returns-then-options-clause-fault g c =
    cut_files_told c.args.options.now.is_cut (asks_events c.args.asked) c.args.ifaces (paths_of c.args.options.now.files.items) _ c.audit_cut_lines.result c.if-options.true c.audit_cut_lines.ensures.fault

pub returns-then-options-clause-written : goal.returns-then-options-clause-written
returns-then-options-clause-written g c = files_left c.args.asked c.args.ifaces _ g.W.Write.contents c.args.output.now c.audit_cut_lines.new.output c.audit_cut_lines.result c.audit_cut_lines.ensures.written

pub returns-clause-legal : goal.returns-clause-legal
returns-clause-legal g c =
    files_written c.args.options.now.is_cut c.args.asked c.args.ifaces _ g.W.Write.contents c.args.output.now c.audit_lines.new.output c.audit_lines.result c.if-options.false c.audit_lines.ensures.legal

pub returns-clause-fault : goal.returns-clause-fault
returns-clause-fault g c = files_told c.args.options.now.is_cut (asks_events c.args.asked) c.args.ifaces (paths_of c.args.options.now.files.items) _ c.audit_lines.result c.if-options.false c.audit_lines.ensures.fault

pub returns-clause-written : goal.returns-clause-written
returns-clause-written g c = files_left c.args.asked c.args.ifaces _ g.W.Write.contents c.args.output.now c.audit_lines.new.output c.audit_lines.result c.audit_lines.ensures.written

pub returns-in_err-files-clause-written : goal.returns-in_err-files-clause-written
returns-in_err-files-clause-written g c =
    let failure = c.in_err-files.field-0.0 in
    passed_on (λ (x : Report). Leaves c.args.asked c.args.ifaces None x.error g.W.Write.contents c.args.output.now c.args.output.now) failure c.from_residual.result c.from_residual.ensures.1
    (nothing_left c.args.asked c.args.ifaces None failure.error g.W.Write.contents c.args.output.now (files_unread _ failure.error c.in_err-files.ensures))

pub returns-in_default-clause-written : goal.returns-in_default-clause-written
returns-in_default-clause-written g c = nothing_left c.args.asked c.args.ifaces None _ g.W.Write.contents c.args.output.now (subst IsUnread (sym c.new.ensures) tt)

pub returns-in_default-new-clause-written : goal.returns-in_default-new-clause-written
returns-in_default-new-clause-written g c = nothing_left c.args.asked c.args.ifaces None _ g.W.Write.contents c.args.output.now (subst IsUnread (sym c.new-in_default-new.ensures) tt)

-- memory for the files was refused
memory_of_files : (is_cut : Bool) (paths : List (List ℕ)) (why : ProgramError) → why ≡ fault.NoMemory → FaultsFiles is_cut paths why
memory_of_files false paths why is = inr ([], subst (Faults []) (sym is) tt)
memory_of_files true paths why is = inr ([], inl (subst (FaultsWhole []) (sym is) tt))

pub returns-in_default-new-clause-fault : goal.returns-in_default-new-clause-fault
returns-in_default-new-clause-fault g c =
    inr (inr (memory_of_files c.args.options.now.is_cut (paths_of c.args.options.now.files.items) c.new-in_default-new.result.error c.new-in_default-new.ensures))
