use Rattle.std.proofs.Common.{◌⊎◌, None, inl, refl}
use Rattle.canbusd_io.specs.declared.report.Report.{Report}
use Rattle.canbusd_audit.specs.Audited.{FaultsFiles, IsOfAsked, IsOfOtherBus, LeavesFiles, StopsEvents, are_events, ifaces_named}
use Rattle.canbusd_audit.proofs.Telling.{asked_left, asked_told, asked_written, passed_on, paths_of}
use Rattle.canbusd_audit.proofs.audit_job.audit_files.Goals as goal

pub returns-clause-legal : goal.returns-clause-legal
returns-clause-legal g c =
    asked_written c.args.options.now.is_cut c.args.options.now.output c.in_ok-asked.asked c.in_ok-asked.ifaces g.W.Write.contents c.args.output.now c.audit_asked.new.output c.audit_asked.result c.in_ok-asked.ensures.asked c.in_ok-asked.ensures.ifaces c.audit_asked.ensures.legal

pub returns-clause-fault : goal.returns-clause-fault
returns-clause-fault g c =
    asked_told c.args.options.now.is_cut c.args.options.now.output (paths_of c.args.options.now.files.items) c.in_ok-asked.asked c.in_ok-asked.ifaces c.audit_asked.result c.in_ok-asked.ensures.asked c.in_ok-asked.ensures.ifaces c.audit_asked.ensures.fault

pub returns-clause-written : goal.returns-clause-written
returns-clause-written g c = asked_left c.args.options.now.output c.in_ok-asked.asked c.in_ok-asked.ifaces g.W.Write.contents c.args.output.now c.audit_asked.new.output c.audit_asked.result c.in_ok-asked.ensures.asked c.in_ok-asked.ensures.ifaces c.audit_asked.ensures.written

pub returns-in_err-asked-clause-fault : goal.returns-in_err-asked-clause-fault
returns-in_err-asked-clause-fault g c =
    let o = c.args.options.now in
    let failure = c.in_err-asked.field-0.0 in
    passed_on (λ (x : Report). IsOfAsked o.output x.error ⊎ (StopsEvents (are_events o.output) x.error ⊎ (IsOfOtherBus (ifaces_named o.output) None x.error ⊎ FaultsFiles o.is_cut (paths_of o.files.items) x.error))) failure c.from_residual.result c.from_residual.ensures.1 (inl c.in_err-asked.ensures.fault)

pub returns-in_err-asked-clause-written : goal.returns-in_err-asked-clause-written
returns-in_err-asked-clause-written g c =
    let failure = c.in_err-asked.field-0.0 in
    passed_on (λ (x : Report). LeavesFiles c.args.options.now.output x.error g.W.Write.contents c.args.output.now c.args.output.now) failure c.from_residual.result c.from_residual.ensures.1 (inl (c.in_err-asked.ensures.fault, refl))
