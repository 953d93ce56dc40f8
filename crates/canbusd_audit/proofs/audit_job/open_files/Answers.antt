use Rattle.canbusd_audit.specs.Audited.{IsOfFiles}
use Rattle.canbusd_io.specs.declared.report.Report.{Report}
use Rattle.canbusd_audit.proofs.Telling.{of_file, of_memory, passed_on, paths_of}
use Rattle.canbusd_audit.proofs.audit_job.open_files.Goals as goal

pub returns-in_err-file : goal.returns-in_err-file
returns-in_err-file g c =
    let paths = c.args.paths.now in
    let failure = c.in_err-file.field-0.0 in
    passed_on (λ (x : Report). IsOfFiles (paths_of paths) x.error) failure c.from_residual.result c.from_residual.ensures.1
    (of_file paths c.loop-path.path-index _ failure.error c.loop-path-test.true c.in_err-file.ensures)

pub returns-then-is_err : goal.returns-then-is_err
returns-then-is_err g c = of_memory c.args.paths.now c.loop-path.path-index c.new.result.error c.loop-path-test.true c.new.ensures
