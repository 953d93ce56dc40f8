use Rattle.canbusd_options.specs.Help.{IsNoMemory}
use Rattle.canbusd_options.specs.Options.{GiveAuditTiming, GiveOutput, rows_in}
use Rattle.canbusd_options.specs.declared.audit_options.AuditOutput.TheVariants as output
use Rattle.canbusd_options.proofs.Helping.{passed_on}
use Rattle.canbusd_options.proofs.audit_options.output_given.Goals as goal
use Rattle.clap.specs.Words.{Row}
use Rattle.std.proofs.Common.{List, None}

-- rows that give an output give bit rates, or none
timing_of_output : (rows : List Row) → GiveOutput rows → GiveAuditTiming rows
timing_of_output rows (output.Count, is) = (None, is.1)
timing_of_output rows (output.Events asked, is) = (asked.timing, is.1)

pub returns-in_err-timing-clause-taken : goal.returns-in_err-timing-clause-taken
returns-in_err-timing-clause-taken c =
    let rows = rows_in c.args.audit.now in
    passed_on (λ e. GiveOutput rows → IsNoMemory e) c.in_err-timing.field-0.0 c.from_residual.result c.from_residual.ensures.1
    (λ give. c.in_err-timing.ensures.taken (timing_of_output rows give))
