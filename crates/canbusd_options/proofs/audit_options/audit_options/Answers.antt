use Rattle.std.proofs.Common.{codes, ◌∙◌}
use Rattle.canbusd_options.proofs.Rules.{flag_in_rows}
use Rattle.canbusd_options.proofs.audit_options.audit_options.Goals as goal

pub returns-clause-given : goal.returns-clause-given
returns-clause-given c = record {
  files = c.in_ok-files_given.ensures;
  cut = λ on. c.get_flag.ensures.value (flag_in_rows c.args.audit.now (codes "cut") ∙ on);
  whole = λ off. c.get_flag.ensures.other (flag_in_rows c.args.audit.now (codes "cut") ∙ off);
  output = c.in_ok-output_given.ensures.given;
}
