use Rattle.std.proofs.Common.{codes, ◌∙◌}
use Rattle.canbusd_options.proofs.Rules.{flag_in_rows}
use Rattle.canbusd_options.proofs.bus_options.settings_given.Goals as goal

pub returns-clause-given : goal.returns-clause-given
returns-clause-given c = record {
  ack = c.in_ok-ack_mode.ensures.given;
  reporting = λ on. c.get_flag.ensures.value (flag_in_rows c.args.matches.now (codes "report") ∙ on);
  silent = λ off. c.get_flag.ensures.other (flag_in_rows c.args.matches.now (codes "report") ∙ off);
  tx_capacity = c.in_ok-number_given.ensures.given;
  rx_capacity = c.in_ok-number_given-2.ensures.given;
  limit = c.in_ok-limit_given.ensures.given;
  auto_restart = c.in_ok-number_given-3.ensures.given;
}
