use Rattle.canbusd_options.proofs.Steps.{off_dot}
use Rattle.canbusd_options.proofs.bench_options.without_dot.Goals as goal

pub returns : goal.returns
returns c = rw c.unwrap_or.ensures (off_dot _ _ _ c.new-path.ensures c.strip_prefix.ensures.succeeds c.strip_prefix.ensures.rest)
