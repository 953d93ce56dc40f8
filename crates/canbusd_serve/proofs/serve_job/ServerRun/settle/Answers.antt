use Rattle.std.specs.declared.fs.File.{File}
use Rattle.std.specs.declared.io.traits.Write.{contents-default}
use Rattle.canbusd_serve.proofs.Keeping.{given_first}
use Rattle.canbusd_serve.proofs.Serving.{described_length, settles-ends}
use Rattle.canbusd_serve.proofs.serve_job.ServerRun.settle.Goals as goal

pub serve_hub-requires-clause-each : goal.serve_hub-requires-clause-each
serve_hub-requires-clause-each g c κs within =
    described_length c.args.self.now.options.now _ (c.args.benches.items, c.requires.made, c.in-Ok.ensures.made)

pub serve_hub-requires-clause-made : goal.serve_hub-requires-clause-made
serve_hub-requires-clause-made g c κs within = (c.args.benches.items, c.requires.made, c.in-Ok.ensures.made)

pub returns-in-Ok-settle_scrolls-clause-ends : goal.returns-in-Ok-settle_scrolls-clause-ends
returns-in-Ok-settle_scrolls-clause-ends g c =
    settles-ends g.L.Leaves.journal c.args.benches.items _ _ _ c.in-Ok.ensures.made c.in_ok-passes.ensures.run.passes c.in-Ok-settle_scrolls.ensures.settled c.in-Ok-settle_scrolls.ensures.configured

pub returns-in-Ok-settle_scrolls-clause-handed : goal.returns-in-Ok-settle_scrolls-clause-handed
returns-in-Ok-settle_scrolls-clause-handed g c =
    given_first (contents-default File) g.L.Leaves.handed _ _ _ c.in_ok-passes.ensures.run.given c.in-Ok-settle_scrolls.ensures.handed
