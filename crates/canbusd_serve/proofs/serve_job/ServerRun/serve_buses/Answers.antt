use Rattle.std.proofs.Common.{◌≡◌, ◌∙◌, not, Bool, true, false, refl, sym, subst, rules}
use Rattle.can_hub.proofs.Naming.{named}
use Rattle.canbusd_serve.specs.Served.{IsServed}
use Rattle.canbusd_serve.proofs.Serving.{benches-length, serves-all}
use Rattle.canbusd_serve.proofs.serve_job.ServerRun.serve_buses.Goals as goal
use Rattle.canbusd_serve.proofs.serve_job.ServerRun.serve_buses.Goals.{in-AtEnd+in_ok-has_reported-in-AtEnd, in-Live+in_ok-has_reported-in-Live, then-not-has_reported, else-not-has_reported}

pub run_whole-requires-clause-named : goal.run_whole-requires-clause-named
run_whole-requires-clause-named g c κs within = named c.in_ok-benches.benches.items

pub run_whole-requires-clause-each : goal.run_whole-requires-clause-each
run_whole-requires-clause-each g c κs within = benches-length c.args.self.now.options.now _ _ c.in_ok-benches.ensures.made

pub run_whole-requires-clause-made : goal.run_whole-requires-clause-made
run_whole-requires-clause-made g c κs within = (c.in_ok-benches.ensures.made, c.in_ok-benches.ensures.timed)

pub run_live-requires-clause-named : goal.run_live-requires-clause-named
run_live-requires-clause-named g c κs within = named c.in_ok-benches.benches.items

pub run_live-requires-clause-each : goal.run_live-requires-clause-each
run_live-requires-clause-each g c κs within = benches-length c.args.self.now.options.now _ _ c.in_ok-benches.ensures.made

pub run_live-requires-clause-made : goal.run_live-requires-clause-made
run_live-requires-clause-made g c κs within = (c.in_ok-benches.ensures.made, c.in_ok-benches.ensures.timed)

-- nothing was reported
untold : (b : Bool) → not b ≡ true → b ≡ false
untold false not_b = refl
untold true not_b = cc

pub returns-clause-served : goal.returns-clause-served
returns-clause-served g c = λ whole.
    let contents = g.W.Write.contents in
    let o = c.args.self.now.options.now in
    let benches = c.in_ok-benches.benches.items in
    let made = c.in_ok-benches.ensures.made in
    let quiet : c.match-self.has_reported ≡ false = elim c.if-not-has_reported.branch [ then-not-has_reported w ↦ search (rules, untold) | else-not-has_reported w ↦ cc ] in
    elim c.match-self.branch [
      | in-AtEnd+in_ok-has_reported-in-AtEnd w ↦ subst (λ out. IsServed contents o c.args.output.now out) (sym w.output-is)
          (serves-all contents o benches c.args.output.now w.run_whole.new.output made (w.in_ok-has_reported-in-AtEnd.ensures.served (sym w.has_reported-is ∙ quiet)))
      | in-Live+in_ok-has_reported-in-Live w ↦ subst (λ out. IsServed contents o c.args.output.now out) (sym w.output-is)
          (serves-all contents o benches c.args.output.now w.run_live.new.output made (w.in_ok-has_reported-in-Live.ensures.served (sym w.has_reported-is ∙ quiet)).serves)
    ]
