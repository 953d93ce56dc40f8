use Rattle.std.proofs.Common.{◌≡◌, ◌+◌, ◌++◌, ◌∷◌, [], length, length-append, ap, arith, subst, sym}
use Rattle.std.proofs.lemmas.List.Elements.{All-push}
use Rattle.std.specs.declared.fs.File.{File}
use Rattle.std.specs.declared.io.traits.Write.{contents-default}
use Rattle.canbusd_serve.specs.LongRuns.{AreBegun, HaveLines}
use Rattle.canbusd_serve.proofs.live_files.open_all.Goals as goal

pub loop-bus-preserved : goal.loop-bus-preserved
loop-bus-preserved g c =
    let all = c.loop-bus.all.items in
    let files = c.in-Ok.files in
    let pushed = c.in-Ok-push.ensures.items in
    let longer : length (all ++ files ∷ []) ≡ length all + 1 = length-append all (files ∷ []) in (
      omega (arith, ap length pushed, longer, c.loop-bus.invariant.0),
      subst (AreBegun (contents-default File)) (sym pushed) (All-push (λ f. HaveLines (contents-default File) [] f) all files c.loop-bus.invariant.1 c.in-Ok.ensures.begun),
    )
