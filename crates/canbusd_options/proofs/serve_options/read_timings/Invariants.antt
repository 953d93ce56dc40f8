use Rattle.std.proofs.Common.{map, take}
use Rattle.std.specs.List.{AllZip}
use Rattle.canbusd_options.specs.Options.{HasRatesFor}
use Rattle.canbusd_options.proofs.serve_options.read_timings.Given as goal

abbrev pub invariant-loop-word : goal.invariant-loop-word
invariant-loop-word l = AllZip (HasRatesFor l.rates) (map (λ word. word.now) (take l.word-index l.words)) l.timings.items
