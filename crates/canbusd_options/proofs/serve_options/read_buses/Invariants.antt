use Rattle.std.proofs.Common.{map, take}
use Rattle.canbusd_options.specs.Options.{AreBusWords}
use Rattle.canbusd_options.proofs.serve_options.read_buses.Given as goal

abbrev pub invariant-loop-word : goal.invariant-loop-word
invariant-loop-word l = AreBusWords l.buses.items (map (λ word. word.now) (take l.word-index l.words))
