use Rattle.ml_paths.specs.private.Letters.{IsRowOf}
use Rattle.ml_paths.proofs.letters.row.Given as goal

abbrev pub invariant-loop-label : goal.invariant-loop-label
invariant-loop-label l = IsRowOf l.automaton l.labels.keys l.label-index l.row.items
