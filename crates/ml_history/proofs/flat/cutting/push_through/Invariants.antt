use Rattle.ml_history.specs.private.TreeStep.{flagged}
use Rattle.ml_history.proofs.arrays.CutOffers.{Through}
use Rattle.ml_history.proofs.flat.cutting.push_through.Given as goal

abbrev pub invariant-loop-name : goal.invariant-loop-name
invariant-loop-name l = Through (flagged l.full) l.stack l.name-index l.fn.names.items l.names.items
