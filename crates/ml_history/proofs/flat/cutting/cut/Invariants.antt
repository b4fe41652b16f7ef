use Rattle.ml_history.specs.private.TreeStep.{flagged}
use Rattle.ml_history.proofs.arrays.CutOffers.{CutSoFar}
use Rattle.ml_history.proofs.flat.cutting.cut.Given as goal

abbrev pub invariant-loop-offer : goal.invariant-loop-offer
invariant-loop-offer l = CutSoFar l.history (flagged l.full) l.best l.offer-index l.states.items l.starts.items
    l.names.items
