use Rattle.ml_history.proofs.arrays.BestOffers.{BestSoFar}
use Rattle.ml_history.proofs.flat.offers.best_offers.Given as goal

abbrev pub invariant-loop-transition : goal.invariant-loop-transition
invariant-loop-transition l = BestSoFar l.history l.places l.letter l.transition-index l.best.items
