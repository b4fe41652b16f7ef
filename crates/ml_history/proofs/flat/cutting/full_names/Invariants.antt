use Rattle.ml_history.proofs.arrays.CutOffers.{Marked}
use Rattle.ml_history.proofs.flat.cutting.full_names.Given as goal

abbrev pub invariant-loop-offer : goal.invariant-loop-offer
invariant-loop-offer l = Marked l.history l.best l.offer-index l.standing.items l.ends.items
