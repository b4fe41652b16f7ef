-- A parent stands before.
use Rattle.ml_product.proofs.store.Store.+choice.Given as goal

abbrev pub decreases-choice : goal.decreases-choice
decreases-choice l = l.v
