use Rattle.ml_product.proofs.KeyEquality.{site_eq-same}
use Rattle.ml_product.proofs.trees.Trees.top.Goals as goal

pub number_of-requires-clause-same : goal.number_of-requires-clause-same
number_of-requires-clause-same c = site_eq-same
