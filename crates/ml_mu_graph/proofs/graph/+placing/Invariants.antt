-- Placing ends: each call has fewer symbols to place.
use Rattle.std.proofs.Common.{◌+◌, ◌*◌}
use Rattle.ml_mu.specs.Formula.{occurrences}
use Rattle.ml_mu.specs.Term.{formula_of}
use Rattle.ml_mu_graph.proofs.graph.+placing.Given as goal

abbrev pub decreases-place : goal.decreases-place
decreases-place l = 2 * occurrences (formula_of l.term.now)

abbrev pub decreases-place_both : goal.decreases-place_both
decreases-place_both l = 2 * occurrences (formula_of l.left.now) + 2 * occurrences (formula_of l.right.now) + 1

abbrev pub decreases-place_body : goal.decreases-place_body
decreases-place_body l = 2 * occurrences (formula_of l.body.now) + 1
