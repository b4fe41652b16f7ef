-- Placing ends: each call has fewer symbols to place. A helper stands between a symbol and its operands.
use Rattle.std.proofs.Common.{◌+◌, ◌*◌}
use Rattle.ml_ctl.specs.Formula.{occurrences}
use Rattle.ml_ctl.specs.Term.{formula_of}
use Rattle.ml_word_graph.proofs.layout.+placing.Given as goal

abbrev pub decreases-place : goal.decreases-place
decreases-place l = 2 * occurrences (formula_of l.term.now)

abbrev pub decreases-place_both : goal.decreases-place_both
decreases-place_both l = 2 * occurrences (formula_of l.left.now) + 2 * occurrences (formula_of l.right.now) + 1
