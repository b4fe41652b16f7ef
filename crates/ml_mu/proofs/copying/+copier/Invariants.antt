-- Copying ends: each call has fewer symbols to copy. A helper stands between a symbol and its operands.
use Rattle.std.proofs.Common.{◌+◌, ◌*◌}
use Rattle.ml_mu.specs.Formula.{occurrences}
use Rattle.ml_mu.specs.Term.{formula_of}
use Rattle.ml_mu.proofs.copying.+copier.Given as goal

abbrev pub decreases-copy_term : goal.decreases-copy_term
decreases-copy_term l = 2 * occurrences (formula_of l.term.now)

abbrev pub decreases-copy_operand : goal.decreases-copy_operand
decreases-copy_operand l = 2 * occurrences (formula_of l.operand.now) + 1
