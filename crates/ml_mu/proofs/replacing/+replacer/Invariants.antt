-- Replacing ends: each call has fewer symbols to go through. A helper stands between a symbol and its operands.
use Rattle.std.proofs.Common.{◌+◌, ◌*◌}
use Rattle.ml_mu.specs.Formula.{occurrences}
use Rattle.ml_mu.specs.Term.{formula_of}
use Rattle.ml_mu.proofs.replacing.+replacer.Given as goal

abbrev pub decreases-replaced_term : goal.decreases-replaced_term
decreases-replaced_term l = 2 * occurrences (formula_of l.term.now)

abbrev pub decreases-replaced_operand : goal.decreases-replaced_operand
decreases-replaced_operand l = 2 * occurrences (formula_of l.operand.now) + 1
