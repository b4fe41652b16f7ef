-- Copying ends: each call has fewer symbols to copy. A helper stands between a symbol and its operands.
use Rattle.std.proofs.Common.{◌+◌, ◌*◌}
use Rattle.ml_ctl.specs.Formula.{occurrences}
use Rattle.ml_ctl.specs.Term.{formula_of}
use Rattle.ml_ctl.proofs.copying.+copier.Given as goal

abbrev pub decreases-copy_term : goal.decreases-copy_term
decreases-copy_term l = 3 * occurrences (formula_of l.term.now)

abbrev pub decreases-copy_operand : goal.decreases-copy_operand
decreases-copy_operand l = 3 * occurrences (formula_of l.operand.now) + 1

abbrev pub decreases-copy_operands : goal.decreases-copy_operands
decreases-copy_operands l = 3 * occurrences (formula_of l.left.now) + 3 * occurrences (formula_of l.right.now) + 2
