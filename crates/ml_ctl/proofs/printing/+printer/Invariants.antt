-- The printer ends: each call has fewer symbols to write. A helper stands between a symbol and its operands.
use Rattle.std.proofs.Common.{◌+◌, ◌*◌}
use Rattle.ml_ctl.specs.Formula.{occurrences}
use Rattle.ml_ctl.specs.Term.{formula_of}
use Rattle.ml_ctl.proofs.printing.+printer.Given as goal

abbrev pub decreases-write_term : goal.decreases-write_term
decreases-write_term l = 2 * occurrences (formula_of l.term.now)

abbrev pub decreases-write_prefix : goal.decreases-write_prefix
decreases-write_prefix l = 2 * occurrences (formula_of l.operand.now) + 1

abbrev pub decreases-write_binary : goal.decreases-write_binary
decreases-write_binary l = 2 * occurrences (formula_of l.left.now) + 2 * occurrences (formula_of l.right.now) + 1
