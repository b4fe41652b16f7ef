-- Copying ends: each call has fewer symbols to copy. A helper stands between a symbol and its operands.
use Rattle.std.proofs.Common.{◌+◌, ◌*◌}
use Rattle.ml_pdl.specs.Formula.{occurrences, program_occurrences}
use Rattle.ml_pdl.specs.Term.{formula_of, program_of}
use Rattle.ml_pdl.proofs.copying.+copier.Given as goal

abbrev pub decreases-copy_term : goal.decreases-copy_term
decreases-copy_term l = 2 * occurrences (formula_of l.term.now)

abbrev pub decreases-copy_operand : goal.decreases-copy_operand
decreases-copy_operand l = 2 * occurrences (formula_of l.operand.now) + 1

abbrev pub decreases-copy_program : goal.decreases-copy_program
decreases-copy_program l = 2 * program_occurrences (program_of l.program.now)

abbrev pub decreases-copy_part : goal.decreases-copy_part
decreases-copy_part l = 2 * program_occurrences (program_of l.part.now) + 1
