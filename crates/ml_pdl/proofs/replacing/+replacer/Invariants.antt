-- Replacing ends: each call has fewer symbols to go through. A helper stands between a symbol and its operands.
use Rattle.std.proofs.Common.{◌+◌, ◌*◌}
use Rattle.ml_pdl.specs.Formula.{occurrences, program_occurrences}
use Rattle.ml_pdl.specs.Term.{formula_of, program_of}
use Rattle.ml_pdl.proofs.replacing.+replacer.Given as goal

abbrev pub decreases-replaced_term : goal.decreases-replaced_term
decreases-replaced_term l = 2 * occurrences (formula_of l.term.now)

abbrev pub decreases-replaced_operand : goal.decreases-replaced_operand
decreases-replaced_operand l = 2 * occurrences (formula_of l.operand.now) + 1

abbrev pub decreases-replaced_program : goal.decreases-replaced_program
decreases-replaced_program l = 2 * program_occurrences (program_of l.program.now)

abbrev pub decreases-replaced_part : goal.decreases-replaced_part
decreases-replaced_part l = 2 * program_occurrences (program_of l.part.now) + 1
