-- The printer ends: each call has fewer symbols to write. A helper or two stand between a symbol and its operands.
use Rattle.std.proofs.Common.{◌+◌, ◌*◌}
use Rattle.ml_pdl.specs.Formula.{occurrences, program_occurrences}
use Rattle.ml_pdl.specs.Term.{formula_of, program_of}
use Rattle.ml_pdl.proofs.printing.+printer.Given as goal

abbrev pub decreases-write_term : goal.decreases-write_term
decreases-write_term l = 3 * occurrences (formula_of l.term.now)

abbrev pub decreases-write_modality : goal.decreases-write_modality
decreases-write_modality l = 3 * program_occurrences (program_of l.program.now) + 2

abbrev pub decreases-write_whole : goal.decreases-write_whole
decreases-write_whole l = 3 * program_occurrences (program_of l.program.now) + 1

abbrev pub decreases-write_program : goal.decreases-write_program
decreases-write_program l = 3 * program_occurrences (program_of l.program.now)

abbrev pub decreases-write_joined : goal.decreases-write_joined
decreases-write_joined l =
    3 * program_occurrences (program_of l.left.now) + 3 * program_occurrences (program_of l.right.now) + 1
