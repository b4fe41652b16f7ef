-- Placing ends: each call has fewer symbols to place.
use Rattle.ml_pdl.specs.Formula.{occurrences, program_occurrences}
use Rattle.ml_pdl.specs.Term.{formula_of, program_of}
use Rattle.ml_pdl_graph.proofs.graph.+placing.Given as goal

abbrev pub decreases-place : goal.decreases-place
decreases-place l = occurrences (formula_of l.term.now)

abbrev pub decreases-place_program : goal.decreases-place_program
decreases-place_program l = program_occurrences (program_of l.program.now)
