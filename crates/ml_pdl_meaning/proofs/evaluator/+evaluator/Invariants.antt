-- The evaluator ends: each call has fewer symbols to evaluate. A helper or two stand between a symbol and its operands.
-- An iterate is one by its number, and has one flag for each state.
use Rattle.std.proofs.Common.{◌≡◌, ◌+◌, ◌*◌, true, length, replicate}
use Rattle.ml_lists.specs.Iterate.{iterate}
use Rattle.ml_pdl.specs.Formula.{occurrences, program_occurrences}
use Rattle.ml_pdl.specs.Meaning.{relation}
use Rattle.ml_pdl.specs.Term.{formula_of, program_of}
use Rattle.ml_pdl_meaning.proofs.RunsIntoSets.{before, grown}
use Rattle.ml_pdl_meaning.proofs.evaluator.+evaluator.Given as goal

abbrev pub decreases-evaluate_term : goal.decreases-evaluate_term
decreases-evaluate_term l = 3 * occurrences (formula_of l.term.now)

abbrev pub decreases-modal : goal.decreases-modal
decreases-modal l = 3 * program_occurrences (program_of l.program.now) + 2

abbrev pub decreases-runs_into : goal.decreases-runs_into
decreases-runs_into l = 3 * program_occurrences (program_of l.program.now)

abbrev pub decreases-all_runs_into : goal.decreases-all_runs_into
decreases-all_runs_into l = 3 * program_occurrences (program_of l.program.now) + 1

abbrev pub decreases-rounds_into : goal.decreases-rounds_into
decreases-rounds_into l = 3 * program_occurrences (program_of l.program.now) + 1

abbrev pub decreases-repeats : goal.decreases-repeats
decreases-repeats l = 3 * program_occurrences (program_of l.program.now) + 1

abbrev pub invariant-rounds_into-loop : goal.invariant-rounds_into-loop
invariant-rounds_into-loop l =
    (l.states.items ≡ iterate l.counter (grown l.structure (relation l.structure (program_of l.program)) l.set) l.set)
    × (length l.states.items ≡ l.structure.states)

abbrev pub invariant-repeats-loop : goal.invariant-repeats-loop
invariant-repeats-loop l =
    (l.states.items ≡ iterate l.counter (before l.structure (relation l.structure (program_of l.program)))
    (replicate l.structure.states true))
    × (length l.states.items ≡ l.structure.states)
