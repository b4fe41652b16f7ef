-- The evaluator ends: each call has fewer symbols to evaluate. A helper stands between a symbol and its operands.
-- An iterate is one by its number, and has one flag for each state.
use Rattle.std.proofs.Common.{◌≡◌, ◌+◌, ◌*◌, length}
use Rattle.ml_lists.specs.Iterate.{iterate}
use Rattle.ml_mu.specs.private.Environment.{given_of}
use Rattle.ml_mu.specs.Formula.{occurrences}
use Rattle.ml_mu.specs.Term.{formula_of}
use Rattle.ml_mu.proofs.Evaluation.{body_step}
use Rattle.ml_mu.proofs.evaluator.+evaluator.Given as goal

abbrev pub decreases-evaluate_term : goal.decreases-evaluate_term
decreases-evaluate_term l = 2 * occurrences (formula_of l.term.now)

abbrev pub decreases-last_iterate : goal.decreases-last_iterate
decreases-last_iterate l = 2 * occurrences (formula_of l.body.now) + 1

abbrev pub invariant-last_iterate-loop : goal.invariant-last_iterate-loop
invariant-last_iterate-loop l =
    (l.set.items ≡ iterate l.counter (body_step l.structure (given_of l.given) l.variable (formula_of l.body)) l.fn.first.items)
    × (length l.set.items ≡ l.structure.states)
