-- Writing out ends: each call has fewer symbols to write out. A helper stands between a symbol and its operands.
use Rattle.std.proofs.Common.{◌≡◌, ◌≤◌, ◌+◌, ◌-◌, ◌*◌}
use Rattle.ml_ctl.specs.Term as ltl_term
use Rattle.ml_bounded.specs.Formula.{occurrences}
use Rattle.ml_bounded.specs.Term.{formula_of}
use Rattle.ml_bounded.specs.WrittenOut.{within, written_out}
use Rattle.ml_bounded.proofs.writing_out.+writer.Given as goal

abbrev pub decreases-write_term : goal.decreases-write_term
decreases-write_term l = 4 * occurrences (formula_of l.term.now)

abbrev pub decreases-write_boxed : goal.decreases-write_boxed
decreases-write_boxed l = 4 * occurrences (formula_of l.operand.now) + 1

abbrev pub decreases-write_within : goal.decreases-write_within
decreases-write_within l = 4 * occurrences (formula_of l.operand.now) + 2

abbrev pub decreases-write_bounded : goal.decreases-write_bounded
decreases-write_bounded l = 4 * occurrences (formula_of l.operand.now) + 3

abbrev pub invariant-write_within-loop-done : goal.invariant-write_within-loop-done
invariant-write_within-loop-done l =
    (l.done ≤ l.ahead)
    × (ltl_term.formula_of l.made ≡ within l.reach l.done (written_out (formula_of l.operand)))

abbrev pub decreases-write_within-loop-done : goal.decreases-write_within-loop-done
decreases-write_within-loop-done l = l.ahead - l.done
