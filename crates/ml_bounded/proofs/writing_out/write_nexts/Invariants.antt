use Rattle.std.proofs.Common.{◌≡◌, ◌≤◌, ◌-◌}
use Rattle.ml_ctl.specs.Term as ltl_term
use Rattle.ml_bounded.specs.WrittenOut.{nexts}
use Rattle.ml_bounded.proofs.writing_out.write_nexts.Given as goal

abbrev pub invariant-loop-done : goal.invariant-loop-done
invariant-loop-done l =
    (l.done ≤ l.count) × (ltl_term.formula_of l.made ≡ nexts l.done (ltl_term.formula_of l.fn.term))

abbrev pub decreases-loop-done : goal.decreases-loop-done
decreases-loop-done l = l.count - l.done
