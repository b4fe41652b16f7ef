use Rattle.std.proofs.Common.{length}
use Rattle.ml_refutation.specs.Views.{decision_of}
use Rattle.ml_refutation_text.proofs.ClosedBranches.{ClosesTo}
use Rattle.ml_refutation_text.proofs.branches.close.Given as goal

abbrev pub invariant-loop-split : goal.invariant-loop-split
invariant-loop-split l = ClosesTo l.around.items (decision_of l.decision) l.fn.around.items (decision_of l.fn.leaf)

abbrev pub decreases-loop-split : goal.decreases-loop-split
decreases-loop-split l = length l.around.items
