use Rattle.std.proofs.Common.{◌≤◌, length}
use Rattle.ml_refutation.specs.declared.refutation.TheConstants.{NESTING_LIMIT}
use Rattle.ml_refutation_text.proofs.BranchesRead.{DecidesTo}
use Rattle.ml_refutation_text.proofs.branches.read_decision.Given as goal

abbrev pub invariant-loop-next : goal.invariant-loop-next
invariant-loop-next l = record {
  decides : DecidesTo l.names l.wanted l.fn.at l.around.items l.rest;
  inside : length l.around.items ≤ NESTING_LIMIT;
}

abbrev pub decreases-loop-next : goal.decreases-loop-next
decreases-loop-next l = length l.rest.text.now
