-- Each side of a split has fewer branches. A function for one side stands between a decision and its sides.
use Rattle.std.proofs.Common.{◌+◌, ◌*◌}
use Rattle.ml_refutation.specs.Views.{decision_of}
use Rattle.ml_refute_check.specs.private.Parts.{count_branches}
use Rattle.ml_refute_check.proofs.checker.Checker.+deciding.Given as goal

abbrev pub decreases-check_decision : goal.decreases-check_decision
decreases-check_decision l = 2 * count_branches (decision_of l.decision.now)

abbrev pub decreases-check_side : goal.decreases-check_side
decreases-check_side l = 2 * count_branches (decision_of l.decision.now) + 1
