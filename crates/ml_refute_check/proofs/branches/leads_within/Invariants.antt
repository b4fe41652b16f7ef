use Rattle.std.proofs.Common.{ℕ, ◌<◌, get_or}
use Rattle.ml_lists.specs.Member.{IsMember}
use Rattle.ml_refute_check.proofs.branches.leads_within.Given as goal

abbrev pub invariant-loop-node : goal.invariant-loop-node
invariant-loop-node l = (k : ℕ) → k < l.node-index → IsMember (get_or l.next k 0) l.targets
