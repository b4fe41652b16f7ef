use Rattle.std.proofs.Common.{ℕ, ◌<◌, get_or}
use Rattle.ml_refute_check.specs.private.Sources.{IsReached}
use Rattle.ml_refute_check.proofs.by_node.lead_to_all.Given as goal

abbrev pub invariant-loop-node : goal.invariant-loop-node
invariant-loop-node l = (k : ℕ) → k < l.node-index → IsReached l.traces (get_or l.nodes k 0)
