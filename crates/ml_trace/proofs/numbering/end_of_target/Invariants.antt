use Rattle.std.proofs.Common.{length, ◌-◌, ◌<◌, ◌≤◌}
use Rattle.ml_trace.proofs.numbering.end_of_target.Given as goal

abbrev pub invariant-loop-end : goal.invariant-loop-end
invariant-loop-end l = (l.i < l.end) × (l.end ≤ length l.triples)

abbrev pub decreases-loop-end : goal.decreases-loop-end
decreases-loop-end l = length l.triples - l.end
