-- The numbers fall along the arcs before this one.
use Rattle.std.proofs.Common.{ℕ, ◌<◌, get_or}
use Rattle.ml_parity.specs.declared.one_sided.graph.Arc.{Arc}
use Rattle.ml_parity.specs.Heights.{FallsAlong}
use Rattle.ml_parity.specs.Refusal.{lists_of}
use Rattle.ml_parity.proofs.one_sided.check.falls_everywhere.Given as goal

abbrev pub invariant-loop-arc : goal.invariant-loop-arc
invariant-loop-arc l = (k : ℕ) (d : Arc) → k < l.arc-index → FallsAlong (lists_of l.rows) (get_or l.graph.arcs k d)
