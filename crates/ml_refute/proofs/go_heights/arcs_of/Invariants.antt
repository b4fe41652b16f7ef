use Rattle.std.proofs.Common.{◌≡◌, ◌*◌, ◌++◌, map, drop}
use Rattle.ml_refutation.specs.Views.{decision_of}
use Rattle.ml_refute.specs.private.PutTogether.{arcs_at}
use Rattle.ml_refute.proofs.go_heights.arcs_of.Given as goal

abbrev pub invariant-loop-entry : goal.invariant-loop-entry
invariant-loop-entry l =
    l.arcs.items ++ arcs_at (2 * l.names) l.entry (map decision_of (drop l.entry l.decisions))
    ≡ arcs_at (2 * l.names) 0 (map decision_of l.decisions)
