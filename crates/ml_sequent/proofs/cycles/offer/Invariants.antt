use Rattle.std.proofs.Common.{◌≡◌, drop}
use Rattle.ml_sequent.specs.private.ConnectedParts.{offered}
use Rattle.ml_sequent.proofs.cycles.offer.Given as goal

abbrev pub invariant-loop-node : goal.invariant-loop-node
invariant-loop-node l =
    offered l.graph l.priority (drop l.node-index l.part) l.best ≡ offered l.graph l.priority l.part l.initial.best
