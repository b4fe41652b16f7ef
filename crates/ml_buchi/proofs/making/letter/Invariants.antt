-- The transitions of the edges so far that may be taken.
use Rattle.std.proofs.Common.{◌≡◌, take}
use Rattle.ml_buchi.proofs.TakenEdges.{taken_of}
use Rattle.ml_buchi.proofs.making.letter.Given as goal

abbrev pub invariant-loop-edge : goal.invariant-loop-edge
invariant-loop-edge l = l.transitions.items ≡ taken_of l.valuation (take l.edge-index l.edges)
