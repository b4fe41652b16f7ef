use Rattle.std.proofs.Common.{All, take}
use Rattle.ml_labelled.specs.Labelled.{IsEdge}
use Rattle.ml_labelled.specs.private.Views.{edge_of}
use Rattle.ml_labelled.specs.declared.labelled.CubeEdge.{CubeEdge}
use Rattle.ml_labelled.proofs.fitting.row_fits.Given as goal

abbrev pub invariant-loop-edge : goal.invariant-loop-edge
invariant-loop-edge l = All (λ (x : CubeEdge). IsEdge l.states l.props (edge_of x)) (take l.edge-index l.row)
