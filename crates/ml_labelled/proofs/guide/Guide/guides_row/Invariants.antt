use Rattle.std.proofs.Common.{All, take}
use Rattle.ml_labelled.specs.private.Trimming.{IsGuided}
use Rattle.ml_labelled.specs.private.Views.{edge_of}
use Rattle.ml_labelled.specs.declared.labelled.CubeEdge.{CubeEdge}
use Rattle.ml_labelled.proofs.guide.Guide.guides_row.Given as goal

abbrev pub invariant-loop-edge : goal.invariant-loop-edge
invariant-loop-edge l = All (λ (x : CubeEdge). IsGuided l.self l.p (edge_of x)) (take l.edge-index l.row)
