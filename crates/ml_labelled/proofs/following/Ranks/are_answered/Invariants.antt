use Rattle.std.proofs.Common.{All, map, take}
use Rattle.ml_labelled.specs.private.Following.{Answered}
use Rattle.ml_labelled.specs.private.Views.{edge_of}
use Rattle.ml_labelled.specs.declared.labelled.CubeEdge.{CubeEdge}
use Rattle.ml_labelled.proofs.following.Ranks.are_answered.Given as goal

abbrev pub invariant-loop-edge : goal.invariant-loop-edge
invariant-loop-edge l =
    All (λ (x : CubeEdge). Answered l.self l.rank (edge_of x) (map edge_of l.others)) (take l.edge-index l.edges)
