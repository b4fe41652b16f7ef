use Rattle.std.proofs.Common.{◌≡◌, ◌++◌, map, take}
use Rattle.std.specs.List.{flat_map}
use Rattle.ml_labelled.specs.LabelledText.{edge_text}
use Rattle.ml_labelled.specs.private.Views.{edge_of}
use Rattle.ml_labelled.proofs.writing.write_edges.Given as goal

abbrev pub invariant-loop-edge : goal.invariant-loop-edge
invariant-loop-edge l = l.out.items ≡ l.fn.out.items ++ flat_map edge_text (map edge_of (take l.edge-index l.edges))
