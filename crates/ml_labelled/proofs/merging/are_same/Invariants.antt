use Rattle.std.proofs.Common.{◌≡◌, map, take}
use Rattle.ml_labelled.specs.private.Views.{edge_of}
use Rattle.ml_labelled.proofs.merging.are_same.Given as goal

abbrev pub invariant-loop-i : goal.invariant-loop-i
invariant-loop-i l = take l.i (map edge_of l.row) ≡ take l.i (map edge_of l.other)
