use Rattle.std.proofs.Common.{◌≡◌, ◌++◌, length, map, take}
use Rattle.std.specs.List.{zip}
use Rattle.ml_extract.specs.private.Gathered.{edge_to}
use Rattle.ml_extract.proofs.parts.add_edges.Given as goal

abbrev pub invariant-loop-diamond : goal.invariant-loop-diamond
invariant-loop-diamond l =
    (goal.iterator-loop-diamond).can_next l.diamond-iterator
    × (goal.iterator-loop-diamond).is_finite l.diamond-iterator
    × (l.edges.items ≡ l.initial.edges.items
    ++ map (edge_to l.graph l.firsts.keys l.state) (take (length l.yielded) (zip l.diamonds l.moves)))
