use Rattle.std.proofs.Common.{take}
use Rattle.ml_emptiness.specs.Systems.{table_of}
use Rattle.ml_paths.specs.private.Systems.{IsSystemOf}
use Rattle.ml_paths.proofs.systems.system_from.Given as goal

abbrev pub invariant-loop-edge : goal.invariant-loop-edge
invariant-loop-edge l =
    IsSystemOf l.structure l.start l.numbers (take l.edge-index l.structure.edges) (table_of l.system.items)
