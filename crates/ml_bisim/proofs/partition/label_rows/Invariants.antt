use Rattle.std.proofs.Common.{◌≡◌, map, take}
use Rattle.ml_bisim.proofs.partition.label_rows.Given as goal

abbrev pub invariant-loop-state : goal.invariant-loop-state
invariant-loop-state l = map (λ row. row.items) l.rows.items ≡ take l.state l.structure.labels
