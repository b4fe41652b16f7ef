use Rattle.std.proofs.Common.{◌≡◌, [], map, replicate}
use Rattle.std.specs.List.{range_with_len}
use Rattle.ml_kripke.specs.Built.{labels_at}
use Rattle.ml_kripke.proofs.structure.rows.Given as goal

abbrev pub invariant-loop : goal.invariant-loop
invariant-loop l = map (λ row. row.items) l.rows.items ≡ replicate l.counter []

abbrev pub invariant-loop-state : goal.invariant-loop-state
invariant-loop-state l =
    (goal.iterator-loop-state).can_next l.state-iterator × (goal.iterator-loop-state).is_finite l.state-iterator
    × (map (λ row. row.items) l.rows.items ≡ map (labels_at l.yielded) (range_with_len 0 l.states))
