-- The rows before v are longer.
use Rattle.ml_parity.specs.private.HeightSteps.{IsAppended}
use Rattle.ml_parity.specs.Refusal.{lists_of}
use Rattle.ml_parity.proofs.one_sided.search.append_column.Given as goal

abbrev pub invariant-loop-v : goal.invariant-loop-v
invariant-loop-v l = IsAppended (lists_of l.initial.rows) l.column l.v (lists_of l.rows)
