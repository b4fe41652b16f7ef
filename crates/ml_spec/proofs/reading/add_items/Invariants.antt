use Rattle.std.proofs.Common.{◌≡◌, ◌≤◌, ◌-◌, List, length}
use Rattle.ml_spec.specs.Scan.{items_at}
use Rattle.ml_spec.specs.Statements.{Statement}
use Rattle.ml_spec.specs.private.Stages.{IsContextOf, IsReadTo}
use Rattle.ml_spec.proofs.reading.add_items.Given as goal

abbrev pub invariant-loop-item : goal.invariant-loop-item
invariant-loop-item l = record {
  within : l.at ≤ length l.text;
  statements : List Statement;
  is_read : IsReadTo l.logic (items_at l.text l.fn.from) (items_at l.text l.at) statements;
  is_context : IsContextOf l.logic statements l.context;
  are_counted : l.before ≡ length statements;
}

abbrev pub decreases-loop-item : goal.decreases-loop-item
decreases-loop-item l = length l.text - l.at
