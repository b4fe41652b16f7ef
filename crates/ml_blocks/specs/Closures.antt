-- How large the closure of a problem is.
--
--   HasMoreThan root n == more than n nodes are reached from the root
use Rattle.std.specs.Prelude.{ℕ}
use Rattle.ml_nodes.specs.ClosureGraph as closure
use Rattle.ml_blocks.specs.Places.{Place, forms}

abbrev pub HasMoreThan : Place → ℕ → Type 0
HasMoreThan root n = closure.HasMoreThan forms root n
