-- The stacks that were read. Private contracts and proofs cite this.
--
--   prop_rows          == that lists ascend is a proposition
use Rattle.std.specs.Prelude.{ℕ, List, All}
use Rattle.std.proofs.Props.{props}
use Rattle.ml_lists.specs.Ascending.{IsAscending}
use Rattle.ml_refutation.specs.private.Propositions.{prop_ascending}

pub prop_rows : (rows : List (List ℕ)) → IsProp (All IsAscending rows)
prop_rows rows = hlevel (props, prop_ascending)
