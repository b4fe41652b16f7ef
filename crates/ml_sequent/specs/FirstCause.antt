-- Which cause of a clash comes first.
--
--   comes_before x y      == in the order of causes: False, pairs, cycles, and in each by the numbers
--   IsFirstCause g sp x   == x is a cause, and no cause comes before it
use Rattle.std.specs.Prelude.{◌≡◌, ◌<◌, ◌⊎◌}
use Rattle.ml_graph.specs.Graph.{Graph}
use Rattle.ml_sequent.specs.declared.clashes.ClashCause.{ClashCause}
use Rattle.ml_sequent.specs.declared.clashes.ClashCause.TheVariants as cause
use Rattle.ml_sequent.specs.Spread.{IsCause, SpreadList}

-- the order of causes
abbrev pub comes_before : ClashCause → ClashCause → Type 0
comes_before (cause.False n) (cause.False m) = n < m
comes_before (cause.False n) (cause.Pair p q) = Unit {0}
comes_before (cause.False n) (cause.Cycle m) = Unit {0}
comes_before (cause.Pair p q) (cause.False m) = ⊥
comes_before (cause.Pair p q) (cause.Pair r s) = (p < r) ⊎ ((p ≡ r) × (q < s))
comes_before (cause.Pair p q) (cause.Cycle m) = Unit {0}
comes_before (cause.Cycle n) (cause.False m) = ⊥
comes_before (cause.Cycle n) (cause.Pair p q) = ⊥
comes_before (cause.Cycle n) (cause.Cycle m) = n < m

-- the first cause
pub record IsFirstCause (g : Graph) (sp : SpreadList) (x : ClashCause) : Type 0 where
  pub is_cause : IsCause g sp x
  pub first : (y : ClashCause) → IsCause g sp y → comes_before y x → ⊥
