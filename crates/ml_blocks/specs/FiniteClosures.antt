-- The closure of a problem is finite.
--
-- What is asked of a path are operands of the formula, each now or put off; so there are finitely many sets of items, and
-- finitely many places of the focus.
--
--   IsFinite root     == for some n, not more than n nodes are reached from the root
--   ClosuresAreFinite == so it is with each problem of CTL* and each problem of LTL, in both senses
use Rattle.std.specs.Prelude.{ℕ, Bool}
use Rattle.ml_ctl.specs.Formula.{Formula}
use Rattle.ml_blocks.specs.BlockGraph.{linear_start_of, start_of}
use Rattle.ml_blocks.specs.Closures.{HasMoreThan}
use Rattle.ml_blocks.specs.Places.{Place, Root}

abbrev pub IsFinite : Place → Type 0
IsFinite root = (n : ℕ) × (¬ (HasMoreThan root n))

abbrev pub ClosuresAreFinite : Type 0
ClosuresAreFinite =
    (f : Formula) (negated : Bool) → IsFinite (Root (start_of f negated)) × IsFinite (Root (linear_start_of f negated))
