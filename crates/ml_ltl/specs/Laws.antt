-- What is true of problems.
--
--   PlainAsksForPaths   == a plain problem holds where some path satisfies its formula
--   NegatedAsksForPaths == a negated one where some path doesn't
use Rattle.std.specs.Prelude.{ℕ, ◌↔◌, true, false}
use Rattle.ml_lists.specs.Lasso.{Lasso}
use Rattle.ml_base.specs.Structure.{Structure}
use Rattle.ml_ctl.specs.Formula.{Formula}
use Rattle.ml_ctl.specs.Meaning.{Satisfies}
use Rattle.ml_ctl.specs.Paths.{IsPathFrom}
use Rattle.ml_ltl.specs.Problem.{HoldsAt}

abbrev pub PlainAsksForPaths : Type 0
PlainAsksForPaths = (m : Structure) (f : Formula) (s : ℕ)
    → HoldsAt m s f false
    ↔ ((l : Lasso) × IsPathFrom m s l × Satisfies m l f)

abbrev pub NegatedAsksForPaths : Type 0
NegatedAsksForPaths = (m : Structure) (f : Formula) (s : ℕ)
    → HoldsAt m s f true
    ↔ ((l : Lasso) × IsPathFrom m s l × (Satisfies m l f → ⊥))
