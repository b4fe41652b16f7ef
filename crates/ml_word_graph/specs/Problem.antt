-- Problems of LTL on single words: a formula in a sense, plain or negated, where it holds, and whether it is satisfiable.
--
-- The structures that are admitted are those in which each state has exactly one edge by the action `_`. From each state so
-- goes one path: the states along these edges until one comes again. A problem holds at a state if this path satisfies its
-- formula, and a negated one if it doesn't; so negation is complement here.
--
--   HasOneStep m s      == exactly one edge by `_` leads from s
--   IsFork m s          == not exactly one does
--   IsAdmitted m        == m is a structure in which each state has exactly one edge by `_`
--   IsWordFrom m s l    == l is the lasso of the states along these edges from s, until one comes again
--   HoldsAt m s f negated == the formula f holds at the state s of the structure m, in this sense
--   IsSatisfiable f negated == some admitted structure has a state at which f holds in this sense
use Rattle.std.specs.Prelude.{ℕ, ◌≡◌, ◌<◌, Bool, true}
use Rattle.ml_lists.specs.Lasso.{Lasso, entry}
use Rattle.ml_base.specs.Structure.{Structure, IsStructure}
use Rattle.ml_ctl.specs.Meaning.{Satisfies}
use Rattle.ml_ctl.specs.Paths.{IsPathFrom, has_step, places}
use Rattle.ml_ctl.specs.Formula.{Formula}
use Rattle.ml_ctl.specs.Problem.{in_sense}

pub record HasOneStep (m : Structure) (s : ℕ) : Type 0 where
  pub target : ℕ
  pub leads : has_step m s target ≡ true
  pub only : (t : ℕ) → has_step m s t ≡ true → t ≡ target

-- not exactly one edge by `_` leads from s
abbrev pub IsFork : Structure → ℕ → Type 0
IsFork m s = ¬ (HasOneStep m s)

pub record IsAdmitted (m : Structure) : Type 0 where
  pub is_structure : IsStructure m
  pub one_step : (s : ℕ) → s < m.states → HasOneStep m s

-- the path from s whose places have different states
pub record IsWordFrom (m : Structure) (s : ℕ) (l : Lasso) : Type 0 where
  pub is_path : IsPathFrom m s l
  pub differ : (i j : ℕ) → i < places l → j < places l → entry l i ≡ entry l j → i ≡ j

abbrev pub HoldsAt : Structure → ℕ → Formula → Bool → Type 0
HoldsAt m s f negated = (l : Lasso) × IsWordFrom m s l × in_sense negated (Satisfies m l f)

abbrev pub IsSatisfiable : Formula → Bool → Type 0
IsSatisfiable f negated = (m : Structure) × IsAdmitted m × (s : ℕ) × (s < m.states) × HoldsAt m s f negated
