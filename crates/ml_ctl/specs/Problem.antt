-- Problems of CTL*: a state formula in a sense, plain or negated, where it holds, and whether it is satisfiable.
--
-- The structures that are admitted are those in which each state has an edge by the action `_`.
--
--   IsAdmitted m            == m is a structure of which CTL* and LTL speak
--   HoldsAt m s f negated   == the formula f holds at the state s of the structure m, in this sense
--   IsSatisfiable f negated == some admitted structure has a state at which f holds in this sense
use Rattle.std.specs.Prelude.{ℕ, ◌<◌, Bool, true, false}
use Rattle.ml_base.specs.Structure.{Structure, IsStructure}
use Rattle.ml_ctl.specs.Formula.{Formula}
use Rattle.ml_ctl.specs.Meaning as formula
use Rattle.ml_ctl.specs.Paths.{IsTotal}

pub record IsAdmitted (m : Structure) : Type 0 where
  pub is_structure : IsStructure m
  pub is_total : IsTotal m

-- in a sense: a proposition, or that it fails
abbrev pub in_sense : Bool → Type 0 → Type 0
in_sense false P = P
in_sense true P = P → ⊥

-- a plain problem holds where its formula does, a negated one where its formula doesn't
abbrev pub HoldsAt : Structure → ℕ → Formula → Bool → Type 0
HoldsAt m s f negated = in_sense negated (formula.HoldsAt m f s)

abbrev pub IsSatisfiable : Formula → Bool → Type 0
IsSatisfiable f negated = (m : Structure) × IsAdmitted m × (s : ℕ) × (s < m.states) × HoldsAt m s f negated
