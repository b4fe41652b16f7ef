-- Problems of PDL: a formula in a sense, plain or negated, where it holds, and whether it is satisfiable.
--
-- All structures are admitted.
--
--   HoldsAt m s f negated   == the formula f holds at the state s of the structure m, in this sense
--   IsSatisfiable f negated == some structure has a state at which f holds in this sense
use Rattle.std.specs.Prelude.{ℕ, ◌≡◌, ◌<◌, Bool, not}
use Rattle.ml_base.specs.Structure.{Structure, IsStructure, is_member}
use Rattle.ml_pdl.specs.Formula.{Formula}
use Rattle.ml_pdl.specs.Meaning.{meaning}

-- a plain problem holds where its formula does, a negated one where its formula doesn't
abbrev pub HoldsAt : Structure → ℕ → Formula → Bool → Type 0
HoldsAt m s f negated = is_member (meaning m f) s ≡ not negated

abbrev pub IsSatisfiable : Formula → Bool → Type 0
IsSatisfiable f negated = (m : Structure) × IsStructure m × (s : ℕ) × (s < m.states) × HoldsAt m s f negated
