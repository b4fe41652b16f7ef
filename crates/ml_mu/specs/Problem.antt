-- Problems of the mu-calculus: a formula in a sense, plain or negated, and where it holds.
--
-- That a problem holds at a state is a proposition and no test: in other logics it speaks of infinitely many paths, so it
-- can't be computed from its definition there. What is said of problems of all logics stands in `ml_front`.
--
--   HoldsAt m s f negated == the formula f holds at the state s of the structure m, in this sense
use Rattle.std.specs.Prelude.{ℕ, ◌≡◌, Bool, not, []}
use Rattle.ml_base.specs.Structure.{Structure, is_member}
use Rattle.ml_mu.specs.Formula.{Formula}
use Rattle.ml_mu.specs.Meaning.{meaning}

-- a plain problem holds where its formula does, a negated one where its formula doesn't
abbrev pub HoldsAt : Structure → ℕ → Formula → Bool → Type 0
HoldsAt m s f negated = is_member (meaning m [] f) s ≡ not negated
