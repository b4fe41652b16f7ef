-- Problems of LTL: a formula in a sense, plain or negated, where it holds, and whether it is satisfiable.
--
-- A formula f holds at a state where some path from there satisfies it, so where `E f` of CTL* does. The structures that are
-- admitted are those of CTL*. A negated problem asks for a path that satisfies the negation: it isn't the complement of the
-- plain one, and both may hold at one state.
--
--   in_sense b f            == the formula f, or its negation
--   HoldsAt m s f negated   == the formula f holds at the state s of the structure m, in this sense
--   IsSatisfiable f negated == some admitted structure has a state at which f holds in this sense
use Rattle.std.specs.Prelude.{ℕ, Bool, true, false}
use Rattle.ml_base.specs.Structure.{Structure}
use Rattle.ml_ctl.specs.Formula.{Formula, Not, Quantified}
use Rattle.ml_ctl.specs.declared.term.Quantifier.TheVariants.{Exists}
use Rattle.ml_ctl.specs.Problem as ctl

abbrev pub in_sense : Bool → Formula → Formula
in_sense false f = f
in_sense true f = Not f

abbrev pub HoldsAt : Structure → ℕ → Formula → Bool → Type 0
HoldsAt m s f negated = ctl.HoldsAt m s (Quantified Exists (in_sense negated f)) false

abbrev pub IsSatisfiable : Formula → Bool → Type 0
IsSatisfiable f negated = ctl.IsSatisfiable (Quantified Exists (in_sense negated f)) false
