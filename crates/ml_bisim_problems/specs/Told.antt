-- What formulas tell of states, said of the formulas of the mu-calculus without variables and binders: those of modal logic.
--
--   HasNoBinder f       == f has neither variables nor binders
--   ToldApart m s t     == some such formula is true at the state s and false at t
--   SaysTheSame m r at  == in r each such formula is true at `at s` exactly where it is true at the state s of m
use Rattle.std.specs.Prelude.{ℕ, ◌≡◌, ◌<◌, [], true, false}
use Rattle.ml_base.specs.Structure.{Structure, is_member}
use Rattle.ml_mu.specs.Formula.{Formula, Const, Prop, Var, Not, Binary, Modal, Binder}
use Rattle.ml_mu.specs.Meaning.{meaning}

abbrev pub HasNoBinder : Formula → Type 0
HasNoBinder (Const b) = Unit {0}
HasNoBinder (Prop p) = Unit {0}
HasNoBinder (Var x) = ⊥
HasNoBinder (Not f) = HasNoBinder f
HasNoBinder (Binary op f g) = HasNoBinder f × HasNoBinder g
HasNoBinder (Modal d a f) = HasNoBinder f
HasNoBinder (Binder q x f) = ⊥

pub record ToldApart (m : Structure) (s t : ℕ) : Type 0 where
  pub formula : Formula
  pub no_binder : HasNoBinder formula
  pub here : is_member (meaning m [] formula) s ≡ true
  pub not_there : is_member (meaning m [] formula) t ≡ false

pub record SaysTheSame (m r : Structure) (at : ℕ → ℕ) : Type 0 where
  pub states : (s : ℕ) → s < m.states → at s < r.states
  pub formulas : (f : Formula) → HasNoBinder f → (s : ℕ) → s < m.states
      → is_member (meaning m [] f) s ≡ is_member (meaning r [] f) (at s)
