-- Where the variables of a formula stand, and which of them is at fault.
--
-- A variable belongs to the innermost binder of its name around it. Around each place stand some negations and some
-- iffs, where the left operand of an implication stands under one negation more. A variable is at fault if it has no
-- binder, or if, between its binder and itself, an odd number of negations or some iff stands.
--
--   Standing               == fine, without a binder, or not positive
--   Around                 == a binder's variable with the negations and iffs around the binder
--   standing_of ..         == how a variable stands, by the binders around it, innermost first
--   standings f            == how the variables of f stand, in the order of the text
--   fault_at ss places     == the first variable at fault, with its place; places are those of all variables
--   are_fine ss            == no variable is at fault
use Rattle.std.specs.Prelude.{ℕ, ◌+◌, ◌-◌, ◌%◌, ◌==◌, ◌&&◌, Bool, true, false, List, [], ◌∷◌, ◌++◌, Option, Some, None, if◌then◌else◌, bytes_eq}
use Rattle.ml_text.specs.declared.token.Operator.TheVariants.{Iff, Implies, Or, And}
pub use Rattle.ml_mu.specs.declared.variables.Standing.{Standing}
pub use Rattle.ml_mu.specs.declared.variables.Standing.TheVariants.{Fine, Unbound, NotPositive}
use Rattle.ml_mu.specs.Formula.{Formula, Var, Not, Binary, Modal, Binder}

pub record Around : Type 0 where
  pub name : List ℕ
  pub negations : ℕ
  pub iffs : ℕ

abbrev pub standing_of : List Around → ℕ → ℕ → List ℕ → Standing
standing_of [] n i x = Unbound
standing_of (b ∷ bs) n i x =
    if bytes_eq b.name x
    then (if (i == b.iffs) && ((n - b.negations) % 2 == 0) then Fine else NotPositive)
    else standing_of bs n i x

abbrev pub standings_in : List Around → ℕ → ℕ → Formula → List Standing
standings_in bs n i (Var x) = standing_of bs n i x ∷ []
standings_in bs n i (Not f) = standings_in bs (n + 1) i f
standings_in bs n i (Binary And f g) = standings_in bs n i f ++ standings_in bs n i g
standings_in bs n i (Binary Or f g) = standings_in bs n i f ++ standings_in bs n i g
standings_in bs n i (Binary Implies f g) = standings_in bs (n + 1) i f ++ standings_in bs n i g
standings_in bs n i (Binary Iff f g) = standings_in bs n (i + 1) f ++ standings_in bs n (i + 1) g
standings_in bs n i (Modal m a f) = standings_in bs n i f
standings_in bs n i (Binder q x f) = standings_in (record { name = x; negations = n; iffs = i } ∷ bs) n i f
standings_in bs n i _ = []

abbrev pub standings : Formula → List Standing
standings f = standings_in [] 0 0 f

abbrev pub fault_at : List Standing → List ℕ → Option (Standing × ℕ)
fault_at (Fine ∷ ss) (at ∷ places) = fault_at ss places
fault_at (s ∷ ss) (at ∷ places) = Some (s, at)
fault_at _ _ = None

abbrev pub are_fine : List Standing → Bool
are_fine [] = true
are_fine (Fine ∷ ss) = are_fine ss
are_fine (_ ∷ ss) = false
