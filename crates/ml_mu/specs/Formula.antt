-- The formulas of the modal mu-calculus, as plain data.
--
-- The four binary connectives are one case, with the connective as a part; so are the two modalities, and so are
-- the two fixpoints. Names are lists of bytes. No formula is excluded here: that variables are bound and positive
-- (`Variables.antt`) and names are spelt as they must be (`Spelling.antt`) is said of a formula, not built in.
--
--   Formula        == the formulas: constants, propositions, variables, negations, connectives, modalities, fixpoints
--   Operator       == and, or, implies, iff (of `ml_text`, since all logics share them)
--   Modality       == diamond (some edge) or square (every edge), as the program's terms hold it
--   Fixpoint       == least or greatest, likewise
--   occurrences f  == the number of symbols of f, where iff counts as three and the action of a modality as none
use Rattle.std.specs.Prelude.{ℕ, ◌+◌, Bool, List}
use Rattle.ml_text.specs.declared.token.Operator.{Operator}
use Rattle.ml_text.specs.Operators.{weight}
pub use Rattle.ml_mu.specs.declared.term.Modality.{Modality}
pub use Rattle.ml_mu.specs.declared.term.Modality.TheVariants.{Diamond, Square}
pub use Rattle.ml_mu.specs.declared.term.Fixpoint.{Fixpoint}
pub use Rattle.ml_mu.specs.declared.term.Fixpoint.TheVariants.{Least, Greatest}

pub data Formula : Type 0 where
  Const : Bool → Formula
  Prop : List ℕ → Formula
  Var : List ℕ → Formula
  Not : Formula → Formula
  Binary : Operator → Formula → Formula → Formula
  Modal : Modality → List ℕ → Formula → Formula
  Binder : Fixpoint → List ℕ → Formula → Formula

abbrev pub occurrences : Formula → ℕ
occurrences (Not f) = 1 + occurrences f
occurrences (Binary op f g) = weight op + occurrences f + occurrences g
occurrences (Modal m a f) = 1 + occurrences f
occurrences (Binder q x f) = 1 + occurrences f
occurrences _ = 1
