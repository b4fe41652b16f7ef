-- The names that stand in a formula.
--
--   names f        == the names in f, in the order of the text: propositions, variables, also those of binders, and actions
use Rattle.std.specs.Prelude.{List, [], ◌∷◌, ◌++◌}
use Rattle.ml_text.specs.Names.{KindedName, Proposition, Variable, Action}
use Rattle.ml_mu.specs.Formula.{Binary, Binder, Const, Formula, Modal, Not, Prop, Var}

abbrev pub names : Formula → List KindedName
names (Const b) = []
names (Prop p) = (Proposition, p) ∷ []
names (Var x) = (Variable, x) ∷ []
names (Not f) = names f
names (Binary op f g) = names f ++ names g
names (Modal m a f) = (Action, a) ∷ names f
names (Binder q x f) = (Variable, x) ∷ names f
