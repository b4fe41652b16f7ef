-- The names that stand in a formula.
--
--   names f        == the names in f, in the order of the text: propositions alone
use Rattle.std.specs.Prelude.{List, [], ◌∷◌, ◌++◌}
use Rattle.ml_text.specs.Names.{KindedName, Proposition}
use Rattle.ml_bounded.specs.Formula.{Binary, Bounded, Const, Formula, Not, Paired, Prop, Temporal}

abbrev pub names : Formula → List KindedName
names (Const b) = []
names (Prop p) = (Proposition, p) ∷ []
names (Not f) = names f
names (Binary op f g) = names f ++ names g
names (Temporal t f) = names f
names (Paired p f g) = names f ++ names g
names (Bounded b f) = names f
