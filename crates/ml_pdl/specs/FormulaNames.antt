-- The names that stand in a formula or a program.
--
--   names f, program_names p == the names there, in the order of the text: propositions and actions
use Rattle.std.specs.Prelude.{List, [], ◌∷◌, ◌++◌}
use Rattle.ml_text.specs.Names.{KindedName, Proposition, Action}
use Rattle.ml_pdl.specs.Formula.{Formula, Const, Prop, Not, Binary, Modal, Repeat, Program, Act, Seq, Alt, Star, Test}

abbrev mutual
  pub names : Formula → List KindedName
  names (Const b) = []
  names (Prop p) = (Proposition, p) ∷ []
  names (Not f) = names f
  names (Binary op f g) = names f ++ names g
  names (Modal m p f) = program_names p ++ names f
  names (Repeat p) = program_names p

  pub program_names : Program → List KindedName
  program_names (Act a) = (Action, a) ∷ []
  program_names (Seq p q) = program_names p ++ program_names q
  program_names (Alt p q) = program_names p ++ program_names q
  program_names (Star p) = program_names p
  program_names (Test f) = names f
