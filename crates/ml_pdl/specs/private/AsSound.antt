-- What a formula or a program keeps whose propositions are replaced.
--
--   AreAsSound xs ys       == as those of xs, the names ys are short and spelled as they must be
--   IsAsSound f g          == so are the names of the formula g, as those of f
--   IsAsSoundProgram p q   == so are the names of the program q, as those of p
use Rattle.std.specs.Prelude.{List, IsTrue}
use Rattle.ml_text.specs.Names.{AreShort, KindedName, are_spelled}
use Rattle.ml_pdl.specs.Formula.{Formula, Program}
use Rattle.ml_pdl.specs.FormulaNames.{names, program_names}
use Rattle.ml_pdl.specs.Signs.{own}

pub record AreAsSound (xs ys : List KindedName) : Type 0 where
  pub names_are_short : AreShort xs → AreShort ys
  pub names_are_spelled : IsTrue (are_spelled own xs) → IsTrue (are_spelled own ys)

abbrev pub IsAsSound : Formula → Formula → Type 0
IsAsSound f g = AreAsSound (names f) (names g)

abbrev pub IsAsSoundProgram : Program → Program → Type 0
IsAsSoundProgram p q = AreAsSound (program_names p) (program_names q)
