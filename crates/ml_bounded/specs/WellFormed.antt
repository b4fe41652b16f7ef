-- The formulas that the program holds: those within the limits on their size and their names, whose names are spelt as
-- they must be.
--
--   IsWellFormed f  == f is such a formula
use Rattle.std.specs.Prelude.{◌≤◌, IsTrue}
use Rattle.ml_text.specs.Limits.{most_occurrences}
use Rattle.ml_bounded.specs.Formula.{Formula, occurrences}
use Rattle.ml_bounded.specs.Spelling.{HasShortNames, is_spelled}

pub record IsWellFormed (f : Formula) : Type 0 where
  pub is_small : occurrences f ≤ most_occurrences
  pub names_are_short : HasShortNames f
  pub names_are_spelled : IsTrue (is_spelled f)
