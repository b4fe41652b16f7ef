-- The formulas that the program holds: those within the limits on their size and their names, whose names are spelt as
-- they must be and whose variables are bound and positive.
--
--   IsWellFormed f    == f is such a formula
use Rattle.std.specs.Prelude.{◌≤◌, [], IsTrue}
use Rattle.ml_text.specs.Limits.{most_occurrences}
use Rattle.ml_mu.specs.Formula.{Formula, occurrences}
use Rattle.ml_mu.specs.Spelling.{HasShortNames, is_spelled}
use Rattle.ml_mu.specs.Variables.{is_bound, is_positive}

pub record IsWellFormed (f : Formula) : Type 0 where
  pub is_small : occurrences f ≤ most_occurrences
  pub names_are_short : HasShortNames f
  pub names_are_spelled : IsTrue (is_spelled f)
  pub variables_are_bound : IsTrue (is_bound [] f)
  pub variables_are_positive : IsTrue (is_positive f)
