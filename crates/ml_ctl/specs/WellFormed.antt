-- The formulas that the program holds: those within the limits on their size and their names, whose names are spelt as
-- they must be.
--
--   IsWellFormed w f  == f is such a formula of the logic w
use Rattle.std.specs.Prelude.{◌≤◌, IsTrue}
use Rattle.ml_text.specs.Limits.{most_occurrences}
use Rattle.ml_ctl.specs.Formula.{Formula, occurrences}
use Rattle.ml_ctl.specs.Sorts.{is_of}
use Rattle.ml_ctl.specs.declared.language.Language.{Language}
use Rattle.ml_ctl.specs.Spelling.{HasShortNames, is_spelled}

pub record IsWellFormed (w : Language) (f : Formula) : Type 0 where
  pub is_small : occurrences f ≤ most_occurrences
  pub names_are_short : HasShortNames f
  pub names_are_spelled : IsTrue (is_spelled f)
  pub is_of_logic : IsTrue (is_of w f)
