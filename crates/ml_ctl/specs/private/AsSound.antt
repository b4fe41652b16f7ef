-- What a formula keeps whose propositions are replaced.
--
--   IsAsSound w f g   == as f, g has short names that are spelled as they must be, and is a formula of the language w
use Rattle.std.specs.Prelude.{IsTrue}
use Rattle.ml_ctl.specs.Formula.{Formula}
use Rattle.ml_ctl.specs.Sorts.{is_of}
use Rattle.ml_ctl.specs.Spelling.{HasShortNames, is_spelled}
use Rattle.ml_ctl.specs.declared.language.Language.{Language}

pub record IsAsSound (w : Language) (f g : Formula) : Type 0 where
  pub names_are_short : HasShortNames f → HasShortNames g
  pub names_are_spelled : IsTrue (is_spelled f) → IsTrue (is_spelled g)
  pub is_of_logic : IsTrue (is_of w f) → IsTrue (is_of w g)
