-- What a formula keeps whose propositions are replaced.
--
--   IsAsSound f g   == as f, g has short names that are spelled as they must be, and variables that are bound and positive; and
--                      each variable that occurs in f alone positively, or negatively, does so in g
use Rattle.std.specs.Prelude.{ℕ, ◌≡◌, Bool, true, List, IsTrue}
use Rattle.ml_mu.specs.Formula.{Formula}
use Rattle.ml_mu.specs.Spelling.{HasShortNames, is_spelled}
use Rattle.ml_mu.specs.Variables.{is_bound, is_positive, occurs_only}

pub record IsAsSound (f g : Formula) : Type 0 where
  pub names_are_short : HasShortNames f → HasShortNames g
  pub names_are_spelled : IsTrue (is_spelled f) → IsTrue (is_spelled g)
  pub variables_are_bound : (xs : List (List ℕ)) → is_bound xs f ≡ true → is_bound xs g ≡ true
  pub variables_occur : (sign : Bool) (x : List ℕ) → occurs_only sign x f ≡ true → occurs_only sign x g ≡ true
  pub variables_are_positive : is_positive f ≡ true → is_positive g ≡ true
