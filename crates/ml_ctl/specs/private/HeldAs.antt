-- What the program makes of formulas.
--
--   IsHeldAs f x   == x is the formula f, and None exactly where f has more than 1,000 occurrences
use Rattle.std.specs.Prelude.{◌≡◌, ◌<◌, MatchOption, Option}
use Rattle.ml_text.specs.Limits.{most_occurrences}
use Rattle.ml_ctl.specs.Formula.{Formula, occurrences}

abbrev pub IsHeldAs : Formula → Option Formula → Type 0
IsHeldAs f x = MatchOption x (most_occurrences < occurrences f) (λ g. g ≡ f)
