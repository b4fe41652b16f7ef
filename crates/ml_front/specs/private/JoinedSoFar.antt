-- What is joined of the first ones of some formulas.
--
--   IsJoined l fs x  == x is the formulas fs joined, and None where there is none
--   IsWith x g y     == y is g alone where x is None, and else the conjunction of both, or None where that is too large
use Rattle.std.specs.Prelude.{◌≡◌, ◌<◌, List, [], MatchOption, Option, Some, None}
use Rattle.ml_text.specs.Limits.{most_occurrences}
use Rattle.ml_front.specs.Connectives.{both, joined, occurrences}
use Rattle.ml_front.specs.declared.logic.Logic.{Logic}
use Rattle.ml_front.specs.declared.problem.AnyFormula.{AnyFormula}

abbrev pub IsJoined : Logic → List AnyFormula → Option AnyFormula → Type 0
IsJoined l fs None = fs ≡ []
IsJoined l fs (Some f) = (f ≡ joined l fs) × ¬ (fs ≡ [])

abbrev pub IsWith : Option AnyFormula → AnyFormula → Option AnyFormula → Type 0
IsWith x g y =
    MatchOption x (y ≡ Some g) (λ f. MatchOption y (most_occurrences < occurrences (both f g)) (λ h. h ≡ both f g))
