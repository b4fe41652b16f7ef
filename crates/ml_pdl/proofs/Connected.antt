-- Formulas made of formulas that the program holds.
--
--   negation_is_held, conjunction_is_held == negations and conjunctions of formulas that the program holds are such formulas,
--                        where they are small enough
use Rattle.std.proofs.Common.{◌≤◌}
use Rattle.ml_text.specs.Limits.{most_occurrences}
use Rattle.ml_text.specs.Names.{IsShortName}
use Rattle.ml_text.specs.declared.token.Operator.TheVariants.{And}
use Rattle.ml_lists.proofs.AllOf.{all_both}
use Rattle.ml_text.proofs.Names.{spelled_both}
use Rattle.ml_pdl.specs.Formula.{Binary, Formula, Not, occurrences}
use Rattle.ml_pdl.specs.FormulaNames.{names}
use Rattle.ml_pdl.specs.Signs.{own}
use Rattle.ml_pdl.specs.WellFormed.{IsWellFormed}

pub negation_is_held : (f : Formula)
    → IsWellFormed f
    → occurrences (Not f) ≤ most_occurrences
    → IsWellFormed (Not f)
negation_is_held f held small = record {
  is_small = small;
  names_are_short = held.names_are_short;
  names_are_spelled = held.names_are_spelled;
}

pub conjunction_is_held : (f g : Formula)
    → IsWellFormed f
    → IsWellFormed g
    → occurrences (Binary And f g) ≤ most_occurrences
    → IsWellFormed (Binary And f g)
conjunction_is_held f g one other small = record {
  is_small = small;
  names_are_short = all_both IsShortName (names f) (names g) one.names_are_short other.names_are_short;
  names_are_spelled = spelled_both own (names f) (names g) one.names_are_spelled other.names_are_spelled;
}
