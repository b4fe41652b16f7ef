-- Formulas made of formulas that the program holds.
--
--   proposition_is_held == a proposition is a formula of each language that the program holds
--   negation_is_held, connective_is_held == negations and connectives of formulas of a language that the program holds are such
--                        formulas, where they are small enough
--   always_is_held    == so is what holds at each moment
--   operand_is_held   == so is the operand of a quantifier in LTL, if it has no quantifier
use Rattle.std.proofs.Common.{◌≡◌, ℕ, ◌≤◌, true, List, refl, arith}
use Rattle.std.proofs.lemmas.Bool.{and_from}
use Rattle.ml_base.specs.Name.{is_name}
use Rattle.ml_text.specs.Limits.{most_occurrences}
use Rattle.ml_text.specs.Names.{IsShortName}
use Rattle.ml_text.specs.declared.token.Operator.{Operator}
use Rattle.ml_lists.proofs.AllOf.{all_both}
use Rattle.ml_text.proofs.Names.{spelled_both}
use Rattle.ml_text.proofs.WordNames.{name_length}
use Rattle.ml_ctl.specs.Enumerations.{always}
use Rattle.ml_ctl.specs.Formula.{Binary, Formula, Not, Prop, Quantified, occurrences}
use Rattle.ml_ctl.specs.FormulaNames.{names}
use Rattle.ml_ctl.specs.Signs.{own}
use Rattle.ml_ctl.specs.Sorts.{is_linear, is_of, is_state}
use Rattle.ml_ctl.specs.Spelling.{is_proposition}
use Rattle.ml_ctl.specs.WellFormed.{IsWellFormed}
use Rattle.ml_ctl.specs.declared.language.Language.{Language}
use Rattle.ml_ctl.specs.declared.language.Language.TheVariants.{Ctl, Ltl}
use Rattle.ml_ctl.specs.declared.term.Quantifier.{Quantifier}

negation_of : (w : Language) (f : Formula) → is_of w f ≡ true → is_of w (Not f) ≡ true
negation_of Ctl f is = is
negation_of Ltl f is = is

connective_of : (w : Language) (op : Operator) (f g : Formula)
    → is_of w f ≡ true
    → is_of w g ≡ true
    → is_of w (Binary op f g) ≡ true
connective_of Ctl op f g one other = and_from (is_state f) (is_state g) one other
connective_of Ltl op f g one other = and_from (is_linear f) (is_linear g) one other

proposition_of : (w : Language) (p : List ℕ) → is_of w (Prop p) ≡ true
proposition_of Ctl p = refl
proposition_of Ltl p = refl

pub proposition_is_held : (w : Language) (p : List ℕ)
    → is_name p ≡ true
    → is_proposition p ≡ true
    → IsWellFormed w (Prop p)
proposition_is_held w p name spelled = record {
  is_small = omega arith;
  names_are_short = (name_length p name, tt);
  names_are_spelled = and_from (is_proposition p) true spelled refl;
  is_of_logic = proposition_of w p;
}

pub negation_is_held : (w : Language) (f : Formula)
    → IsWellFormed w f
    → occurrences (Not f) ≤ most_occurrences
    → IsWellFormed w (Not f)
negation_is_held w f held small = record {
  is_small = small;
  names_are_short = held.names_are_short;
  names_are_spelled = held.names_are_spelled;
  is_of_logic = negation_of w f held.is_of_logic;
}

pub connective_is_held : (w : Language) (op : Operator) (f g : Formula)
    → IsWellFormed w f
    → IsWellFormed w g
    → occurrences (Binary op f g) ≤ most_occurrences
    → IsWellFormed w (Binary op f g)
connective_is_held w op f g one other small = record {
  is_small = small;
  names_are_short = all_both IsShortName (names f) (names g) one.names_are_short other.names_are_short;
  names_are_spelled = spelled_both own (names f) (names g) one.names_are_spelled other.names_are_spelled;
  is_of_logic = connective_of w op f g one.is_of_logic other.is_of_logic;
}

pub always_is_held : (w : Language) (f : Formula)
    → IsWellFormed w f
    → occurrences (always w f) ≤ most_occurrences
    → IsWellFormed w (always w f)
always_is_held Ctl f held small = record {
  is_small = small;
  names_are_short = held.names_are_short;
  names_are_spelled = held.names_are_spelled;
  is_of_logic = refl;
}
always_is_held Ltl f held small = record {
  is_small = small;
  names_are_short = held.names_are_short;
  names_are_spelled = held.names_are_spelled;
  is_of_logic = held.is_of_logic;
}

pub operand_is_held : (q : Quantifier) (f : Formula)
    → IsWellFormed Ctl (Quantified q f)
    → is_linear f ≡ true
    → IsWellFormed Ltl f
operand_is_held q f held linear = record {
  is_small = omega (arith, held.is_small);
  names_are_short = held.names_are_short;
  names_are_spelled = held.names_are_spelled;
  is_of_logic = linear;
}
