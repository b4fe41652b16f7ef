-- Formulas whose propositions are replaced are as sound as before.
--
--   itself            == a formula is as sound as itself
--   sound             == a formula that the program holds is as sound as any
--   behind_not, under_operator, behind_tense, under_pairing, behind_quantifier == so are formulas with operands that are
--   replaced_is_held  == what is as sound as a formula that the program holds, the program holds too, if it is small enough
use Rattle.std.proofs.Common.{◌≡◌, ◌≤◌, true}
use Rattle.ml_text.specs.Limits.{most_occurrences}
use Rattle.ml_text.specs.declared.token.Operator.{Operator}
use Rattle.ml_lists.proofs.BothTests.{both_keep}
use Rattle.ml_text.proofs.Names.{short_both, spelled_both_keep}
use Rattle.ml_ctl.specs.Formula.{Binary, Formula, Not, Paired, Quantified, Temporal, occurrences}
use Rattle.ml_ctl.specs.FormulaNames.{names}
use Rattle.ml_ctl.specs.Signs.{own}
use Rattle.ml_ctl.specs.Sorts.{is_linear, is_of, is_state}
use Rattle.ml_ctl.specs.WellFormed.{IsWellFormed}
use Rattle.ml_ctl.specs.declared.language.Language.{Language}
use Rattle.ml_ctl.specs.declared.language.Language.TheVariants.{Ctl, Ltl}
use Rattle.ml_ctl.specs.declared.term.Pairing.{Pairing}
use Rattle.ml_ctl.specs.declared.term.Quantifier.{Quantifier}
use Rattle.ml_ctl.specs.declared.term.Tense.{Tense}
use Rattle.ml_ctl.specs.private.AsSound.{IsAsSound}

pub itself : (w : Language) (f : Formula) → IsAsSound w f f
itself w f = record {
  names_are_short = λ short. short;
  names_are_spelled = λ spelled. spelled;
  is_of_logic = λ is. is;
}

pub sound : (w : Language) (f g : Formula) → IsWellFormed w g → IsAsSound w f g
sound w f g held = record {
  names_are_short = λ short. held.names_are_short;
  names_are_spelled = λ spelled. held.names_are_spelled;
  is_of_logic = λ is. held.is_of_logic;
}

-- ---- one operand

not_of : (w : Language) (f g : Formula)
    → (is_of w f ≡ true → is_of w g ≡ true)
    → is_of w (Not f) ≡ true
    → is_of w (Not g) ≡ true
not_of Ctl f g keeps is = keeps is
not_of Ltl f g keeps is = keeps is

pub behind_not : (w : Language) (f g : Formula) → IsAsSound w f g → IsAsSound w (Not f) (Not g)
behind_not w f g kept = record {
  names_are_short = kept.names_are_short;
  names_are_spelled = kept.names_are_spelled;
  is_of_logic = not_of w f g kept.is_of_logic;
}

tense_of : (w : Language) (t : Tense) (f g : Formula)
    → (is_of w f ≡ true → is_of w g ≡ true)
    → is_of w (Temporal t f) ≡ true
    → is_of w (Temporal t g) ≡ true
tense_of Ctl t f g keeps is = is
tense_of Ltl t f g keeps is = keeps is

pub behind_tense : (w : Language) (t : Tense) (f g : Formula)
    → IsAsSound w f g
    → IsAsSound w (Temporal t f) (Temporal t g)
behind_tense w t f g kept = record {
  names_are_short = kept.names_are_short;
  names_are_spelled = kept.names_are_spelled;
  is_of_logic = tense_of w t f g kept.is_of_logic;
}

quantifier_of : (w : Language) (q : Quantifier) (f g : Formula)
    → is_of w (Quantified q f) ≡ true
    → is_of w (Quantified q g) ≡ true
quantifier_of Ctl q f g is = is
quantifier_of Ltl q f g is = is

pub behind_quantifier : (w : Language) (q : Quantifier) (f g : Formula)
    → IsAsSound w f g
    → IsAsSound w (Quantified q f) (Quantified q g)
behind_quantifier w q f g kept = record {
  names_are_short = kept.names_are_short;
  names_are_spelled = kept.names_are_spelled;
  is_of_logic = quantifier_of w q f g;
}

-- ---- two operands

operator_of : (w : Language) (op : Operator) (f g h k : Formula)
    → (is_of w f ≡ true → is_of w g ≡ true)
    → (is_of w h ≡ true → is_of w k ≡ true)
    → is_of w (Binary op f h) ≡ true
    → is_of w (Binary op g k) ≡ true
operator_of Ctl op f g h k one other = both_keep (is_state f) (is_state h) (is_state g) (is_state k) one other
operator_of Ltl op f g h k one other = both_keep (is_linear f) (is_linear h) (is_linear g) (is_linear k) one other

pairing_of : (w : Language) (p : Pairing) (f g h k : Formula)
    → (is_of w f ≡ true → is_of w g ≡ true)
    → (is_of w h ≡ true → is_of w k ≡ true)
    → is_of w (Paired p f h) ≡ true
    → is_of w (Paired p g k) ≡ true
pairing_of Ctl p f g h k one other is = is
pairing_of Ltl p f g h k one other is =
    both_keep (is_linear f) (is_linear h) (is_linear g) (is_linear k) one other is

pub under_operator : (w : Language) (op : Operator) (f g h k : Formula)
    → IsAsSound w f g
    → IsAsSound w h k
    → IsAsSound w (Binary op f h) (Binary op g k)
under_operator w op f g h k one other = record {
  names_are_short = short_both (names f) (names g) (names h) (names k) one.names_are_short other.names_are_short;
  names_are_spelled = spelled_both_keep own (names f) (names g) (names h) (names k) one.names_are_spelled other.names_are_spelled;
  is_of_logic = operator_of w op f g h k one.is_of_logic other.is_of_logic;
}

pub under_pairing : (w : Language) (p : Pairing) (f g h k : Formula)
    → IsAsSound w f g
    → IsAsSound w h k
    → IsAsSound w (Paired p f h) (Paired p g k)
under_pairing w p f g h k one other = record {
  names_are_short = short_both (names f) (names g) (names h) (names k) one.names_are_short other.names_are_short;
  names_are_spelled = spelled_both_keep own (names f) (names g) (names h) (names k) one.names_are_spelled other.names_are_spelled;
  is_of_logic = pairing_of w p f g h k one.is_of_logic other.is_of_logic;
}

-- ---- what is held

pub replaced_is_held : (w : Language) (f g : Formula)
    → IsWellFormed w f
    → IsAsSound w f g
    → occurrences g ≤ most_occurrences
    → IsWellFormed w g
replaced_is_held w f g held kept small = record {
  is_small = small;
  names_are_short = kept.names_are_short held.names_are_short;
  names_are_spelled = kept.names_are_spelled held.names_are_spelled;
  is_of_logic = kept.is_of_logic held.is_of_logic;
}
