-- Formulas that are well formed but for their size, and what is made of them.
--
--   well_sound, sound_well == well formed is sound and small
--   both_sound, negation_sound, truth_sound, joined_sound == what is made of sound formulas is sound
use Rattle.std.proofs.Common.{◌≤◌, List, [], ◌∷◌, refl}
use Rattle.std.specs.List.{AllByRecursion}
use Rattle.std.proofs.lemmas.Bool.{and_from}
use Rattle.ml_text.specs.Limits.{most_occurrences}
use Rattle.ml_text.specs.Names.{IsShortName}
use Rattle.ml_lists.proofs.AllOf.{all_both}
use Rattle.ml_text.proofs.Names.{spelled_both}
use Rattle.ml_ctl.specs.FormulaNames as ctl_names
use Rattle.ml_ctl.specs.Signs as ctl_signs
use Rattle.ml_ctl.specs.Sorts.{is_linear, is_state}
use Rattle.ml_mu.specs.FormulaNames as mu_names
use Rattle.ml_mu.specs.Signs as mu_signs
use Rattle.ml_mu.specs.Variables.{is_bound, is_positive}
use Rattle.ml_pdl.specs.FormulaNames as pdl_names
use Rattle.ml_pdl.specs.Signs as pdl_signs
use Rattle.ml_front.specs.Connectives.{all_of, both, joined, negation, occurrences, truth}
use Rattle.ml_front.specs.WellFormed.{IsWellFormed}
use Rattle.ml_front.specs.declared.logic.Logic.{Logic}
use Rattle.ml_front.specs.declared.logic.Logic.TheVariants as logic
use Rattle.ml_front.specs.declared.problem.AnyFormula.{AnyFormula}
use Rattle.ml_front.specs.declared.problem.AnyFormula.TheVariants.{Mu, Pdl, Ctl, Ltl, Word}
use Rattle.ml_front.specs.private.Sound.{IsSound}

pub well_sound : (f : AnyFormula) → IsWellFormed f → IsSound f
well_sound (Mu f) well = (well.names_are_short, well.names_are_spelled, well.variables_are_bound, well.variables_are_positive)
well_sound (Pdl f) well = (well.names_are_short, well.names_are_spelled)
well_sound (Ctl f) well = (well.names_are_short, well.names_are_spelled, well.is_of_logic)
well_sound (Ltl f) well = (well.names_are_short, well.names_are_spelled, well.is_of_logic)
well_sound (Word f) well = (well.names_are_short, well.names_are_spelled, well.is_of_logic)

pub sound_well : (f : AnyFormula) → IsSound f → occurrences f ≤ most_occurrences → IsWellFormed f
sound_well (Mu f) sound small = record {
  is_small = small;
  names_are_short = sound.0;
  names_are_spelled = sound.1;
  variables_are_bound = sound.2;
  variables_are_positive = sound.3;
}
sound_well (Pdl f) sound small = record { is_small = small; names_are_short = sound.0; names_are_spelled = sound.1 }
sound_well (Ctl f) sound small =
    record { is_small = small; names_are_short = sound.0; names_are_spelled = sound.1; is_of_logic = sound.2 }
sound_well (Ltl f) sound small =
    record { is_small = small; names_are_short = sound.0; names_are_spelled = sound.1; is_of_logic = sound.2 }
sound_well (Word f) sound small =
    record { is_small = small; names_are_short = sound.0; names_are_spelled = sound.1; is_of_logic = sound.2 }

pub both_sound : (f g : AnyFormula) → IsSound f → IsSound g → IsSound (both f g)
both_sound (Mu f) (Mu g) one other = (
  all_both IsShortName (mu_names.names f) (mu_names.names g) one.0 other.0,
  spelled_both mu_signs.own (mu_names.names f) (mu_names.names g) one.1 other.1,
  and_from (is_bound [] f) (is_bound [] g) one.2 other.2,
  and_from (is_positive f) (is_positive g) one.3 other.3,
)
both_sound (Pdl f) (Pdl g) one other = (
  all_both IsShortName (pdl_names.names f) (pdl_names.names g) one.0 other.0,
  spelled_both pdl_signs.own (pdl_names.names f) (pdl_names.names g) one.1 other.1,
)
both_sound (Ctl f) (Ctl g) one other = (
  all_both IsShortName (ctl_names.names f) (ctl_names.names g) one.0 other.0,
  spelled_both ctl_signs.own (ctl_names.names f) (ctl_names.names g) one.1 other.1,
  and_from (is_state f) (is_state g) one.2 other.2,
)
both_sound (Ltl f) (Ltl g) one other = (
  all_both IsShortName (ctl_names.names f) (ctl_names.names g) one.0 other.0,
  spelled_both ctl_signs.own (ctl_names.names f) (ctl_names.names g) one.1 other.1,
  and_from (is_linear f) (is_linear g) one.2 other.2,
)
both_sound (Word f) (Word g) one other = (
  all_both IsShortName (ctl_names.names f) (ctl_names.names g) one.0 other.0,
  spelled_both ctl_signs.own (ctl_names.names f) (ctl_names.names g) one.1 other.1,
  and_from (is_linear f) (is_linear g) one.2 other.2,
)
both_sound f g one other = one

pub negation_sound : (f : AnyFormula) → IsSound f → IsSound (negation f)
negation_sound (Mu f) sound = sound
negation_sound (Pdl f) sound = sound
negation_sound (Ctl f) sound = sound
negation_sound (Ltl f) sound = sound
negation_sound (Word f) sound = sound

pub truth_sound : (l : Logic) → IsSound (truth l)
truth_sound logic.Mu = (tt, refl, refl, refl)
truth_sound logic.Pdl = (tt, refl)
truth_sound logic.Ctl = (tt, refl, refl)
truth_sound logic.Ltl = (tt, refl, refl)
truth_sound logic.Word = (tt, refl, refl)

all_sound : (f : AnyFormula) (gs : List AnyFormula) → IsSound f → AllByRecursion IsSound gs → IsSound (all_of f gs)
all_sound f [] is are = is
all_sound f (g ∷ gs) is are = all_sound (both f g) gs (both_sound f g is are.0) are.1

pub joined_sound : (l : Logic) (fs : List AnyFormula) → AllByRecursion IsSound fs → IsSound (joined l fs)
joined_sound l [] are = truth_sound l
joined_sound l (f ∷ fs) are = all_sound f fs are.0 are.1
