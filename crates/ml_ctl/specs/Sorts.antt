-- State formulas, and formulas of LTL.
--
--   is_state f     == is f a state formula?
--   is_linear f    == is f without quantifiers?
--   is_of w f      == is f a formula of the language w?
use Rattle.std.specs.Prelude.{Bool, true, false, ◌&&◌}
use Rattle.ml_ctl.specs.declared.language.Language.{Language}
use Rattle.ml_ctl.specs.declared.language.Language.TheVariants.{Ctl, Ltl}
use Rattle.ml_ctl.specs.Formula.{Binary, Const, Formula, Not, Paired, Prop, Quantified, Temporal}

abbrev pub is_state : Formula → Bool
is_state (Const b) = true
is_state (Prop p) = true
is_state (Not f) = is_state f
is_state (Binary op f g) = is_state f && is_state g
is_state (Temporal t f) = false
is_state (Paired p f g) = false
is_state (Quantified q f) = true

abbrev pub is_linear : Formula → Bool
is_linear (Const b) = true
is_linear (Prop p) = true
is_linear (Not f) = is_linear f
is_linear (Binary op f g) = is_linear f && is_linear g
is_linear (Temporal t f) = is_linear f
is_linear (Paired p f g) = is_linear f && is_linear g
is_linear (Quantified q f) = false

abbrev pub is_of : Language → Formula → Bool
is_of Ctl f = is_state f
is_of Ltl f = is_linear f
