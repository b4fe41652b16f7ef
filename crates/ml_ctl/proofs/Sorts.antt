-- Texts of a logic stand for its formulas.
--
--   fits w s f    == may f stand as a formula of the sort s in texts of the logic w?
--   reads_fits    == what is read so may
--   fits_is_of, is_of_fits == the formulas of a logic are those that may stand as its texts
use Rattle.std.proofs.Common.{◌≡◌, Bool, true, false, ◌&&◌, List, refl, sym, ◌∙◌}
use Rattle.std.proofs.lemmas.Bool.{and_from, and_parts, false≢true}
use Rattle.ml_text.specs.Levels.{Level}
use Rattle.ml_ctl.specs.Formula as plain
use Rattle.ml_ctl.specs.Formula.{Formula}
use Rattle.ml_ctl.specs.Sorts.{is_state, is_linear, is_of}
use Rattle.ml_ctl.specs.declared.language.Language.{Language}
use Rattle.ml_ctl.specs.declared.language.Language.TheVariants.{Ctl, Ltl}
use Rattle.ml_ctl.specs.Grammar.{sort_of, Reads, alone, joined}
use Rattle.ml_ctl.specs.declared.language.Sort.{Sort}
use Rattle.ml_ctl.specs.declared.language.Sort.TheVariants.{State, Path}
use Rattle.ml_ctl.specs.Grammar.{pair_alone, pair, negation, temporal, quantified, group, constant, proposition}
use Rattle.ml_ctl.specs.Signs.{Sign}

abbrev pub is_path : Sort → Bool
is_path State = false
is_path Path = true

abbrev pub has_quantifiers : Language → Bool
has_quantifiers Ctl = true
has_quantifiers Ltl = false

abbrev pub fits : Language → Sort → Formula → Bool
fits w s (plain.Const b) = true
fits w s (plain.Prop p) = true
fits w s (plain.Not f) = fits w s f
fits w s (plain.Binary o f g) = fits w s f && fits w s g
fits w s (plain.Temporal t f) = is_path s && fits w s f
fits w s (plain.Paired p f g) = is_path s && (fits w s f && fits w s g)
fits w s (plain.Quantified q f) = has_quantifiers w && fits w Path f

quantifiers_stand : (w : Language) → w ≡ Ctl → has_quantifiers w ≡ true
quantifiers_stand Ctl is = refl
quantifiers_stand Ltl is = absurd (cc)

module _ {w : Language} where
  pub reads_fits : {s : Sort} {l : Level} {ts rest : List Sign} {f : Formula}
      → Reads w s l ts f rest
      → fits w s f ≡ true
  reads_fits (alone o r) = reads_fits r
  reads_fits (joined {s = s} {f = f} {g = g} o a b) = and_from (fits w s f) (fits w s g) (reads_fits a) (reads_fits b)
  reads_fits (pair_alone r) = reads_fits r
  reads_fits (pair {f = f} {g = g} p a b) = and_from (fits w Path f) (fits w Path g) (reads_fits a) (reads_fits b)
  reads_fits (negation r) = reads_fits r
  reads_fits (temporal t r) = reads_fits r
  reads_fits (quantified {f = f} q e r) = and_from (has_quantifiers w) (fits w Path f) (quantifiers_stand w e) (reads_fits r)
  reads_fits (group r) = reads_fits r
  reads_fits (constant b) = refl
  reads_fits (proposition p) = refl

-- ---- CTL*

any_path : (f : Formula) → fits Ctl Path f ≡ true
any_path (plain.Const b) = refl
any_path (plain.Prop p) = refl
any_path (plain.Not f) = any_path f
any_path (plain.Binary o f g) = and_from (fits Ctl Path f) (fits Ctl Path g) (any_path f) (any_path g)
any_path (plain.Temporal t f) = any_path f
any_path (plain.Paired p f g) = and_from (fits Ctl Path f) (fits Ctl Path g) (any_path f) (any_path g)
any_path (plain.Quantified q f) = any_path f

fits_state : (f : Formula) → fits Ctl State f ≡ true → is_state f ≡ true
fits_state (plain.Const b) is = refl
fits_state (plain.Prop p) is = refl
fits_state (plain.Not f) is = fits_state f is
fits_state (plain.Binary o f g) is =
    let parts = and_parts (fits Ctl State f) (fits Ctl State g) is in
    and_from (is_state f) (is_state g) (fits_state f parts.0) (fits_state g parts.1)
fits_state (plain.Temporal t f) is = absurd (false≢true is)
fits_state (plain.Paired p f g) is = absurd (false≢true is)
fits_state (plain.Quantified q f) is = refl

state_fits : (f : Formula) → is_state f ≡ true → fits Ctl State f ≡ true
state_fits (plain.Const b) is = refl
state_fits (plain.Prop p) is = refl
state_fits (plain.Not f) is = state_fits f is
state_fits (plain.Binary o f g) is =
    let parts = and_parts (is_state f) (is_state g) is in
    and_from (fits Ctl State f) (fits Ctl State g) (state_fits f parts.0) (state_fits g parts.1)
state_fits (plain.Temporal t f) is = absurd (false≢true is)
state_fits (plain.Paired p f g) is = absurd (false≢true is)
state_fits (plain.Quantified q f) is = any_path f

-- ---- LTL

same_linear : (f : Formula) → fits Ltl Path f ≡ is_linear f
same_linear (plain.Const b) = refl
same_linear (plain.Prop p) = refl
same_linear (plain.Not f) = same_linear f
same_linear (plain.Binary o f g) = λ i. same_linear f i && same_linear g i
same_linear (plain.Temporal t f) = same_linear f
same_linear (plain.Paired p f g) = λ i. same_linear f i && same_linear g i
same_linear (plain.Quantified q f) = refl

pub fits_is_of : (w : Language) (f : Formula) → fits w (sort_of w) f ≡ true → is_of w f ≡ true
fits_is_of Ctl f is = fits_state f is
fits_is_of Ltl f is = sym (same_linear f) ∙ is

pub is_of_fits : (w : Language) (f : Formula) → is_of w f ≡ true → fits w (sort_of w) f ≡ true
is_of_fits Ctl f is = state_fits f is
is_of_fits Ltl f is = same_linear f ∙ is
