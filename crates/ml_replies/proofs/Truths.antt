-- Where formulas are true, and formulas that are joined.
--
--   Truth m s p f   == the formula f is true at the state s, in LTL and on words along the path p
--   both_truth, both_parts == `f & g` is true where both are
--   joined_truth, joined_parts == joined formulas are true where each of them is
use Rattle.std.proofs.Common.{◌≡◌, ℕ, ◌<◌, true, false, ◌&&◌, List, [], ◌∷◌, refl, sym, ◌∙◌}
use Rattle.std.specs.List.{AllByRecursion}
use Rattle.std.proofs.lemmas.Bool.{and_from, and_parts}
use Rattle.ml_lists.specs.Lasso.{Lasso}
use Rattle.ml_base.specs.Structure.{Structure, is_member}
use Rattle.ml_base.proofs.StateSets.{member_where}
use Rattle.ml_ctl.specs.Meaning as ctl_meaning
use Rattle.ml_ctl.specs.Problem as ctl
use Rattle.ml_mu.specs.Meaning as mu_meaning
use Rattle.ml_mu.specs.Problem as mu
use Rattle.ml_pdl.specs.Meaning as pdl_meaning
use Rattle.ml_pdl.specs.Problem as pdl
use Rattle.ml_front.specs.Connectives.{all_of, both, joined, truth, AreOf}
use Rattle.ml_front.specs.Logics.{logic_of}
use Rattle.ml_front.specs.declared.logic.Logic.{Logic}
use Rattle.ml_front.specs.declared.logic.Logic.TheVariants as logic
use Rattle.ml_front.specs.declared.problem.AnyFormula.{AnyFormula}
use Rattle.ml_front.specs.declared.problem.AnyFormula.TheVariants.{Mu, Pdl, Ctl, Ltl, Word}
use Rattle.ml_front.proofs.Connected.{both_logic}

module _ (m : Structure) (s : ℕ) (below : s < m.states) (p : Lasso) where
  abbrev pub Truth : AnyFormula → Type 0
  Truth (Mu f) = mu.HoldsAt m s f false
  Truth (Pdl f) = pdl.HoldsAt m s f false
  Truth (Ctl f) = ctl.HoldsAt m s f false
  Truth (Ltl f) = ctl_meaning.Satisfies m p f
  Truth (Word f) = ctl_meaning.Satisfies m p f

  both_parts : (f g : AnyFormula) → logic_of f ≡ logic_of g → Truth (both f g) → Truth f × Truth g
  both_parts (Mu f) (Mu g) e is =
      let F = is_member (mu_meaning.meaning m [] f) in
      let G = is_member (mu_meaning.meaning m [] g) in
      and_parts (F s) (G s) (sym (member_where m (λ t. F t && G t) s below) ∙ is)
  both_parts (Pdl f) (Pdl g) e is =
      let F = is_member (pdl_meaning.meaning m f) in
      let G = is_member (pdl_meaning.meaning m g) in
      and_parts (F s) (G s) (sym (member_where m (λ t. F t && G t) s below) ∙ is)
  both_parts (Ctl f) (Ctl g) e is = is
  both_parts (Ltl f) (Ltl g) e is = is
  both_parts (Word f) (Word g) e is = is
  both_parts f g e is = cc

  both_truth : (f g : AnyFormula) → logic_of f ≡ logic_of g → Truth f → Truth g → Truth (both f g)
  both_truth (Mu f) (Mu g) e one other =
      let F = is_member (mu_meaning.meaning m [] f) in
      let G = is_member (mu_meaning.meaning m [] g) in
      member_where m (λ t. F t && G t) s below ∙ and_from (F s) (G s) one other
  both_truth (Pdl f) (Pdl g) e one other =
      let F = is_member (pdl_meaning.meaning m f) in
      let G = is_member (pdl_meaning.meaning m g) in
      member_where m (λ t. F t && G t) s below ∙ and_from (F s) (G s) one other
  both_truth (Ctl f) (Ctl g) e one other = (one, other)
  both_truth (Ltl f) (Ltl g) e one other = (one, other)
  both_truth (Word f) (Word g) e one other = (one, other)
  both_truth f g e one other = cc

  pub truth_is : (l : Logic) → Truth (truth l)
  truth_is logic.Mu = member_where m (λ t. true) s below
  truth_is logic.Pdl = member_where m (λ t. true) s below
  truth_is logic.Ctl = refl
  truth_is logic.Ltl = refl
  truth_is logic.Word = refl

  all_parts : (l : Logic) (f : AnyFormula) (gs : List AnyFormula)
      → logic_of f ≡ l
      → AreOf l gs
      → Truth (all_of f gs)
      → Truth f × AllByRecursion Truth gs
  all_parts l f [] is are holds = (holds, tt)
  all_parts l f (g ∷ gs) is are holds =
      let rest = all_parts l (both f g) gs (both_logic f g ∙ is) are.1 holds in
      let here = both_parts f g (is ∙ sym are.0) rest.0 in
      (here.0, (here.1, rest.1))

  all_truth : (l : Logic) (f : AnyFormula) (gs : List AnyFormula)
      → logic_of f ≡ l
      → AreOf l gs
      → Truth f
      → AllByRecursion Truth gs
      → Truth (all_of f gs)
  all_truth l f [] is are one others = one
  all_truth l f (g ∷ gs) is are one others =
      all_truth l (both f g) gs (both_logic f g ∙ is) are.1 (both_truth f g (is ∙ sym are.0) one others.0) others.1

  pub joined_parts : (l : Logic) (fs : List AnyFormula) → AreOf l fs → Truth (joined l fs) → AllByRecursion Truth fs
  joined_parts l [] are holds = tt
  joined_parts l (f ∷ fs) are holds = all_parts l f fs are.0 are.1 holds

  pub joined_truth : (l : Logic) (fs : List AnyFormula) → AreOf l fs → AllByRecursion Truth fs → Truth (joined l fs)
  joined_truth l [] are each = truth_is l
  joined_truth l (f ∷ fs) are each = all_truth l f fs are.0 are.1 each.0 each.1
