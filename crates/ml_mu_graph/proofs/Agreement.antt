-- The game on a formula's graph agrees with the formula's meaning.
--
--   agree           == at each occurrence that stands in a graph whose binders around are cut open
--   agreement       == of a whole formula: its graph holds at a state exactly where the problem does
--   graphs_agree    == so graphs agree with formulas
use Rattle.std.proofs.Common.{◌≡◌, ◌↔◌, ℕ, ◌+◌, ◌*◌, ◌<◌, Bool, true, false, [], ◌∷◌, refl, sym, subst, arith}
use Rattle.std.proofs.lemmas.Bool.{not-true, not_from_false}
use Rattle.ml_base.specs.Structure.{Structure, IsStructure, is_member}
use Rattle.ml_graph.specs.Graph.{Graph}
use Rattle.ml_graph.specs.CheckingGame.{HoldsAt, Holds}
use Rattle.ml_text.specs.Operators.{weight}
use Rattle.ml_mu.specs.Formula.{Formula, Const, Prop, Var, Not, Binary, Modal, Binder, occurrences}
use Rattle.ml_mu.specs.Meaning.{Given, meaning}
use Rattle.ml_mu.specs.Problem as problem
use Rattle.ml_mu.specs.Variables.{is_bound, is_positive}
use Rattle.ml_mu_graph.specs.Laws.{GraphsAgree}
use Rattle.ml_mu_graph.specs.MuGraph.{binders, Around, IsGraphOf}
use Rattle.ml_mu_graph.proofs.CutOpen.{cut, marked}
use Rattle.ml_mu_graph.proofs.CutSituations.{fresh, inner}
use Rattle.ml_mu_graph.proofs.Situations.{Situation, Agree, PropsAgree}
use Rattle.ml_mu_graph.proofs.Connectives.{agree_const, agree_prop, agree_var, not_inner, agree_not, left_part, right_part, agree_binary, modal_inner, agree_modal}
use Rattle.ml_mu_graph.proofs.Binding.{signed_says}

pub agree : (f : Formula) (m0 : Structure) (gs : Given) (g : Graph) (m : Structure) (k : ℕ) (bs : Around) (i : ℕ)
    → Situation m0 gs f g m k bs i → Agree m0 gs f g m i
agree (Const b) m0 gs g m k bs i w = agree_const m0 gs g m k bs i b w
agree (Prop p) m0 gs g m k bs i w = agree_prop m0 gs g m k bs i p w
agree (Var x) m0 gs g m k bs i w = agree_var m0 gs g m k bs i x w
agree (Not f) m0 gs g m k bs i w =
    agree_not m0 gs g m k bs i f w (agree f m0 gs g m k bs (i + 1) (not_inner m0 gs g m k bs i f w))
agree (Binary op f h) m0 gs g m k bs i w =
    agree_binary m0 gs g m k bs i op f h w (agree f m0 gs g m k bs (i + weight op) (left_part m0 gs g m k bs i op f h w))
    (agree h m0 gs g m k bs (i + weight op + occurrences f) (right_part m0 gs g m k bs i op f h w))
agree (Modal d a f) m0 gs g m k bs i w =
    agree_modal m0 gs g m k bs i d a f w (agree f m0 gs g m k bs (i + 1) (modal_inner m0 gs g m k bs i d a f w))
agree (Binder q x f) m0 gs g m k bs b w = record {
  holds = signed_says m0 gs q x f g m k bs b w true
      (λ V long. agree f m0 ((x, V) ∷ gs) (cut g b (fresh g m f)) (marked m (fresh g m f) V) k ((x, b) ∷ bs) (b + 1)
      (inner m0 gs q x f g m k bs b w V long));
  fails = signed_says m0 gs q x f g m k bs b w false
      (λ V long. agree f m0 ((x, V) ∷ gs) (cut g b (fresh g m f)) (marked m (fresh g m f) V) k ((x, b) ∷ bs) (b + 1)
      (inner m0 gs q x f g m k bs b w V long));
}

props_same : (m : Structure) (f : Formula) → PropsAgree m m f
props_same m (Const b) = tt
props_same m (Prop p) = λ s low. refl
props_same m (Var x) = tt
props_same m (Not f) = props_same m f
props_same m (Binary op f h) = (props_same m f, props_same m h)
props_same m (Modal d a f) = props_same m f
props_same m (Binder q x f) = props_same m f

module _ (f : Formula) (g : Graph) (m : Structure) (m_ok : IsStructure m) (bound : is_bound [] f ≡ true) (positives : is_positive f ≡ true) where
  whole : (negated : Bool) → IsGraphOf g f negated → Agree m [] f g m 0
  whole negated is = agree f m [] g m (2 * binders f) [] 0 (record {
    is_graph = is.is_graph;
    is_structure = m_ok;
    same_states = refl;
    same_edges = refl;
    props = props_same m f;
    stands = is.stands;
    told = tt;
    flags = tt;
    bound = bound;
    positives = positives;
    room = omega (arith, is.two_for_each);
    high = omega arith;
    outside = tt;
  })

  pub agreement : (negated : Bool) → IsGraphOf g f negated → (s : ℕ) → s < m.states
      → Holds g m s ↔ problem.HoldsAt m s f negated
  agreement false is s low = subst (λ n. HoldsAt g m s n ↔ (is_member (meaning m [] f) s ≡ true)) (sym is.root_is) ((whole false is).holds s low)
  agreement true is s low =
      let says = (whole true is).fails s low in
      let now = is_member (meaning m [] f) s in
      subst (λ n. HoldsAt g m s n ↔ (is_member (meaning m [] f) s ≡ false)) (sym is.root_is) (λ h. not-true now (says.0 h), λ e. says.1 (not_from_false now e))

pub graphs_agree : GraphsAgree
graphs_agree f negated g bound positives is m m_ok s low = agreement f g m m_ok bound positives negated is s low
