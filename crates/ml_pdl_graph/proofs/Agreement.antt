-- The game on a formula's graph agrees with the formula's meaning.
--
--   shown         == at each occurrence that stands in a graph, its nodes are won as the formula's meaning says
--   tests_shown   == and so are those of the tests of a program
--   graphs_agree  == so graphs agree with formulas
use Rattle.std.proofs.Common.{◌≡◌, ◌↔◌, ℕ, ◌+◌, ◌*◌, ◌<◌, ◌≤◌, Bool, true, false, not, sym, subst, arith}
use Rattle.std.proofs.lemmas.Bool.{not-true, not_from_false}
use Rattle.ml_base.specs.Structure.{Structure, IsStructure, is_member}
use Rattle.ml_graph.specs.Graph.{Graph, IsGraph, size}
use Rattle.ml_graph.specs.CheckingGame.{HoldsAt, Holds}
use Rattle.ml_text.specs.Operators.{weight}
use Rattle.ml_pdl.specs.Formula.{Formula, Const, Prop, Not, Binary, Modal, Repeat, Program, Act, Seq, Alt, Star, Test, occurrences, program_occurrences}
use Rattle.ml_pdl.specs.Meaning.{meaning}
use Rattle.ml_pdl.specs.Problem as problem
use Rattle.ml_pdl_graph.specs.Laws.{GraphsAgree}
use Rattle.ml_nodes.specs.Nodes.{positive, negative}
use Rattle.ml_pdl_graph.specs.PdlGraph.{diamond, box, own, dual, StandsAt, ProgramStandsAt, IsGraphOf}
use Rattle.ml_pdl_graph.proofs.Players.{tells_turned}
use Rattle.ml_pdl.proofs.SomeOccurrence.{some_occurrence}
use Rattle.ml_pdl_graph.proofs.ProgramNodes.{Tests}
use Rattle.ml_pdl_graph.proofs.Connectives.{Both, both_const, both_prop, both_not, both_binary, both_modal, both_repeat}

module _ (g : Graph) (m : Structure) (g_ok : IsGraph g) (m_ok : IsStructure m) where
  mutual
    pub shown : (f : Formula) (i : ℕ) → StandsAt g i f → 2 * (i + occurrences f) ≤ size g → Both g m g_ok m_ok i f
    shown (Const b) i w room = both_const g m g_ok m_ok b i w room
    shown (Prop p) i w room = both_prop g m g_ok m_ok p i w room
    shown (Not f) i w room = both_not g m g_ok m_ok f i w room (shown f (i + 1) w.2 (omega (arith, room)))
    shown (Binary op f h) i w room =
        both_binary g m g_ok m_ok op f h i w room (shown f (i + weight op) w.1 (omega (arith, room)))
        (shown h (i + weight op + occurrences f) w.2 (omega (arith, room)))
    shown (Modal d p f) i w room =
        let r = i + 1 + program_occurrences p in
        both_modal g m g_ok m_ok d p f i w room
        (tests_shown p (i + 1) (own d r) (dual d r) w.2 (omega (arith, room)))
        (shown f r w.3 (omega (arith, room)))
    shown (Repeat p) i w room =
        both_repeat g m g_ok m_ok p i w room (tests_shown p (i + 1) (positive i) (negative i) w.2 (omega (arith, room)))

    pub tests_shown : (p : Program) (i d b : ℕ) → ProgramStandsAt g i d b p → 2 * (i + program_occurrences p) ≤ size g
        → (e : Bool) → Tests g m g_ok m_ok e i p
    tests_shown (Act name) i d b w room e = tt
    tests_shown (Seq p q) i d b w room e = (
      tests_shown p (i + 1) (diamond (i + 1 + program_occurrences p)) (box (i + 1 + program_occurrences p)) w.2
          (omega (arith, room)) e,
      tests_shown q (i + 1 + program_occurrences p) d b w.3 (omega (arith, room)) e,
    )
    tests_shown (Alt p q) i d b w room e = (
      tests_shown p (i + 1) d b w.2 (omega (arith, room)) e,
      tests_shown q (i + 1 + program_occurrences p) d b w.3 (omega (arith, room)) e,
    )
    tests_shown (Star p) i d b w room e = tests_shown p (i + 1) (diamond i) (box i) w.2 (omega (arith, room)) e
    tests_shown (Test f) i d b w room e = shown f (i + 1) w.2 (omega (arith, room)) e

module _ (f : Formula) (g : Graph) (m : Structure) (m_ok : IsStructure m) where
  agreement : (negated : Bool) → IsGraphOf g f negated → (s : ℕ) → s < m.states
      → Holds g m s ↔ problem.HoldsAt m s f negated
  agreement false is s low =
      subst (λ n. HoldsAt g m s n ↔ (is_member (meaning m f) s ≡ true)) (sym is.root_is)
      (shown g m is.is_graph m_ok f 0 is.stands (omega (arith, is.two_for_each)) true s low)
  agreement true is s low =
      let some = some_occurrence f in
      let says : HoldsAt g m s (negative 0) ↔ (not (is_member (meaning m f) s) ≡ true) =
      tells_turned g m is.is_graph m_ok false s (negative 0) low (omega (arith, is.two_for_each, some))
      (is_member (meaning m f) s)
      (shown g m is.is_graph m_ok f 0 is.stands (omega (arith, is.two_for_each)) false s low) in
      let now = is_member (meaning m f) s in
      subst (λ n. HoldsAt g m s n ↔ (is_member (meaning m f) s ≡ false)) (sym is.root_is)
      (λ h. not-true now (says.0 h), λ e. says.1 (not_from_false now e))

pub graphs_agree : GraphsAgree
graphs_agree f negated g is m m_ok s low = agreement f g m m_ok negated is s low
