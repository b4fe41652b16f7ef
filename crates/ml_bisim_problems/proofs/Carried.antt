-- Problems hold at classes where they hold at states.
--
--   step_edge, edge_step == a step of a path is an edge by the action `_`
--   step_of_state        == from a class lead the steps of each of its states; so the quotient of a word is one
--   admitted_kept        == where a logic speaks of a structure, it speaks of the quotient
--   finite_closure       == the closure of a problem is finite
--   problems_carried     == the graph of a problem holds where the problem does, in the structure and in the quotient
use Rattle.std.proofs.Common.{ℕ, ◌≡◌, ◌<◌, ◌==◌, ◌&&◌, ◌↔◌, ◌⊎◌, inl, inr, Bool, true, List, Contains, codes, sym, ap, ◌∙◌, subst, refl}
use Rattle.std.proofs.lemmas.Bool.{and_parts, and_from, eqb-true, eq-eqb}
use Rattle.ml_base.specs.declared.structure.Edge.{Edge}
use Rattle.ml_base.specs.Structure.{Structure, IsStructure}
use Rattle.ml_lists.proofs.Member.{Passing, list_any-member, member-list_any}
use Rattle.ml_lists.proofs.Members.{member_of_contains, contains_of_member}
use Rattle.ml_bisim.specs.Bisimilar.{Bisimilar, HasEdge}
use Rattle.ml_bisim.specs.Quotient.{IsQuotientOf, class_of}
use Rattle.ml_bisim.proofs.Carrying.{graphs_carried}
use Rattle.ml_bisim.proofs.Classes.{class_edge, class_low, edge_from, from_leaves, leaves, leaves_from, some_state}
use Rattle.ml_blocks.proofs.FiniteClosures.{closures_are_finite}
use Rattle.ml_blocks.proofs.SaidItems.{step_states}
use Rattle.ml_ctl.specs.Paths.{IsTotal, has_step}
use Rattle.ml_graph.specs.Graph.{Graph}
use Rattle.ml_word_graph.specs.Problem as word
use Rattle.ml_word_graph.specs.Problem.{HasOneStep}
use Rattle.ml_graph.proofs.References.{root_in_range}
use Rattle.ml_front.specs.Graphs.{HasLargeClosure, HasLargeClosureAs, IsGraphAs}
use Rattle.ml_front.specs.Logics.{logic_of}
use Rattle.ml_front.specs.Problems.{HoldsAt, IsAdmitted}
use Rattle.ml_front.specs.declared.logic.Logic.{Logic}
use Rattle.ml_front.specs.declared.logic.Logic.TheVariants as logic
use Rattle.ml_front.specs.declared.problem.AnyFormula.{AnyFormula}
use Rattle.ml_front.specs.declared.problem.AnyFormula.TheVariants.{Mu, Pdl, Ctl, Ltl, Word}
use Rattle.ml_front.proofs.Graphs.{graph_is, graphs_agree, is_structure}
use Rattle.ml_front.proofs.SomeGraph.{some_graph}
use Rattle.ml_bisim_problems.specs.Laws.{AdmittedKept, ProblemsCarried}

abbrev blank : List ℕ
blank = codes "_"

abbrev goes : ℕ → ℕ → Edge → Bool
goes s t e = leaves s blank e && (e.target == t)

step_edge : (m : Structure) (s t : ℕ) → has_step m s t ≡ true → HasEdge m s blank t
step_edge m s t is = of_passing (list_any-member (goes s t) m.edges is)
  where
    of_passing : Passing (goes s t) m.edges → HasEdge m s blank t
    of_passing found =
        let both = and_parts (leaves s blank found.item) (found.item.target == t) found.passes in
        subst (λ e. Contains m.edges e)
        (leaves_from s blank found.item both.0 ∙ ap (edge_from s blank) (eqb-true found.item.target t both.1))
        (contains_of_member found.item m.edges found.member)

edge_step : (m : Structure) (s t : ℕ) → HasEdge m s blank t → has_step m s t ≡ true
edge_step m s t edge =
    member-list_any (goes s t) (edge_from s blank t) m.edges (member_of_contains (edge_from s blank t) m.edges edge)
    (and_from (leaves s blank (edge_from s blank t)) (t == t) (from_leaves s blank t) (eq-eqb t t refl))

module _ (m q : Structure) (class : List ℕ) (m_ok : IsStructure m) (quotient : IsQuotientOf m class q) where
  total_too : IsTotal m → IsTotal q
  total_too total c low =
      let s = some_state m q class m_ok quotient c low in
      let step = total s.0 s.1 in
      let edge = class_edge m q class m_ok quotient s.0 blank step.0 (step_edge m s.0 step.0 step.1) in (
        class_of class step.0,
        edge_step q c (class_of class step.0)
            (subst (λ d. HasEdge q d blank (class_of class step.0)) s.2 edge),
      )

  -- from a class lead the steps of each of its states
  step_of_state : (s c d : ℕ) → s < m.states → class_of class s ≡ c → has_step q c d ≡ true
      → (t : ℕ) × (has_step m s t ≡ true) × (class_of class t ≡ d)
  step_of_state s c d low is step =
      let edge = (quotient.edges c blank d).0 (step_edge q c d step) in
      let away = edge_step m edge.0 edge.1 edge.2 in
      let lows = step_states m m_ok edge.0 edge.1 away in
      let alike = (quotient.classes.bisimilar edge.0 s lows.0 low).0 (edge.3 ∙ sym is) in
      let matched = alike.is_bisimulation.forth edge.0 s alike.joined blank edge.1 edge.2 in
      let there = edge_step m s matched.0 matched.1 in
      let to = step_states m m_ok s matched.0 there in
      let same : Bisimilar m edge.1 matched.0 =
      record { relation = alike.relation; is_bisimulation = alike.is_bisimulation; joined = matched.2 } in
      (matched.0, there, sym ((quotient.classes.bisimilar edge.1 matched.0 lows.1 to.1).1 same) ∙ edge.4)

  word_too : word.IsAdmitted m → (c : ℕ) → c < q.states → HasOneStep q c
  word_too admitted c low =
      let s = some_state m q class m_ok quotient c low in
      let one = admitted.one_step s.0 s.1 in
      let edge = class_edge m q class m_ok quotient s.0 blank one.target (step_edge m s.0 one.target one.leads) in
      record {
        target = class_of class one.target;
        leads = edge_step q c (class_of class one.target) (subst (λ d. HasEdge q d blank (class_of class one.target)) s.2 edge);
        only = λ d step.
            let t = step_of_state s.0 c d s.1 s.2 step in
            sym t.2 ∙ ap (class_of class) (one.only t.0 t.1);
      }

  pub kept : (l : Logic) → IsAdmitted l m → IsAdmitted l q
  kept logic.Mu admitted = quotient.is_structure
  kept logic.Pdl admitted = quotient.is_structure
  kept logic.Ctl admitted = record { is_structure = quotient.is_structure; is_total = total_too admitted.is_total }
  kept logic.Ltl admitted = record { is_structure = quotient.is_structure; is_total = total_too admitted.is_total }
  kept logic.Word admitted = record { is_structure = quotient.is_structure; one_step = word_too admitted }

pub admitted_kept : AdmittedKept
admitted_kept m q class m_ok quotient l admitted = kept m q class m_ok quotient l admitted

finite_closure : (negated : Bool) (f : AnyFormula) → (n : ℕ) × (¬ (HasLargeClosureAs n negated f))
finite_closure negated (Mu f) = (0, λ none. absurd none)
finite_closure negated (Pdl f) = (0, λ none. absurd none)
finite_closure negated (Ctl f) = (closures_are_finite f negated).0
finite_closure negated (Ltl f) = (closures_are_finite f negated).1
finite_closure negated (Word f) = (0, λ none. absurd none)

pub problems_carried : ProblemsCarried
problems_carried m q class quotient p meaningful admitted s low =
    by_graph (finite_closure p.negated p.formula) (some_graph (finite_closure p.negated p.formula).0 p.negated p.formula)
  where
    m_ok : IsStructure m
    m_ok = is_structure (logic_of p.formula) m admitted

    by_graph : (finite : (n : ℕ) × (¬ (HasLargeClosure p n)))
        → ((g : Graph) × IsGraphAs g p.negated p.formula × (¬ (HasLargeClosure p finite.0))) ⊎ HasLargeClosure p finite.0
        → HoldsAt m s p ↔ HoldsAt q (class_of class s) p
    by_graph finite (inr large) = absurd (finite.1 large)
    by_graph finite (inl (g, is, none)) =
        let g_ok = graph_is g p.negated p.formula is in
        let here = graphs_agree p g meaningful is m admitted s low in
        let there = graphs_agree p g meaningful is q (kept m q class m_ok quotient (logic_of p.formula) admitted)
        (class_of class s) (class_low m q class m_ok quotient s low) in
        let both = graphs_carried m q class m_ok quotient g g_ok s g.root low (root_in_range g g_ok) in
        ((λ h. there.0 (both.0 (here.1 h))), (λ h. here.0 (both.1 (there.1 h))))
