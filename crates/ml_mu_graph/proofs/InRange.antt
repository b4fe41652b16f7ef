-- The lists of a formula make a graph: every number in them is in range.
--
--   nodes_fit        == the numbers of a formula's nodes are in range
--   lists_make_graph == so the lists of a formula make a graph
use Rattle.std.proofs.Common.{◌≡◌, ℕ, ◌+◌, ◌*◌, ◌<◌, ◌≤◌, Bool, true, false, not, if◌then◌else◌, List, [], ◌++◌, length, bytes_eq, sym, ◌∙◌, ap, subst, ⊎_elim, arith}
use Rattle.std.specs.List.{IsDistinct}
use Rattle.std.proofs.lemmas.Bool.{cases_Bool, cond-true, cond-false}
use Rattle.ml_graph.specs.Graph.{Graph, IsGraph, size}
use Rattle.ml_text.specs.Operators.{weight}
use Rattle.ml_text.specs.NameLists.{place_of}
use Rattle.ml_text.specs.Names.{Proposition, Action, of_kind}
use Rattle.ml_text.proofs.NameLists.{distinct_names, place_found}
use Rattle.ml_text.proofs.Names.{AreAmong, among_parts, names_among}
use Rattle.ml_mu.specs.Formula.{Formula, Const, Prop, Var, Not, Binary, Modal, Binder, occurrences}
use Rattle.ml_mu.specs.FormulaNames.{names}
use Rattle.ml_mu.specs.declared.term.Modality.{Modality}
use Rattle.ml_mu.specs.declared.term.Modality.TheVariants.{Diamond, Square}
use Rattle.ml_nodes.specs.Nodes.{negative, positive}
use Rattle.ml_mu_graph.specs.MuGraph.{binders, dual, modality}
use Rattle.ml_nodes.specs.private.Connectives.{operator_nodes}
use Rattle.ml_nodes.proofs.InRange.{AllFit, both_fit, constant_fits, Fits, fitting_graph, led_fit, none_twice, one, operator_fits, two}
use Rattle.ml_mu_graph.specs.private.NodeList.{bound, nodes_of, priorities_of, props_onto, actions_onto}
use Rattle.ml_mu_graph.specs.private.Views.{none_around}
use Rattle.ml_mu.proofs.SomeOccurrence.{some_occurrence}
use Rattle.ml_mu_graph.proofs.NodeLists.{length-nodes, length-priorities}

module _ (n : ℕ) (ps acts : List (List ℕ)) where
  modality_fits : (m : Modality) (a t : ℕ) → a < length acts → t < n → Fits n ps acts (modality m a t)
  modality_fits Diamond a t known low = two a (length acts) t n known low
  modality_fits Square a t known low = two a (length acts) t n known low

  -- the nodes of all binders around are nodes
  abbrev Bounds : (List ℕ → ℕ) → Type 0
  Bounds b = (x : List ℕ) → 2 * b x + 1 < n

  one_more : (y : List ℕ) (i : ℕ) (b : List ℕ → ℕ) → 2 * i + 1 < n → Bounds b → Bounds (bound y i b)
  one_more y i b low around x =
      ⊎_elim
      (λ (here : bytes_eq y x ≡ true). subst (λ k. 2 * k + 1 < n) (sym (cond-true (bytes_eq y x) i (b x) here)) low)
      (λ (other : bytes_eq y x ≡ false).
      subst (λ k. 2 * k + 1 < n) (sym (cond-false (bytes_eq y x) i (b x) other)) (around x))
      (cases_Bool (bytes_eq y x))

  pub nodes_fit : (b : List ℕ → ℕ) (i : ℕ) (f : Formula)
      → AreAmong ps acts (names f)
      → 2 * (i + occurrences f) ≤ n
      → Bounds b
      → AllFit n ps acts (nodes_of ps acts b i f)
  nodes_fit b i (Const v) among room around = (constant_fits n ps acts v, (constant_fits n ps acts (not v), tt))
  nodes_fit b i (Prop p) among room around =
      let found = place_found ps p among.0.0 in
      (one (place_of ps p) (length ps) found.below, (one (place_of ps p) (length ps) found.below, tt))
  nodes_fit b i (Var x) among room around =
      let low = around x in
      led_fit n ps acts (positive (b x)) (negative (b x)) [] (omega (arith, low)) (omega (arith, low)) tt
  nodes_fit b i (Not f) among room around =
      let some = some_occurrence f in
      led_fit n ps acts (negative (i + 1)) (positive (i + 1)) (nodes_of ps acts b (i + 1) f)
      (omega (arith, room, some)) (omega (arith, room, some))
      (nodes_fit b (i + 1) f among (omega (arith, room)) around)
  nodes_fit b i (Binary op f h) among room around =
      let parts = among_parts ps acts (names f) (names h) among in
      let l = i + weight op in
      let r = l + occurrences f in
      let left = some_occurrence f in
      let right = some_occurrence h in
      both_fit n ps acts (operator_nodes op i l r) (nodes_of ps acts b l f ++ nodes_of ps acts b r h)
      (operator_fits n ps acts op i l r (omega (arith, room)) (omega (arith, room, left, right)) (omega (arith, room, left, right)))
      (both_fit n ps acts (nodes_of ps acts b l f) (nodes_of ps acts b r h) (nodes_fit b l f parts.0 (omega (arith, room)) around)
      (nodes_fit b r h parts.1 (omega (arith, room)) around))
  nodes_fit b i (Modal m a f) among room around =
      let some = some_occurrence f in
      let known = (place_found acts a among.1.0).below in (
        modality_fits m (place_of acts a) (positive (i + 1)) known (omega (arith, room, some)),
        (
          modality_fits (dual m) (place_of acts a) (negative (i + 1)) known (omega (arith, room, some)),
          nodes_fit b (i + 1) f (among.0, among.1.1) (omega (arith, room)) around,
        ),
      )
  nodes_fit b i (Binder q x f) among room around =
      let some = some_occurrence f in
      led_fit n ps acts (positive (i + 1)) (negative (i + 1)) (nodes_of ps acts (bound x i b) (i + 1) f)
      (omega (arith, room, some)) (omega (arith, room, some))
      (nodes_fit (bound x i b) (i + 1) f among (omega (arith, room))
      (one_more x i b (omega (arith, room, some)) around))

pub lists_make_graph : (g : Graph) (f : Formula) (negated : Bool)
    → g.props ≡ props_onto f []
    → g.actions ≡ actions_onto f []
    → g.nodes ≡ nodes_of g.props g.actions none_around 0 f
    → g.priorities ≡ priorities_of (2 * binders f) 0 f
    → g.root ≡ (if negated then 1 else 0)
    → IsGraph g
lists_make_graph g f negated props actions nodes priorities root =
    let n = size g in
    let long : n ≡ 2 * occurrences f = ap length nodes ∙ length-nodes g.props g.actions none_around 0 f in
    let some = some_occurrence f in
    let among = names_among (names f) props actions in
    let fit =
    nodes_fit n g.props g.actions none_around 0 f among (omega (arith, long)) (λ x. omega (arith, long, some)) in
    fitting_graph g negated (omega (arith, long, some))
    (ap length priorities ∙ length-priorities (2 * binders f) 0 f ∙ sym long)
    (subst (AllFit n g.props g.actions) (sym nodes) fit) root
    (subst (IsDistinct bytes_eq) (sym props) (distinct_names [] (of_kind Proposition (names f)) none_twice))
    (subst (IsDistinct bytes_eq) (sym actions) (distinct_names [] (of_kind Action (names f)) none_twice))
