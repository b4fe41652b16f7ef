-- Models of Even's moves have few edges: those of one state and one action stand for different diamonds.
--
--   once_each   == edges that ascend stand there once
--   few_edges   == of each action each state of the model has at most as many edges as the graph has diamonds
use Rattle.std.proofs.Common.{ℕ, ◌≡◌, ◌<◌, ◌≤◌, ◌==◌, ◌&&◌, Bool, true, List, [], ◌∷◌, length, get_or, slice_get, Some, map, refl, sym, ap, subst, ◌∙◌, arith}
use Rattle.std.specs.List.{flat_map, filter}
use Rattle.std.specs.List.Sorted.{IsStrictlySortedBy}
use Rattle.std.specs.Str.{bytes_eq}
use Rattle.std.specs.declared.cmp.Ordering.TheVariants.{Less, Equal}
use Rattle.std.proofs.lemmas.Bool.{and_parts}
use Rattle.std.proofs.lemmas.Bool.Decides.{Decides-eqb}
use Rattle.std.proofs.lemmas.Cmp.{tied_itself}
use Rattle.std.proofs.lemmas.List.{length-map}
use Rattle.std.proofs.lemmas.List.Elements.{All-contains}
use Rattle.std.proofs.lemmas.List.Kept.{IsStrictlySortedBy-filter}
use Rattle.std.proofs.lemmas.Map.Keys.{sorted_tail}
use Rattle.std.proofs.lemmas.Map.Views.{All-after_first}
use Rattle.std.proofs.lemmas.Slice.Eq.{bytes_eq-Decides}
use Rattle.ml_base.specs.declared.structure.Edge.{Edge}
use Rattle.ml_base.specs.EdgeOrder.{edge_cmp}
use Rattle.ml_base.specs.Structure.{Structure}
use Rattle.ml_base.proofs.Edges.{same_edge}
use Rattle.ml_kripke.proofs.OneStructure.{edge_order}
use Rattle.ml_lists.specs.Member.{IsMember}
use Rattle.ml_lists.proofs.Ascending.{ascending-filter}
use Rattle.ml_lists.proofs.BreadthFirst.{AreOnce, each_once-is}
use Rattle.ml_lists.proofs.Different.{different_within}
use Rattle.ml_lists.proofs.FirstEntries.{AreApart}
use Rattle.ml_lists.proofs.Member.{member_of_get, member-filter_from}
use Rattle.ml_lists.proofs.Members.{contains_of_member}
use Rattle.ml_graph.specs.Graph.{Graph, action_at, node_at, size}
use Rattle.ml_parity.specs.Solution.{GameSolution}
use Rattle.ml_sequent.specs.Spread.{is_diamond}
use Rattle.ml_product.specs.Arena.{Arena}
use Rattle.ml_product.specs.DecisionGame.{diamonds_of}
use Rattle.ml_extract.specs.Model.{IsModelEdge, IsModelOf, State, next_positions, nexts}
use Rattle.ml_extract.specs.private.Gathered.{place_of}
use Rattle.ml_extract.proofs.GatheredParts.{first_of_state, place_is}
use Rattle.ml_extract.proofs.Numbering.{last_spread, leading_diamond}
use Rattle.ml_extract.proofs.OnlyEdge.{only_pair}
use Rattle.ml_search.specs.Found.{HasFewEdges, has_diamond, is_diamond_with}
use Rattle.ml_search.proofs.Passing.{chosen, passing, length-passing, member-passing}

-- ---- edges that ascend

not_before_itself : (e : Edge) → edge_cmp e e ≡ Less → ⊥
not_before_itself e less = let tied : edge_cmp e e ≡ Equal = tied_itself edge_order e in cc

once_each : (xs : List Edge) → IsStrictlySortedBy edge_cmp xs → AreApart xs
once_each [] up = tt
once_each (x ∷ xs) up = (
  (λ inside.
      not_before_itself x (All-contains (λ (y : Edge). edge_cmp x y ≡ Less) xs x (All-after_first edge_cmp x xs up)
      (contains_of_member x xs inside))),
  once_each xs (sorted_tail edge_cmp x xs up),
)

-- ---- edges of one state and one action

module _ (g : Graph) (a : Arena) (s : GameSolution) (m : Structure) (start : ℕ) (model : IsModelOf g a s m start)
    (state : ℕ) (name : List ℕ) where
  abbrev firsts : List ℕ
  firsts = map (λ (x : State). x.first) model.states

  once : AreOnce firsts
  once =
      subst AreOnce (sym model.are_states.breadth_first.in_order)
      (each_once-is (0 ∷ flat_map (λ r. r) (map (next_positions g a) model.states)))

  abbrev leaves : Edge → Bool
  leaves e = (e.source == state) && bytes_eq e.action name

  -- the edge is one of the state and the action, and stands for the diamond
  record StandsFor (e : Edge) (d : ℕ) : Type 0 where
    edge : IsModelEdge g a model.states e
    same : edge.diamond ≡ d
    source_is : e.source ≡ state
    action_is : e.action ≡ name

  stands_for : (e : Edge) → IsMember e (filter leaves m.edges) → (d : ℕ) × StandsFor e d
  stands_for e inside =
      let kept = member-filter_from leaves e m.edges inside in
      let both = and_parts (e.source == state) (bytes_eq e.action name) kept.1 in
      let x = (model.edges e).0 kept.0 in (
        x.diamond,
        record {
          edge = x;
          same = refl;
          source_is = (Decides-eqb e.source state).0 both.0;
          action_is = (bytes_eq-Decides e.action name).0 both.1;
        },
      )

  same_next : (x : State) → IsMember x model.states → (d v w : ℕ)
      → IsMember (d, v) (nexts g a x)
      → IsMember (d, w) (nexts g a x)
      → v ≡ w
  same_next x inside d v w leads other =
      let at = last_spread g a s x.first x.last x.spread (model.are_states.chosen x inside) in
      only_pair (diamonds_of g x.spread) (get_or a.moves x.last []) d v w
      (ascending-filter (λ n. is_diamond (node_at g n)) x.spread.nodes at.is_spread.ascends) leads other

  one_edge : (e f : Edge) (d : ℕ) → StandsFor e d → StandsFor f d → e ≡ f
  one_edge e f d x y =
      let source : e.source ≡ f.source = x.source_is ∙ sym y.source_is in
      let from : Some x.edge.from ≡ Some y.edge.from =
      sym x.edge.from_is ∙ ap (slice_get model.states) source ∙ y.edge.from_is in
      let one_state : x.edge.from ≡ y.edge.from = cc in
      let here = member_of_get model.states e.source x.edge.from x.edge.from_is in
      let leads : IsMember (d, x.edge.to.first) (nexts g a x.edge.from) =
      subst (λ (k : ℕ). IsMember (k, x.edge.to.first) (nexts g a x.edge.from)) x.same x.edge.leads in
      let other : IsMember (d, y.edge.to.first) (nexts g a x.edge.from) =
      subst (λ (z : State). IsMember (d, y.edge.to.first) (nexts g a z)) (sym one_state)
      (subst (λ (k : ℕ). IsMember (k, y.edge.to.first) (nexts g a y.edge.from)) y.same y.edge.leads) in
      same_edge e f source (x.action_is ∙ sym y.action_is)
      (sym (place_is firsts x.edge.to.first e.target once (first_of_state model.states e.target x.edge.to x.edge.to_is))
      ∙ ap (place_of firsts) (same_next x.edge.from here d x.edge.to.first y.edge.to.first leads other)
      ∙ place_is firsts y.edge.to.first f.target once (first_of_state model.states f.target y.edge.to y.edge.to_is))

  is_diamond_of : (e : Edge) (d : ℕ) → StandsFor e d → (d < size g) × (has_diamond g name d ≡ true)
  is_diamond_of e d x =
      let here = member_of_get model.states e.source x.edge.from x.edge.from_is in
      let at = last_spread g a s x.edge.from.first x.edge.from.last x.edge.from.spread
      (model.are_states.chosen x.edge.from here) in
      let i = leading_diamond g a x.edge.from x.edge.diamond x.edge.to.first x.edge.leads in
      let low : x.edge.diamond < size g = at.is_spread.low x.edge.diamond i.member in
      let named : action_at g x.edge.action ≡ name = sym x.edge.action_is ∙ x.action_is in
      let passes : has_diamond g name x.edge.diamond ≡ true =
      ap (is_diamond_with g name) x.edge.is_diamond ∙ (bytes_eq-Decides (action_at g x.edge.action) name).1 named in (
        subst (λ (k : ℕ). k < size g) x.same low,
        subst (λ (k : ℕ). has_diamond g name k ≡ true) x.same passes,
      )

  few : (ascends : IsStrictlySortedBy edge_cmp m.edges) → length (filter leaves m.edges) ≤ length (passing (has_diamond g name) (size g))
  few ascends =
      let c =
      chosen StandsFor (filter leaves m.edges) (once_each (filter leaves m.edges) (IsStrictlySortedBy-filter edge_cmp leaves m.edges ascends)) stands_for
      (λ e f d inside also. one_edge e f d) in
      let bound =
      different_within c.numbers (passing (has_diamond g name) (size g)) c.apart
      (λ d inside.
      let e = c.taken d inside in
      let is = is_diamond_of e.0 d e.1.1 in
      member-passing (has_diamond g name) (size g) d is.0 is.1) in
      omega (arith, bound, c.as_many)

pub few_edges : (g : Graph) (a : Arena) (s : GameSolution) (m : Structure) (start : ℕ) → IsModelOf g a s m start → HasFewEdges g m
few_edges g a s m start model state name =
    let bound = few g a s m start model state name model.nothing_twice.edges_ascend in
    let all = length-passing (has_diamond g name) (size g) in
    let same = length-map (filter (λ (e : Edge). (e.source == state) && bytes_eq e.action name) m.edges) (λ (e : Edge). e.target) in
    omega (arith, bound, all, same)
