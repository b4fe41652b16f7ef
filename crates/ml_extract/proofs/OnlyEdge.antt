-- Where the graph has one diamond at most, a state of the model has one edge at most.
--
--   only_pair == a list that ascends is put together with one value for each of its numbers
--   only_edge == so edges from one state lead to one state
use Rattle.std.proofs.Common.{ℕ, ◌≡◌, List, [], ◌∷◌, get_or, slice_get, Some, map, inl, inr, sym, ap, ◌∙◌, subst, arith}
use Rattle.std.specs.List.{flat_map, zip}
use Rattle.ml_base.specs.declared.structure.Edge.{Edge}
use Rattle.ml_base.specs.Structure.{Structure}
use Rattle.ml_lists.specs.Ascending.{IsAscending}
use Rattle.ml_lists.specs.Member.{IsMember}
use Rattle.ml_lists.proofs.Ascending.{ascending-filter}
use Rattle.ml_lists.proofs.BreadthFirst.{AreOnce, each_once-is}
use Rattle.ml_lists.proofs.Member.{member_of_get}
use Rattle.ml_graph.specs.Diamonds.{HasOneDiamond}
use Rattle.ml_graph.specs.Graph.{Graph, node_at}
use Rattle.ml_parity.specs.Solution.{GameSolution}
use Rattle.ml_sequent.specs.Spread.{is_diamond}
use Rattle.ml_product.specs.Arena.{Arena}
use Rattle.ml_product.specs.DecisionGame.{diamonds_of}
use Rattle.ml_extract.specs.Model.{IsModelEdge, IsModelOf, State, next_positions, nexts}
use Rattle.ml_extract.specs.private.Gathered.{place_of}
use Rattle.ml_extract.proofs.GatheredParts.{first_of_state, place_is}
use Rattle.ml_extract.proofs.Numbering.{last_spread, leading_diamond, zip_first}

pub only_pair : (ds vs : List ℕ) (d v w : ℕ) → IsAscending ds → IsMember (d, v) (zip ds vs) → IsMember (d, w) (zip ds vs) → v ≡ w
only_pair [] vs d v w up one other = absurd one
only_pair (e ∷ ds) [] d v w up one other = absurd one
only_pair (e ∷ ds) (u ∷ vs) d v w up (inl first) (inl again) =
    ap (λ (x : ℕ × ℕ). x.1) first ∙ sym (ap (λ (x : ℕ × ℕ). x.1) again)
only_pair (e ∷ ds) (u ∷ vs) d v w up (inl first) (inr later) =
    absurd (omega (arith, up.0 d (zip_first ds vs d w later), ap (λ (x : ℕ × ℕ). x.0) first))
only_pair (e ∷ ds) (u ∷ vs) d v w up (inr later) (inl again) =
    absurd (omega (arith, up.0 d (zip_first ds vs d v later), ap (λ (x : ℕ × ℕ). x.0) again))
only_pair (e ∷ ds) (u ∷ vs) d v w up (inr one) (inr other) = only_pair ds vs d v w up.1 one other

module _ (g : Graph) (a : Arena) (s : GameSolution) (m : Structure) (start : ℕ) (model : IsModelOf g a s m start)
    (one : HasOneDiamond g) where
  abbrev firsts : List ℕ
  firsts = map (λ (x : State). x.first) model.states

  once : AreOnce firsts
  once =
      subst AreOnce (sym model.are_states.breadth_first.in_order)
      (each_once-is (0 ∷ flat_map (λ r. r) (map (next_positions g a) model.states)))

  -- the diamonds of two pairs are one
  same_diamond : (x y : State) → IsMember x model.states → IsMember y model.states → (d e v w : ℕ)
      → IsMember (d, v) (nexts g a x)
      → IsMember (e, w) (nexts g a y)
      → d ≡ e
  same_diamond x y inside also d e v w leads other =
      let i = leading_diamond g a x d v leads in
      let j = leading_diamond g a y e w other in
      let at = last_spread g a s x.first x.last x.spread (model.are_states.chosen x inside) in
      let to = last_spread g a s y.first y.last y.spread (model.are_states.chosen y also) in
      one d e i.action j.action i.child j.child (at.is_spread.low d i.member) (to.is_spread.low e j.member) i.is j.is

  same_next : (x : State) → IsMember x model.states → (d e v w : ℕ)
      → IsMember (d, v) (nexts g a x)
      → IsMember (e, w) (nexts g a x)
      → v ≡ w
  same_next x inside d e v w leads other =
      let at = last_spread g a s x.first x.last x.spread (model.are_states.chosen x inside) in
      let same = same_diamond x x inside inside d e v w leads other in
      only_pair (diamonds_of g x.spread) (get_or a.moves x.last []) e v w
      (ascending-filter (λ n. is_diamond (node_at g n)) x.spread.nodes at.is_spread.ascends)
      (subst (λ k. IsMember (k, v) (nexts g a x)) same leads) other

  -- an edge leads to the place of the position to which it leads
  target_is : (e : Edge) (x : IsModelEdge g a model.states e) → e.target ≡ place_of firsts x.to.first
  target_is e x = sym (place_is firsts x.to.first e.target once (first_of_state model.states e.target x.to x.to_is))

  pub only_edge : (e f : Edge) → IsMember e m.edges → IsMember f m.edges → e.source ≡ f.source → e.target ≡ f.target
  only_edge e f inside also same =
      let x = (model.edges e).0 inside in
      let y = (model.edges f).0 also in
      let from : Some x.from ≡ Some y.from = sym x.from_is ∙ ap (slice_get model.states) same ∙ y.from_is in
      let one_state : x.from ≡ y.from = cc in
      let here = member_of_get model.states e.source x.from x.from_is in
      target_is e x
      ∙ ap (place_of firsts)
      (same_next x.from here x.diamond y.diamond x.to.first y.to.first x.leads
      (subst (λ z. IsMember (y.diamond, y.to.first) (nexts g a z)) (sym one_state) y.leads))
      ∙ sym (target_is f y)
