-- A model that was worked out by hand: of the graph whose one node is a diamond that leads back to it.
--
-- The arena has one position, the start, with a move to itself, which is the step along the diamond; the model is one
-- state with an edge to itself. (That this arena is the graph's is not proved here.)
--
--   worked_model == this structure is the model of this graph, arena and solution
use Rattle.std.proofs.Common.{ℕ, zero, suc, ◌≡◌, ◌<◌, inl, inr, List, [], ◌∷◌, slice_get, Some, refl, sym, ap, ◌∙◌, subst, arith}
use Rattle.std.proofs.lemmas.List.Elements.{All-nil, All-cons}
use Rattle.std.specs.Cmp.Lexicographic.{slice_cmp}
use Rattle.std.specs.List.Sorted.{IsStrictlySortedBy}
use Rattle.std.specs.Ordering.{nat_cmp}
use Rattle.ml_base.specs.declared.structure.Edge.{Edge}
use Rattle.ml_base.specs.Structure.{Structure}
use Rattle.ml_kripke.specs.Ordered.{IsOrdered}
use Rattle.ml_lists.specs.Member.{IsMember}
use Rattle.ml_lists.proofs.Ascending.{ascending-one}
use Rattle.ml_graph.specs.declared.node.Node.TheVariants as node
use Rattle.ml_graph.specs.Graph.{Graph, node_at}
use Rattle.ml_parity.specs.declared.players.Player.TheVariants.{Even, Odd}
use Rattle.ml_parity.specs.Solution.{GameSolution}
use Rattle.ml_sequent.specs.LocalWalk.{LocalWalk, stays, goes, InSpread, children}
use Rattle.ml_sequent.specs.Spread.{SpreadList, IsSpreadOf, IsOpenOr}
use Rattle.ml_product.specs.Position.{start_of}
use Rattle.ml_product.specs.Arena.{Arena}
use Rattle.ml_extract.specs.Model.{Chooses, ends, State, AreStates, IsLabel, IsModelEdge, IsModelOf}
use Rattle.ml_base.proofs.Edges.{same_edge}

abbrev graph : Graph
graph = record { nodes = node.Diamond 0 0 ∷ []; priorities = 0 ∷ []; root = 0; props = []; actions = (95 ∷ []) ∷ [] }

abbrev arena : Arena
arena = record { positions = start_of graph ∷ []; owners = Odd ∷ []; moves = (0 ∷ []) ∷ [] }

abbrev solution : GameSolution
solution = record { winner = Even ∷ Odd ∷ Even ∷ []; choice = 0 ∷ 1 ∷ 2 ∷ [] }

abbrev loop : Edge
loop = record { source = 0; action = 95 ∷ []; target = 0 }

abbrev model : Structure
model = record { states = 1; labels = [] ∷ []; edges = loop ∷ [] }

abbrev spread : SpreadList
spread = record { nodes = 0 ∷ []; choice = [] }

abbrev state : State
state = record { first = 0; last = 0; spread = spread }

-- a diamond leads nowhere locally
stays_there : (n k m : ℕ) → n ≡ 0 → LocalWalk graph [] n k m → m ≡ 0
stays_there n k m is (stays _) = is
stays_there n k m is (goes _ next child walk) = absurd (subst (λ v. IsMember next (children graph [] v)) is child)

is_spread : IsSpreadOf graph (0 ∷ []) [] spread
is_spread = record { choice = refl; ascends = ascending-one 0; low = low; nodes = λ m. (there m, back m) }
  where
    low : (m : ℕ) → IsMember m (0 ∷ []) → m < 1
    low m (inl same) = omega arith
    low m (inr none) = absurd none

    there : (m : ℕ) → IsMember m (0 ∷ []) → InSpread graph [] (0 ∷ []) m
    there m (inl same) =
        subst (InSpread graph [] (0 ∷ [])) (sym same) (record {
          from = 0;
          member = inl refl;
          lowest = 0;
          walk = stays
              0;
        })
    there m (inr none) = absurd none

    back : (m : ℕ) → InSpread graph [] (0 ∷ []) m → IsMember m (0 ∷ [])
    back m s = inl (stays_there s.from s.lowest m (only s.member) s.walk)
      where
        only : IsMember s.from (0 ∷ []) → s.from ≡ 0
        only (inl same) = same
        only (inr none) = absurd none

none_open : (n : ℕ) → IsOpenOr graph spread n → ⊥
none_open n o = by_member o.member
  where
    by_member : IsMember n (0 ∷ []) → ⊥
    by_member (inl same) =
        let wrong : node.Diamond 0 0 ≡ node.Or o.is_open.left o.is_open.right = ap (node_at graph) (sym same)
        ∙ o.is_open.is_or in cc
    by_member (inr none) = absurd none

chooses : Chooses graph arena solution 0 0 spread
chooses = ends 0 spread (record { position = start_of graph; stands = refl; is_spread = is_spread }) none_open

are_states : AreStates graph arena solution (state ∷ [])
are_states = record {
  chosen = chosen;
  breadth_first = record { a_row_each = refl; in_order = refl; from_earlier = λ k some low. absurd (omega arith) };
}
  where
    chosen : (x : State) → IsMember x (state ∷ []) → Chooses graph arena solution x.first x.last x.spread
    chosen x (inl same) = subst (λ (y : State). Chooses graph arena solution y.first y.last y.spread) (sym same) chooses
    chosen x (inr none) = absurd none

-- the number and the state of what is read from the one state
record OnlyState (i : ℕ) (x : State) : Type 0 where
  pub number : i ≡ 0
  pub is : x ≡ state

only_state : (i : ℕ) (x : State) → slice_get (state ∷ []) i ≡ Some x → OnlyState i x
only_state zero x e = record { number = refl; is = let same : x ≡ state = cc in same }
only_state (suc i) x e = cc

no_label : (x : State) (name : List ℕ) → x ≡ state → IsLabel graph x name → ⊥
no_label x name is l = by_member (subst (λ (y : State). IsMember l.literal y.spread.nodes) is l.member)
  where
    by_member : IsMember l.literal (0 ∷ []) → ⊥
    by_member (inl same) = let wrong = ap (node_at graph) (sym same) ∙ l.is_positive in cc
    by_member (inr none) = absurd none

is_edge : IsModelEdge graph arena (state ∷ []) loop
is_edge = record {
  from = state;
  to = state;
  from_is = refl;
  to_is = refl;
  diamond = 0;
  leads = inl refl;
  action = 0;
  child = 0;
  is_diamond = refl;
  action_is = refl;
}

only_edge : (e : Edge) → IsModelEdge graph arena (state ∷ []) e → e ≡ loop
only_edge e k =
    same_edge e loop source.number (k.action_is ∙ by_member (subst
    (λ (y : State). IsMember (k.diamond, k.to.first) (Rattle.ml_extract.specs.Model.nexts graph arena y)) source.is
    k.leads)) target.number
  where
    source : OnlyState e.source k.from
    source = only_state e.source k.from k.from_is

    target : OnlyState e.target k.to
    target = only_state e.target k.to k.to_is

    by_member : IsMember {X = ℕ × ℕ} (k.diamond, k.to.first) ((0, 0) ∷ []) → Rattle.ml_graph.specs.Graph.action_at
        graph k.action ≡ 95 ∷ []
    by_member (inl same) =
        let diamond : k.diamond ≡ 0 = ap (λ (x : ℕ × ℕ). x.0) same in
        let is : node.Diamond 0 0 ≡ node.Diamond k.action k.child = ap (node_at graph) (sym diamond) ∙ k.is_diamond in
        let action : k.action ≡ 0 = cc in
        ap (Rattle.ml_graph.specs.Graph.action_at graph) action
    by_member (inr none) = absurd none

ordered : IsOrdered model
unfolding IsStrictlySortedBy
ordered = record {
  labels_ascend =
      All-cons (IsStrictlySortedBy (slice_cmp nat_cmp)) [] [] tt (All-nil (IsStrictlySortedBy (slice_cmp nat_cmp)));
  edges_ascend = (tt, tt);
}

pub worked_model : IsModelOf graph arena solution model 0
worked_model = record {
  states = state ∷ [];
  are_states = are_states;
  starts = refl;
  a_state_each = refl;
  labels_each = refl;
  labels = λ i x is name. labels i x is name;
  edges = λ e. (there e, (λ k. inl (only_edge e k)));
  nothing_twice = ordered;
}
  where
    labels : (i : ℕ) (x : State) → slice_get (state ∷ []) i ≡ Some x → (name : List ℕ)
        → (IsMember name (Rattle.std.specs.Prelude.slice_index_or model.labels i []) → IsLabel graph x name) ×
        (IsLabel graph x name → IsMember name (Rattle.std.specs.Prelude.slice_index_or model.labels i []))
    labels zero x is name = ((λ m. absurd m), (λ l. absurd (no_label x name (only_state zero x is).is l)))
    labels (suc i) x is name = cc

    there : (e : Edge) → IsMember e (loop ∷ []) → IsModelEdge graph arena (state ∷ []) e
    there e (inl same) = subst (IsModelEdge graph arena (state ∷ [])) (sym same) is_edge
    there e (inr none) = absurd none
