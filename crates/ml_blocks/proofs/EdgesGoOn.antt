-- Where the graph of a problem holds, each state that is reached has an edge by the action `_`.
--
--   edge_step   == an edge by `_` is a step
--   step_edge   == and a step goes along an edge
--   asks        == the root of a problem asks for edges
--   edges_go_on == the law
use Rattle.std.proofs.Common.{ℕ, ◌≡◌, ◌<◌, true, codes, bytes_eq, ◌==◌, ◌&&◌, refl, eq-eqb, eqb-true}
use Rattle.std.proofs.lemmas.Bool.{and_from, and_parts}
use Rattle.std.proofs.lemmas.Slice.Eq.{bytes_eq-Decides}
use Rattle.ml_lists.specs.Member.{IsMember}
use Rattle.ml_lists.proofs.Member.{list_any-member, member-list_any}
use Rattle.ml_base.specs.declared.structure.Edge.{Edge}
use Rattle.ml_base.specs.Structure.{Structure, IsStructure}
use Rattle.ml_graph.specs.CheckingGame.{Holds}
use Rattle.ml_graph.specs.Graph.{Graph}
use Rattle.ml_nodes.proofs.ClosureNodes.{AsksForEdges, IsAsked, asked_first, asked_behind, has_target}
use Rattle.ml_ctl.specs.Paths.{has_step}
use Rattle.ml_blocks.specs.BlockGraph.{IsGraphAt}
use Rattle.ml_blocks.specs.EdgesGoOn.{EdgesGoOn, IsReachedByStep, itself, along}
use Rattle.ml_blocks.specs.Places.{Place, Root, Total, HasEdge, LeadsOn, True, forms}
use Rattle.ml_blocks.proofs.PlaceVertices.{step_target, target_step}
use Rattle.ml_blocks.proofs.SaidItems.{step_states}

-- an edge by the action `_` is a step
pub edge_step : (m : Structure) (e : Edge)
    → IsMember e m.edges
    → e.action ≡ codes "_"
    → has_step m e.source e.target ≡ true
edge_step m e inside named =
    member-list_any (λ x. ((x.source == e.source) && bytes_eq x.action (codes "_")) && (x.target == e.target)) e m.edges
    inside
    (and_from ((e.source == e.source) && bytes_eq e.action (codes "_")) (e.target == e.target)
    (and_from (e.source == e.source) (bytes_eq e.action (codes "_")) (eq-eqb e.source e.source refl)
    ((bytes_eq-Decides e.action (codes "_")).1 named))
    (eq-eqb e.target e.target refl))

-- and a step goes along an edge
pub record StepEdge (m : Structure) (s t : ℕ) : Type 0 where
  pub edge : Edge
  pub inside : IsMember edge m.edges
  pub is_source : edge.source ≡ s
  pub is_target : edge.target ≡ t

pub step_edge : (m : Structure) (s t : ℕ) → has_step m s t ≡ true → StepEdge m s t
step_edge m s t is =
    let found = list_any-member (λ e. ((e.source == s) && bytes_eq e.action (codes "_")) && (e.target == t)) m.edges is in
    let e = found.item in
    let ends = and_parts ((e.source == s) && bytes_eq e.action (codes "_")) (e.target == t) found.passes in
    let front = and_parts (e.source == s) (bytes_eq e.action (codes "_")) ends.0 in
    record {
      edge = e;
      inside = found.member;
      is_source = eqb-true e.source s front.0;
      is_target = eqb-true e.target t ends.1;
    }

pub asks : (start : Place) → AsksForEdges forms (Root start)
asks start = record {
  start = start;
  total = Total;
  has_edge = HasEdge;
  leads_on = LeadsOn;
  anything = True;
  root_is = refl;
  total_is = refl;
  has_edge_is = refl;
  leads_on_is = refl;
}

module _ (start : Place) (g : Graph) (m : Structure) (s : ℕ) (is_g : IsGraphAt g start) (is : IsStructure m) (low : s < m.states)
    (holds : Holds g m s) where
  asked : (t : ℕ) → IsReachedByStep m s t → (t < m.states) × IsAsked forms (Root start) g is_g m is (asks start) t
  asked t itself = (low, asked_first forms (Root start) g is_g m is (asks start) s low holds)
  asked t (along u _ way step) =
      let before = asked u way in (
        (step_states m is u t step).1,
        asked_behind forms (Root start) g is_g m is (asks start) u t before.0 before.1 (step_target m u t step),
      )

pub edges_go_on : EdgesGoOn
edges_go_on start g m s t is_g is low holds way =
    let here = asked start g m s is_g is low holds t way in
    let to = has_target forms (Root start) g is_g m is (asks start) t here.0 here.1 in
    (to.0, target_step m t to.0 to.1)
