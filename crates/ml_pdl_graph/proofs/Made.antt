-- The graph that was made of a formula is its graph.
--
--   graph_made  == the graph of lists that are those of a formula is the formula's
use Rattle.std.proofs.Common.{◌≡◌, Bool, [], length, sym, ◌∙◌, ap, subst, if◌then◌else◌}
use Rattle.ml_graph.specs.Graph.{Graph}
use Rattle.ml_text.proofs.Names.{names_among}
use Rattle.ml_pdl.specs.Formula.{Formula}
use Rattle.ml_pdl.specs.FormulaNames.{names}
use Rattle.ml_pdl_graph.specs.PdlGraph.{IsGraphOf}
use Rattle.ml_pdl_graph.specs.private.NodeList.{props_onto, actions_onto, nodes_of, priorities_of}
use Rattle.ml_nodes.proofs.StandingLists.{all_stand}
use Rattle.ml_pdl_graph.proofs.InRange.{lists_make_graph}
use Rattle.ml_pdl_graph.proofs.NodeLists.{length-nodes, stands}

pub graph_made : {g h : Graph} {t f : Formula} {negated : Bool}
    → h ≡ g
    → t ≡ f
    → g.props ≡ props_onto t []
    → g.actions ≡ actions_onto t []
    → g.nodes ≡ nodes_of g.props g.actions 0 t
    → g.priorities ≡ priorities_of t
    → g.root ≡ (if negated then 1 else 0)
    → IsGraphOf h f negated
graph_made {g} {h} {t} {f} {negated} same tree props actions nodes priorities root =
    let is : IsGraphOf g t negated = record {
      is_graph = lists_make_graph g t negated props actions nodes priorities root;
      two_for_each = ap length nodes ∙ length-nodes g.props g.actions 0 t;
      stands =
          stands g 0 t (names_among (names t) props actions)
          (all_stand g (nodes_of g.props g.actions 0 t) (priorities_of t) nodes priorities);
      root_is = root;
    } in
    subst (λ k. IsGraphOf k f negated) (sym same) (subst (λ k. IsGraphOf g k negated) tree is)
