use Rattle.std.proofs.Common.{false, replicate, sym, subst, All, ◌<◌, ap, ◌∙◌, arith}
use Rattle.ml_base.proofs.EdgeSets.{no_edges, edge_more, edge_kept, in_range}
use Rattle.ml_pdl_meaning.proofs.EdgeSets.{all_edges}
use Rattle.ml_pdl_meaning.proofs.sets.edges_into.Goals as goal
use Rattle.ml_pdl_meaning.proofs.sets.edges_into.Goals.{then-leads_into, else-leads_into}

pub loop-edge-init : goal.loop-edge-init
loop-edge-init c =
    c.in_ok-states.ensures.value ∙ ap (λ n. replicate n false) c.states.ensures.value
    ∙ no_edges c.args.action.now c.args.set.now c.args.structure.now.states

pub loop-edge-preserved : goal.loop-edge-preserved
loop-edge-preserved c =
    let edges = c.edges-edge-items.result.now in
    let n = c.args.structure.now.states in
    let joined =
    subst (All (λ d. (d.source < n) × (d.target < n))) (sym c.edges-edge-items.ensures)
    c.states.ensures.is_structure.joins_states
    in
    let ends = in_range edges n c.loop-edge.edge-index c.edge-item.result joined c.loop-edge-test.true c.edge-item.is in
    elim c.if-leads_into.branch [
      | then-leads_into w ↦
          ap (λ states. states.items) w.states-is
          ∙ edge_more edges c.args.action.now c.args.set.now n c.loop-edge.edge-index c.edge-item.result
          c.loop-edge.states.items c.loop-edge-test.true c.edge-item.is ends.0
          (sym c.leads_into.ensures ∙ w.if-leads_into.true) c.loop-edge.invariant
      | else-leads_into w ↦
          ap (λ states. states.items) w.states-is
          ∙ edge_kept edges c.args.action.now c.args.set.now n c.loop-edge.edge-index c.edge-item.result
          c.loop-edge.states.items c.loop-edge-test.true c.edge-item.is
          (sym c.leads_into.ensures ∙ w.if-leads_into.false) c.loop-edge.invariant
    ]

pub returns-clause-value : goal.returns-clause-value
returns-clause-value c =
    all_edges c.args.structure.now c.edges-edge-items.result.now c.args.action.now c.args.set.now
    c.loop-edge.states.items c.loop-edge.edge-index c.requires c.edges-edge-items.ensures (omega (arith, c.loop-edge-test.false))
    c.loop-edge.invariant
