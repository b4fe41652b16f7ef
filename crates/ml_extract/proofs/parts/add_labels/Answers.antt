use Rattle.std.proofs.Common.{List, ℕ, ◌<◌, get_or, length, sym, ap, subst, arith}
use Rattle.ml_graph.specs.Graph.{size}
use Rattle.ml_sequent.proofs.OwnSpreads.{spread_low}
use Rattle.ml_extract.proofs.GatheredParts.{labels_more}
use Rattle.ml_extract.proofs.parts.add_labels.Goals as goal

pub add_label-requires : goal.add_label-requires
add_label-requires c =
    let long = ap length c.nodes-node-items.ensures.value in
    subst (λ (xs : List ℕ). get_or xs c.loop-node.node-index 0 < size c.args.graph.now)
    (sym c.nodes-node-items.ensures.value)
    (spread_low c.args.graph.now c.args.spread.now c.requires c.loop-node.node-index 0 (omega arith))

pub loop-node-preserved : goal.loop-node-preserved
loop-node-preserved c =
    let long = ap length c.nodes-node-items.ensures.value in
    let k = c.loop-node.node-index in
    let n = get_or c.nodes-node-items.result.now k 0 in
    labels_more c.args.graph.now c.args.state c.args.spread.now.nodes k n c.add_label.new.labels.items
    c.loop-node.labels.items c.args.labels.now.items (omega arith)
    (ap (λ (xs : List ℕ). get_or xs k 0) c.nodes-node-items.ensures.value) c.loop-node.invariant
    c.in_ok-add_label.ensures
