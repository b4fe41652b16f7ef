use Rattle.std.proofs.Common.{List, ℕ, ◌<◌, get_or, sym, ap, subst, length, arith}
use Rattle.ml_graph.specs.Graph.{size}
use Rattle.ml_sequent.proofs.OwnSpreads.{spread_low}
use Rattle.ml_sequent.proofs.questions.diamonds.Goals as goal

pub node-requires : goal.node-requires
node-requires c =
    let long = ap length c.nodes-node-items.ensures.value in
    subst (λ (xs : List ℕ). get_or xs c.loop-node.node-index 0 < size c.args.graph.now) (sym c.nodes-node-items.ensures.value)
    (spread_low c.args.graph.now c.args.spread.now c.requires c.loop-node.node-index 0 (omega arith))
