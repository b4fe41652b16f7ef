use Rattle.std.proofs.Common.{List, ℕ, ◌<◌, get_or, sym, ap, subst, length, arith}
use Rattle.ml_graph.specs.Graph.{size}
use Rattle.ml_sequent.specs.Spread.{IsOpenNode, IsLeastOpenOr}
use Rattle.ml_sequent.proofs.Firsts.{least_open, none_open}
use Rattle.ml_sequent.proofs.OwnSpreads.{spread_low}
use Rattle.ml_sequent.proofs.questions.open_or.Goals as goal

pub is_open-requires : goal.is_open-requires
is_open-requires c =
    let long = ap length c.nodes-node-items.ensures.value in
    subst (λ (xs : List ℕ). get_or xs c.loop-node.node-index 0 < size c.args.graph.now) (sym c.nodes-node-items.ensures.value)
    (spread_low c.args.graph.now c.args.spread.now c.requires c.loop-node.node-index 0 (omega arith))

pub returns-then-is_open : goal.returns-then-is_open
returns-then-is_open c =
    let i = c.loop-node.node-index in
    let long = ap length c.nodes-node-items.ensures.value in
    let low : i < length c.args.spread.now.nodes = omega arith in
    let here = c.is_open.ensures.0 c.if-is_open.true in
    let chosen = subst (λ choice. IsOpenNode c.args.graph.now choice (get_or c.nodes-node-items.result.now i 0)) c.choice.ensures here in
    subst (λ (xs : List ℕ). IsLeastOpenOr c.args.graph.now c.args.spread.now (get_or xs i 0)) (sym c.nodes-node-items.ensures.value)
    (least_open c.args.graph.now c.args.spread.now c.requires i low
    (subst (λ (xs : List ℕ). IsOpenNode c.args.graph.now c.args.spread.now.choice (get_or xs i 0)) c.nodes-node-items.ensures.value chosen) c.loop-node.invariant)

pub returns : goal.returns
returns c =
    let long = ap length c.nodes-node-items.ensures.value in
    none_open c.args.graph.now c.args.spread.now c.loop-node.node-index (omega arith) c.loop-node.invariant
