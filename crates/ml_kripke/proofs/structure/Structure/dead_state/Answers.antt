use Rattle.std.proofs.Common.{◌<◌, sym, subst, ap, ◌∙◌, All, arith}
use Rattle.ml_kripke.proofs.DeadStates.{dead_from, walk_stops, walk_ends, least_dead, all_go_on}
use Rattle.ml_kripke.proofs.structure.Structure.dead_state.Goals as goal

pub returns-then-edge-state : goal.returns-then-edge-state
returns-then-edge-state c =
    let a = c.args.action.now in
    let m = c.args.self.now in
    let edges = c.edges-edge-items.result.now in
    let e = c.edge-item.result in
    let n = m.states in
    let joined =
    subst (All (λ d. (d.source < n) × (d.target < n))) (sym c.edges-edge-items.ensures) c.states-states.ensures.is_structure.joins_states in
    let ends = subst (λ d. (d.source < n) × (d.target < n)) (sym c.edge-item.is) (joined c.loop-edge.edge-index e c.loop-edge-test.true) in
    let stops = walk_stops a edges c.loop-edge.edge-index c.loop-edge.state e c.loop-edge-test.true c.edge-item.is c.if-edge-state.true in
    least_dead m a c.loop-edge.state c.states-states.ensures.is_ordered.edges_ascend
    (ap (λ es. dead_from a es 0) (sym c.edges-edge-items.ensures) ∙ sym c.loop-edge.invariant ∙ sym stops)
    (omega (arith, ends.0, c.if-edge-state.true))

pub returns-then-state-states : goal.returns-then-state-states
returns-then-state-states c =
    let a = c.args.action.now in
    least_dead c.args.self.now a c.loop-edge.state c.states-states.ensures.is_ordered.edges_ascend
    (ap (λ es. dead_from a es 0) (sym c.edges-edge-items.ensures) ∙ sym c.loop-edge.invariant
    ∙ walk_ends a c.edges-edge-items.result.now c.loop-edge.edge-index c.loop-edge.state c.loop-edge-test.false)
    (omega (arith, c.states-states.ensures.value, c.if-state-states.true))

pub returns-else-state-states : goal.returns-else-state-states
returns-else-state-states c =
    let a = c.args.action.now in
    all_go_on c.args.self.now a c.loop-edge.state c.states-states.ensures.is_ordered.edges_ascend
    (ap (λ es. dead_from a es 0) (sym c.edges-edge-items.ensures) ∙ sym c.loop-edge.invariant
    ∙ walk_ends a c.edges-edge-items.result.now c.loop-edge.edge-index c.loop-edge.state c.loop-edge-test.false)
    (λ below. omega (arith, c.states-states.ensures.value, c.if-state-states.false, below))
