-- There is no chain at first; the moves of each vertex are put into chains, and these are laid out.
use Rattle.std.proofs.Common.{arith, ◌≡◌}
use Rattle.std.proofs.lemmas.Result.{IfOk-weaker}
use Rattle.ml_parity.specs.private.SolverSteps.{ArePredecessors}
use Rattle.ml_parity.proofs.Backwards.{chains_begin, from_turn, chains_end}
use Rattle.ml_parity.proofs.zielonka.predecessors.predecessors_of.Goals as goal

pub loop-vertex-init : goal.loop-vertex-init
loop-vertex-init c =
    chains_begin c.args.game.now c.size-size.result c.in_ok-last.last.items c.new-arrows.result.items
    c.size-size.ensures.game.lists c.size-size.ensures.vertices (c.in_ok-last.ensures.items_if_clones_equal (λ y e. e))

pub loop-vertex-preserved : goal.loop-vertex-preserved
loop-vertex-preserved c =
    from_turn c.args.game.now c.loop-vertex.last.len c.loop-vertex.vertex c.loop-vertex.last.items
    c.deref_mut.result.now c.add_moves.new.last _ c.loop-vertex.arrows.items c.add_moves.new.arrows.items
    c.moves_at.result.now (omega (arith, c.loop-vertex-test.true)) c.loop-vertex.last.ok.0 c.deref_mut.ensures.value
    c.moves_at.ensures.moves c.loop-vertex.invariant c.in_ok-add_moves.ensures

pub returns : goal.returns
returns c =
    let done : c.loop-vertex.vertex ≡ 0 = omega (arith, c.loop-vertex-test.false) in
    IfOk-weaker c.laid_out.result _ (ArePredecessors c.args.game.now)
    (λ made. chains_end c.args.game.now c.loop-vertex.vertex c.loop-vertex.last.items c.deref.result.now
    c.loop-vertex.arrows.items c.deref-2.result.now made done c.deref.ensures.value
    c.deref-2.ensures.value c.loop-vertex.invariant) c.laid_out.ensures
