-- The moves of the next vertex are added.
use Rattle.ml_progress.proofs.MoveChains.{chains_more}
use Rattle.ml_progress.proofs.predecessors.predecessors_of.Goals as goal

pub loop-vertex-preserved : goal.loop-vertex-preserved
loop-vertex-preserved c =
    chains_more c.args.game.now c.loop-vertex.vertex c.loop-vertex.last.len c.moves_at.result.now
    c.loop-vertex.last.items c.deref_mut.result.now c.add_moves.new.last c.loop-vertex.arrows.items
    c.add_moves.new.arrows.items c.loop-vertex.last.ok.0 c.deref_mut.ensures.value c.moves_at.ensures.moves
    c.loop-vertex.invariant c.in_ok-add_moves.ensures
