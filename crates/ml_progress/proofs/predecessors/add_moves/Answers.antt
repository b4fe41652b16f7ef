-- Each move is put behind all others, and becomes the last one of its chain.
use Rattle.std.proofs.Common.{get_or, length, refl, rules}
use Rattle.ml_progress.proofs.MoveChains.{moves_none, moves_more}
use Rattle.ml_progress.proofs.predecessors.add_moves.Goals as goal

pub loop-to-init : goal.loop-to-init
loop-to-init c =
    moves_none (length c.args.last.now) c.args.vertex c.args.moves.now c.args.last.now c.args.arrows.now.items
    c.requires.chained

pub loop-to-preserved : goal.loop-to-preserved
loop-to-preserved c =
    moves_more (length c.args.last.now) c.args.vertex c.loop-to.to-index (get_or c.args.moves.now c.loop-to.to-index 0)
    c.len.result c.args.moves.now c.args.last.now c.loop-to.last c.args.arrows.now.items c.loop-to.arrows.items
    c.push.new.self.items c.loop-to.invariant c.requires.vertex refl
    (c.requires.moves c.loop-to.to-index 0 c.loop-to-test.true) c.in_ok-push.ensures.items (search rules)
