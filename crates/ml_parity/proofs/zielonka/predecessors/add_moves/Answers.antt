-- One move more.
use Rattle.std.proofs.Common.{arith, refl}
use Rattle.ml_parity.proofs.Backwards.{adds_more}
use Rattle.ml_parity.proofs.zielonka.predecessors.add_moves.Goals as goal

pub loop-to-preserved : goal.loop-to-preserved
loop-to-preserved c =
    adds_more c.args.last.now c.loop-to.last c.args.arrows.now.items c.loop-to.arrows.items c.push.new.self.items
    c.args.vertex c.loop-to.to-index _ _ c.len.result c.args.moves.now c.loop-to-test.true refl
    (omega (arith, c.requires c.loop-to.to-index c.loop-to-test.true, c.loop-to.auto.last)) refl
    c.in_ok-push.ensures.items (omega (arith, c.len.ensures, c.push.new.self.ok.0)) c.loop-to.invariant
