-- One is counted up, for which there is room.
use Rattle.std.proofs.Common.{arith, ap, length, refl}
use Rattle.ml_parity.proofs.AttractLoops.{room_left, one_up}
use Rattle.ml_parity.proofs.zielonka.attractor.count_up.Goals as goal

pub prove-unreachable-requires : goal.prove-unreachable-requires
prove-unreachable-requires c =
    let room = room_left c.args.game.now c.args.left.now c.loop-from.left c.args.predecessors.now c.loop-from.from-index
    c.loop-from-test.true (c.requires.vertices c.loop-from.from-index c.loop-from-test.true) c.requires.room
    c.loop-from.invariant in
    let same = ap length c.moves_at.ensures.moves in
    omega (arith, c.if-prove.true)

pub loop-from-preserved : goal.loop-from-preserved
loop-from-preserved c =
    one_up c.args.game.now c.args.left.now c.loop-from.left c.args.predecessors.now c.loop-from.from-index _
    (omega (arith, c.requires.counts, c.loop-from.auto.left)) c.loop-from-test.true
    (c.requires.vertices c.loop-from.from-index c.loop-from-test.true) refl c.loop-from.invariant
